-- Number after number: `then` puts each behind those before it.
use Rattle.std.proofs.Common.{arith, le_refl}
use Rattle.text.proofs.Pages.{then}
use Rattle.lines.specs.Lines.{tally_line}
use Rattle.lines.proofs.put_tally.Goals as goal

pub returns : goal.returns
unfolding tally_line
returns c =
    let two = then c.put_named.ensures _ (le_refl _) c.put_named-2.ensures in
    let three = then two _ (le_refl _) c.put_named-3.ensures in
    let four = then three _ (le_refl _) c.put_named-4.ensures in
    then four _ (omega arith) c.put_line.ensures
