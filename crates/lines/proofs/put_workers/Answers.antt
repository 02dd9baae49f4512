-- Line after line: `then` puts each behind those before it.
use Rattle.std.proofs.Common.{arith, le_refl}
use Rattle.text.proofs.Pages.{then}
use Rattle.lines.specs.Lines.{worker_lines}
use Rattle.lines.proofs.put_workers.Goals as goal

pub returns : goal.returns
unfolding worker_lines
returns c =
    let two = then c.put_line.ensures _ (le_refl _) c.put_line-2.ensures in
    let three = then two _ (le_refl _) c.put_line-3.ensures in
    then three _ (omega arith) c.put_line-4.ensures
