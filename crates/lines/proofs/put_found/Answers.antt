-- Line after line: `then` puts each behind those before it.
use Rattle.std.proofs.Common.{arith, le_refl}
use Rattle.text.proofs.Pages.{then}
use Rattle.lines.specs.Lines.{found_lines}
use Rattle.lines.proofs.put_found.Goals as goal

pub returns : goal.returns
unfolding found_lines
returns c =
    let two = then c.put_state.ensures _ (le_refl _) c.put_line.ensures in
    then two _ (omega arith) c.put_line-2.ensures
