-- The second lines stand behind the first.
use Rattle.std.proofs.Common.{arith}
use Rattle.text.proofs.Pages.{then}
use Rattle.lines.specs.Lines.{count_lines}
use Rattle.lines.proofs.put_counts.Goals as goal

pub returns : goal.returns
unfolding count_lines
returns c = then c.put_found.ensures _ (omega arith) c.put_workers.ensures
