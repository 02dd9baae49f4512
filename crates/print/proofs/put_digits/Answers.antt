-- `print::put_digits`: what the loop keeps, and the whole field behind it.
use lib.ListN.{length-set}
use Rattle.matrix.proofs.Decimals.{printing_start, printing_next}
use Rattle.print.proofs.put_digits.Goals as goal

pub loop-k-init : goal.loop-k-init
loop-k-init g c = printing_start _ _ _ _ c.requires.0 (rw length-set c.requires.1)

pub loop-k-preserved : goal.loop-k-preserved
loop-k-preserved g c = printing_next c.loop-k.invariant c.loop-k-test.true
