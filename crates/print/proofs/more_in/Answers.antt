-- `print::more_in`: one target more.
use Rattle.matrix.proofs.Texts.{counting_start, counting_on}
use Rattle.print.proofs.more_in.Goals as goal

pub loop-target-init : goal.loop-target-init
loop-target-init c = counting_start c.requires.0

pub loop-target-preserved : goal.loop-target-preserved
loop-target-preserved c = counting_on c.loop-target.invariant c.loop-target-test.true c.more_digits-more.ensures
