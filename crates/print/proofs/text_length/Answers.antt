-- `print::text_length`: one object more.
use Rattle.std.proofs.Common.{add-one}
use Rattle.matrix.proofs.Texts.{measured_start, measured_on, measured_end}
use Rattle.print.proofs.text_length.Goals as goal

pub loop-v-init : goal.loop-v-init
loop-v-init c = measured_start _ c.requires c.width.ensures c.width-2.ensures c.more_in.ensures

pub loop-v-preserved : goal.loop-v-preserved
loop-v-preserved c = rw add-one (rw add-one at (measured_on _ c.requires c.loop-v.invariant c.loop-v-test.true c.width-in-loop-v.ensures))

pub returns : goal.returns
returns c = measured_end _ c.requires c.loop-v.invariant c.loop-v-test.false
