use Rattle.std.proofs.Common.{arith}
use Rattle.changes.proofs.Touching.{touching_none, touching_ready, touching_next, touching_end}
use Rattle.changes.proofs.marking.touch_all.Goals as goal

pub loop-v-init : goal.loop-v-init
loop-v-init c = touching_none _ _ _ _ _

pub touch-count-requires : goal.touch-count-requires
touch-count-requires c = touching_ready c.loop-v.invariant c.requires.0 c.requires.1 c.requires.2 (omega arith)

pub loop-v-preserved : goal.loop-v-preserved
loop-v-preserved c = touching_next c.loop-v.invariant (omega arith) c.touch-count.ensures

pub returns : goal.returns
returns c = touching_end c.loop-v.invariant (omega arith)
