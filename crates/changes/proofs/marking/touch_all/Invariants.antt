-- before each turn the objects so far were looked at
use Rattle.changes.proofs.Touching.{Touching}
use Rattle.changes.proofs.marking.touch_all.Given as goal

abbrev pub invariant-loop-v : goal.invariant-loop-v
invariant-loop-v l = Touching l.value l.objects l.fn.marks l.fn.list l.top l.marks l.list l.count l.v-index
