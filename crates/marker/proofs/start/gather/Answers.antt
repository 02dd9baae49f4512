-- Before the start at an index, those before it are gathered.
use Rattle.std.proofs.Common.{arith}
use Rattle.marker.proofs.Gather.{gathered_start, gathering, gathered_next, gathered_all}
use Rattle.marker.proofs.start.gather.Goals as goal

pub loop-v-init : goal.loop-v-init
loop-v-init c = λ x. gathered_start x c.requires.1

pub gather_one-t-requires : goal.gather_one-t-requires
gather_one-t-requires c =
    let l = c.loop-v in
    gathering c.requires.0 l.auto.marks l.auto.s c.loop-v-test.true (l.invariant c.requires.0)

pub loop-v-preserved : goal.loop-v-preserved
loop-v-preserved c =
    let l = c.loop-v in
    λ x. gathered_next x l.auto.marks l.auto.s c.loop-v-test.true (l.invariant x) c.gather_one-t.ensures

pub returns : goal.returns
returns c = λ x. gathered_all x c.loop-v.v-index (c.loop-v.invariant x) (omega arith)
