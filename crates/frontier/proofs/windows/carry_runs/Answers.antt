use Rattle.std.proofs.Common.{arith}
use Rattle.saved.proofs.Pairs.{pair_at}
use Rattle.frontier.proofs.StretchLaws.{runs_none, runs_out}
use Rattle.frontier.proofs.WindowLaws.{taken_end, taken_next, taken_twice, takes_not}
use Rattle.frontier.proofs.windows.carry_runs.Goals as goal

pub returns-then-to-from : goal.returns-then-to-from
returns-then-to-from c =
    let p = pair_at _ c.as_chunks.ensures.front c.as_chunks.ensures.front_len c.loop-from-test.true in
    taken_end c.loop-from.invariant (runs_none _ c.loop-from.from-index p.inside (omega arith))

pub returns-then-not-carry : goal.returns-then-not-carry
returns-then-not-carry c =
    let p = pair_at _ c.as_chunks.ensures.front c.as_chunks.ensures.front_len c.loop-from-test.true in
    takes_not (taken_twice c.loop-from.invariant p.inside (omega arith) (rw (p.first, p.second) at c.carry.ensures) c.if-not-carry.true)

pub loop-from-preserved : goal.loop-from-preserved
loop-from-preserved c =
    let p = pair_at _ c.as_chunks.ensures.front c.as_chunks.ensures.front_len c.loop-from-test.true in
    taken_next c.loop-from.invariant p.inside (omega arith) (rw (p.first, p.second) at c.carry.ensures) c.if-not-carry.false c.carry.auto.carried

pub returns : goal.returns
returns c = taken_end c.loop-from.invariant (runs_out _ c.loop-from.from-index (omega (arith, c.as_chunks.ensures.front_len)))
