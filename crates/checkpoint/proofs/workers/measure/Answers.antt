use Rattle.std.proofs.Common.{ℕ, ◌≡◌, ◌+◌, ◌*◌, length, arith}
use Rattle.saved.proofs.Pairs.{pair_at}
use Rattle.checkpoint.proofs.Records.{going_stop, going_next, going_end}
use Rattle.checkpoint.proofs.workers.measure.Goals as goal

pub returns-then-end-first : goal.returns-then-end-first
returns-then-end-first c =
    let p = pair_at _ c.as_chunks.ensures.front c.as_chunks.ensures.front_len c.loop-i-test.true in
    going_stop c.loop-i.invariant p.inside (omega arith)

pub overflow_add-carried : goal.overflow_add-carried
overflow_add-carried c =
    let p = pair_at _ c.as_chunks.ensures.front c.as_chunks.ensures.front_len c.loop-i-test.true in
    let next = going_next c.loop-i.invariant p.inside (omega arith) in
    omega (arith, next.references_are, c.requires.0)

-- the next pair
pair_next : (i : ℕ) → 2 * i + 2 ≡ 2 * (i + 1)
pair_next i = omega arith

pub loop-i-preserved : goal.loop-i-preserved
loop-i-preserved c =
    let p = pair_at _ c.as_chunks.ensures.front c.as_chunks.ensures.front_len c.loop-i-test.true in
    rw (p.first, p.second) (rw pair_next at (going_next c.loop-i.invariant p.inside (omega arith)))

pub returns : goal.returns
returns c =
    let all : c.loop-i.i ≡ length c.as_chunks.result.0.now = omega arith in
    rw all at (going_end c.loop-i.invariant (omega (arith, c.as_chunks.ensures.front_len)))
