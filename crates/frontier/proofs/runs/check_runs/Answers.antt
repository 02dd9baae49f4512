use Rattle.std.proofs.Common.{◌+◌, ◌*◌, refl, arith}
use Rattle.saved.proofs.Pairs.{pair_at}
use Rattle.frontier.proofs.StretchLaws.{runs_start, runs_none, runs_end, runs_part, runs_wrong_run, runs_next, flag_more, flag_one, runs_out}
use Rattle.frontier.proofs.runs.check_runs.Goals as goal
use Rattle.frontier.proofs.runs.check_runs.Goals.{then-i-gt0, else-i-gt0}

pub loop-i-init : goal.loop-i-init
loop-i-init c = runs_start

pub returns-then-to-from : goal.returns-then-to-from
returns-then-to-from c =
    let p = pair_at _ c.as_chunks.ensures.front c.as_chunks.ensures.front_len c.loop-i-test.true in
    runs_end c.loop-i.invariant refl (runs_none _ c.loop-i.i p.inside (omega arith))

pub returns-then-not-whole : goal.returns-then-not-whole
returns-then-not-whole c =
    let p = pair_at _ c.as_chunks.ensures.front c.as_chunks.ensures.front_len c.loop-i-test.true in
    runs_part c.loop-i.invariant p.inside (omega arith) c.if-not-whole.true

pub returns-in_err-own : goal.returns-in_err-own
returns-in_err-own c =
    let p = pair_at _ c.as_chunks.ensures.front c.as_chunks.ensures.front_len c.loop-i-test.true in
    rw c.from_residual.ensures
    (runs_wrong_run c.loop-i.invariant p.inside (omega arith) (rw (p.first, p.second) at c.in_err-own.ensures))

pub loop-i-preserved : goal.loop-i-preserved
loop-i-preserved c =
    let l = c.loop-i in
    let p = pair_at _ c.as_chunks.ensures.front c.as_chunks.ensures.front_len c.loop-i-test.true in
    let found = rw (p.first, p.second) at c.in_ok-own.ensures in
    let w = c.if-not-whole.false in
    let small = c.type_inv.stretch (2 * l.i + 1) in
    rw (c.from-carried.ensures, p.first, p.second)
    (runs_next l.invariant p.inside (omega arith) found w
    (elim c.if-i-gt0.branch [
      | then-i-gt0 t ↦ rw t.whole-is (flag_more l.invariant p.inside (omega arith) found t.if-i-gt0.true w)
      | else-i-gt0 t ↦ rw t.whole-is (flag_one l.invariant p.inside (omega arith) t.if-i-gt0.false w)
    ])
    (omega arith))

pub returns : goal.returns
returns c =
    let l = c.loop-i in
    runs_end l.invariant (omega arith) (runs_out _ l.i (omega (arith, c.as_chunks.ensures.front_len)))
