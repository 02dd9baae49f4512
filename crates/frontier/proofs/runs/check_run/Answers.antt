use Rattle.std.proofs.Common.{arith}
use Rattle.frontier.proofs.RunLaws.{run_limit, has_owner, run_after, run_marked, run_right}
use Rattle.frontier.proofs.runs.check_run.Goals as goal
use Rattle.frontier.proofs.runs.check_run.Goals.{then-offsets-v-via-then-offsets-v, then-offsets-v-via-else-offsets-v+then-marks-v-eq0}

pub returns-then-targets-to : goal.returns-then-targets-to
returns-then-targets-to c =
    let p = c.requires in
    λ w. omega (arith, run_limit p.0 p.1 w, c.if-targets-to.true)

pub object_by-v-requires : goal.object_by-v-requires
object_by-v-requires c = let p = c.requires in has_owner p.0 p.1 c.if-targets-to.false

pub returns-then-offsets-v : goal.returns-then-offsets-v
returns-then-offsets-v c =
    let p = c.requires in
    λ w.
    elim c.then-offsets-v.branch [
      | then-offsets-v-via-then-offsets-v t ↦ omega (arith, run_after p.0 p.1 c.object_by-v.ensures w, t.if-offsets-v.true)
      | then-offsets-v-via-else-offsets-v+then-marks-v-eq0 t ↦ omega (arith, run_marked p.0 p.1 c.object_by-v.ensures w, t.if-marks-v-eq0.true)
    ]

pub returns : goal.returns
returns c =
    let p = c.requires in
    run_right p.0 p.1 c.object_by-v.ensures c.if-offsets-v.false (omega (arith, c.if-marks-v-eq0.false)) c.is_whole.ensures
