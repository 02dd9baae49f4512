use Rattle.std.proofs.Common.{sym}
use Rattle.std.proofs.lemmas.Result.{err_from_is_err_and}
use Rattle.names.proofs.Checks.{sound}
use Rattle.scan.proofs.Calls.{ready, work_long, work_again, refused, filled}
use Rattle.scan.proofs.scan.Goals as goal

pub put_index-requires : goal.put_index-requires
put_index-requires c =
    let s = sound _ _ _ _ (sym c.in_ok-check.ensures) in
    (s.0.long, work_long c.args.work.now s.1)

pub new-requires : goal.new-requires
new-requires c = let s = sound _ _ _ _ (sym c.in_ok-check.ensures) in ready s.0 c.put_index.ensures

pub fill-filled-requires-clause-right : goal.fill-filled-requires-clause-right
fill-filled-requires-clause-right c = let s = sound _ _ _ _ (sym c.in_ok-check.ensures) in s.0.right

pub fill-filled-requires-clause-owned : goal.fill-filled-requires-clause-owned
fill-filled-requires-clause-owned c = let s = sound _ _ _ _ (sym c.in_ok-check.ensures) in s.0.owned

pub returns-clause-work_unchanged : goal.returns-clause-work_unchanged
returns-clause-work_unchanged c =
    let s = sound _ _ _ _ (sym c.in_ok-check.ensures) in
    work_again c.args.work.now s.1 c.put_index.ensures.long c.clear_index.ensures

pub returns-clause-result_value : goal.returns-clause-result_value
returns-clause-result_value c = (filled _ _ _ _ _ _ c.fill-filled.result (sym c.in_ok-check.ensures) (rw c.new.ensures at c.fill-filled.ensures)).0

pub returns-clause-from_after : goal.returns-clause-from_after
returns-clause-from_after c = (filled _ _ _ _ _ _ c.fill-filled.result (sym c.in_ok-check.ensures) (rw c.new.ensures at c.fill-filled.ensures)).1

pub returns-clause-to_after : goal.returns-clause-to_after
returns-clause-to_after c = (filled _ _ _ _ _ _ c.fill-filled.result (sym c.in_ok-check.ensures) (rw c.new.ensures at c.fill-filled.ensures)).2

-- a check fails

pub returns-in_err-check-clause-result_value : goal.returns-in_err-check-clause-result_value
returns-in_err-check-clause-result_value c =
    let p = err_from_is_err_and c.from_residual.result c.from_residual.ensures.1 in
    rw (p.1, p.2) (refused _ _ _ _ c.args.from.now c.args.to.now c.in_err-check.field-0.0 c.in_err-check.ensures).0

pub returns-in_err-check-clause-from_after : goal.returns-in_err-check-clause-from_after
returns-in_err-check-clause-from_after c = (refused _ _ _ _ c.args.from.now c.args.to.now c.in_err-check.field-0.0 c.in_err-check.ensures).1

pub returns-in_err-check-clause-to_after : goal.returns-in_err-check-clause-to_after
returns-in_err-check-clause-to_after c = (refused _ _ _ _ c.args.from.now c.args.to.now c.in_err-check.field-0.0 c.in_err-check.ensures).2
