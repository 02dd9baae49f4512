-- What the checks find decides: a refusal, or what remains and the marks afresh.
use Rattle.std.proofs.lemmas.Result.{err_from_is_err_and}
use Rattle.updates.proofs.Checks.{removes_refused, found_removable, removes_fine, remains, afresh_ready, afresh_marks}
use Rattle.remove.proofs.remove.Goals as goal

pub returns-in_err-check : goal.returns-in_err-check
returns-in_err-check c =
    let p = err_from_is_err_and c.from_residual.result c.from_residual.ensures.1 in
    rw (p.1, p.2) (removes_refused _ _ _ _ (rw c.of-lengths.ensures at c.in_err-check.ensures))

pub keep-requires : goal.keep-requires
keep-requires c =
    let r = found_removable _ _ _ _ (rw c.of-lengths.ensures at c.in_ok-check.ensures) in
    (r.formed, r.few_references, r.bounds_long, r.places_long)

pub mark_afresh-requires : goal.mark_afresh-requires
mark_afresh-requires c =
    let r = found_removable _ _ _ _ (rw c.of-lengths.ensures at c.in_ok-check.ensures) in
    afresh_ready r c.keep.ensures.0 c.keep.ensures.1

pub returns : goal.returns
returns c =
    let found = rw c.of-lengths.ensures at c.in_ok-check.ensures in
    let r = found_removable _ _ _ _ found in
    removes_fine _ _ _ _ found (remains r c.keep.ensures.0 c.keep.ensures.1) (afresh_marks r c.keep.ensures.0 c.keep.ensures.1 c.mark_afresh.ensures.0)
    c.mark_afresh.ensures.1
