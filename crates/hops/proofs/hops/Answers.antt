-- What the checks find decides: a refusal or the search.
use Rattle.std.proofs.lemmas.Result.{err_from_is_err_and}
use Rattle.hops.proofs.Checks.{answered_refused, found_searchable, answered_fine}
use Rattle.hops.proofs.hops.Goals as goal

pub returns-in_err-check : goal.returns-in_err-check
returns-in_err-check c =
    let p = err_from_is_err_and c.from_residual.result c.from_residual.ensures.1 in
    rw (p.1, p.2) (answered_refused _ _ c.in_err-check.ensures)

pub search-requires : goal.search-requires
search-requires c = found_searchable _ _ c.in_ok-check.ensures

pub returns : goal.returns
returns c = answered_fine _ _ c.in_ok-check.ensures c.search.ensures
