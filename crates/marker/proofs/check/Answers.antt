-- At each exit: the checks before it found nothing, and this one what it says.
use Rattle.std.proofs.Common.{sym, ◌∙◌}
use Rattle.std.proofs.lemmas.Result.{err_from_is_err_and}
use Rattle.marker.proofs.Checks.{finds_8, finds_4, finds_7, finds_store, finds_9, finds_none}
use Rattle.marker.proofs.check.Goals as goal

pub returns-then-settings_outside : goal.returns-then-settings_outside
returns-then-settings_outside c = finds_8 (sym c.if-settings_outside.ensures)

pub returns-then-graph_outside : goal.returns-then-graph_outside
returns-then-graph_outside c = finds_4 (sym c.if-settings_outside.ensures) (sym c.if-graph_outside.ensures)

pub returns-then-lengths_wrong : goal.returns-then-lengths_wrong
returns-then-lengths_wrong c =
    finds_7 (sym c.if-settings_outside.ensures) (sym c.if-graph_outside.ensures) (sym c.if-lengths_wrong.ensures)

pub returns-in_err-check_store : goal.returns-in_err-check_store
returns-in_err-check_store c =
    let p = err_from_is_err_and c.from_residual.result c.from_residual.ensures.1 in
    rw (p.1, p.2)
    (finds_store (sym c.if-settings_outside.ensures) (sym c.if-graph_outside.ensures) (sym c.if-lengths_wrong.ensures) _ c.in_err-check_store.ensures)

pub returns-then-not-schedule_fits : goal.returns-then-not-schedule_fits
returns-then-not-schedule_fits c =
    finds_9 (sym c.if-settings_outside.ensures) (sym c.if-graph_outside.ensures) (sym c.if-lengths_wrong.ensures)
    (sym c.in_ok-check_store.ensures) (sym c.schedule_fits.ensures ∙ c.if-not-schedule_fits.true)

pub returns : goal.returns
returns c =
    finds_none (sym c.if-settings_outside.ensures) (sym c.if-graph_outside.ensures) (sym c.if-lengths_wrong.ensures)
    (sym c.in_ok-check_store.ensures) (sym c.schedule_fits.ensures ∙ c.if-not-schedule_fits.false)
