use Rattle.std.proofs.Common.{arith, sym, ◌/◌, ◌∙◌, length}
use Rattle.desk.proofs.Schedule.{fits_odd, fits_below}
use Rattle.checks.proofs.schedule_fits.Goals as goal

pub returns-then-schedule-ne0 : goal.returns-then-schedule-ne0
returns-then-schedule-ne0 c = let a = c.args in sym (fits_odd a.workers a.schedule.now (λ k e. c.if-schedule-ne0.true (omega arith)))

pub returns-then-all_below : goal.returns-then-all_below
returns-then-all_below c =
    let a = c.args in
    c.if-all_below.true ∙ sym (fits_below a.workers a.schedule.now (c.all_below.ensures c.if-all_below.true) (length a.schedule.now / 2) (omega arith))
