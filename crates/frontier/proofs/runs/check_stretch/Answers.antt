use Rattle.laws.proofs.Decides.{refuted}
use Rattle.frontier.proofs.StretchLaws.{stretch_idle, idle_zeros}
use Rattle.frontier.proofs.runs.check_stretch.Goals as goal

pub returns-then-not-zeros : goal.returns-then-not-zeros
returns-then-not-zeros c =
    λ s. refuted c.zeros.ensures c.if-not-zeros.true (idle_zeros c.if-status-lt-GIVEN.true s)

pub returns-then-status-lt-GIVEN : goal.returns-then-status-lt-GIVEN
returns-then-status-lt-GIVEN c =
    let h = c.if-status-lt-GIVEN.true in
    stretch_idle h (c.requires.2 h) (c.zeros.ensures.right c.if-not-zeros.false)
