-- A worker that is skipped leaves the round, the first of a round asks itself, and a further one stands between the last and
-- the first.
use Rattle.hands.specs.Hand.{dealt}
use Rattle.hands.proofs.Circle.{kept, skipped}
use Rattle.seats.proofs.Seating.{first_seated, more_seated}
use Rattle.seats.proofs.seat.Goals as goal

pub returns-then-workers-b : goal.returns-then-workers-b
returns-then-workers-b c = record { more = λ before xs p. rw (skipped c.args.workers xs c.args.b c.if-workers-b.true) p }

pub returns-then-next-at : goal.returns-then-next-at
returns-then-next-at c =
    let a = c.args in
    record {
      more = λ before xs p.
          rw (kept a.workers xs a.b c.if-workers-b.false)
          (first_seated (dealt a.workers xs) before a.schedule.now a.at a.next a.b p c.if-next-at.true (c.requires.room c.if-workers-b.false));
    }

pub returns : goal.returns
returns c =
    let a = c.args in
    record {
      more = λ before xs p.
          rw (kept a.workers xs a.b c.if-workers-b.false)
          (more_seated (dealt a.workers xs) before a.schedule.now a.at a.next a.b p c.if-next-at.false (c.requires.room c.if-workers-b.false));
    }
