-- A loop: the round of the digits before this one stands there.
use Rattle.hands.specs.Deck.{digits}
use Rattle.seats.proofs.Seating.{Sitting}
use Rattle.seats.proofs.put_round.Given as goal

abbrev pub invariant-loop-b : goal.invariant-loop-b
invariant-loop-b l = Sitting l.workers (digits l.n) l.initial.schedule l.at l.schedule l.next l.b-index
