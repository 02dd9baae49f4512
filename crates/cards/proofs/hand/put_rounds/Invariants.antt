-- A loop: the turns of the cards before this one stand at the beginning.
use Rattle.seats.proofs.Dealing.{At}
use Rattle.cards.proofs.hand.put_rounds.Given as goal

abbrev pub invariant-loop-card : goal.invariant-loop-card
invariant-loop-card g l = At (g.R.Rounds.workers l.rounds) l.cards l.initial.schedule l.schedule l.at l.card-index
