-- A loop: the rounds of the draws before this one stand at the beginning.
use Rattle.seed_deal.proofs.Drawing.{At}
use Rattle.seed_deal.proofs.put_draws.Given as goal

abbrev pub invariant-loop : goal.invariant-loop
invariant-loop g l = At l.initial.left l.draws (g.R.Rounds.workers l.rounds) l.initial.schedule l.left l.schedule l.at l.counter
