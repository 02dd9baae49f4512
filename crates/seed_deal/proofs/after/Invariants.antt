-- A loop: the seed is that after the draws so far.
use Rattle.std.proofs.Common.{◌≡◌}
use Rattle.seed.specs.Deal.{after_draws}
use Rattle.seed_deal.proofs.after.Given as goal

abbrev pub invariant-loop : goal.invariant-loop
invariant-loop l = l.left ≡ after_draws l.counter l.initial.left
