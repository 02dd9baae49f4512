-- The round of the workers passed is written.
use Rattle.std.proofs.Common.{◌≡◌, ◌*◌, take}
use Rattle.rounds.specs.Whole.{round_from}
use Rattle.rounds.proofs.put_round.Given as goal

abbrev pub invariant-loop-b : goal.invariant-loop-b
invariant-loop-b l = take (2 * l.b) l.round ≡ round_from l.workers 0 l.b
