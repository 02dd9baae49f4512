-- No worker passed has more claims than references followed.
use Rattle.std.proofs.Common.{ℕ, ◌+◌, ◌<◌, ◌≤◌}
use Rattle.saved.specs.Layout.{tally_number}
use Rattle.tallies.proofs.claims_sound.Given as goal

abbrev pub invariant-loop-b : goal.invariant-loop-b
invariant-loop-b l =
    (a : ℕ) → a < l.b → tally_number l.workers l.saved a 1 + tally_number l.workers l.saved a 2 ≤ tally_number l.workers l.saved a 0
