-- The objects passed are as is asked.
use Rattle.std.proofs.Common.{◌≡◌, ℕ, ◌≤◌, ◌<◌, MatchBool, get_or}
use Rattle.machine.specs.Sound.{Marked}
use Rattle.marks.proofs.alike_end.Given as goal

abbrev pub invariant-loop-u : goal.invariant-loop-u
invariant-loop-u l =
    MatchBool l.marked ((k : ℕ) → l.v ≤ k → k < l.u → Marked l.marks k) ((k : ℕ) → l.v ≤ k → k < l.u → get_or l.marks k 0 ≡ 0)
