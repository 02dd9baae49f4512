-- The words passed are zeros exactly as long as none was found that is not.
use Rattle.std.proofs.Common.{◌≡◌, ℕ, ◌<◌, get_or}
use Rattle.laws.specs.Decides.{Decides}
use Rattle.frontier.proofs.runs.zeros.Given as goal

abbrev pub invariant-loop-word : goal.invariant-loop-word
invariant-loop-word l = Decides l.clear ((k : ℕ) → k < l.word-index → get_or l.words k 0 ≡ 0)
