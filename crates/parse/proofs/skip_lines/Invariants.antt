-- `parse::skip_lines`: what is behind the lines passed is skipped as the whole is.
use Rattle.std.proofs.Common.{◌≡◌, false, ◌-◌, ◌≤◌, length, drop}
use Rattle.matrix.specs.Reading.{skip}
use Rattle.parse.proofs.skip_lines.Given as goal

abbrev pub invariant-loop-at : goal.invariant-loop-at
invariant-loop-at l = record { there : l.at ≤ length l.text; same : skip false (drop l.from l.text) ≡ skip false (drop l.at l.text) }

abbrev pub decreases-loop-at : goal.decreases-loop-at
decreases-loop-at l = length l.text - l.at
