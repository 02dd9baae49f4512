use Rattle.std.proofs.Common.{◌-◌, length}
use Rattle.scan.proofs.Finding.{Seeking}
use Rattle.scan.proofs.passes.Finder.next_mention.Given as goal

-- what is left of the text has the mentions that are sought
abbrev pub invariant-loop-place : goal.invariant-loop-place
invariant-loop-place l = Seeking l.self l.text l.from l.at l.known

abbrev pub decreases-loop-place : goal.decreases-loop-place
decreases-loop-place l = length l.text - l.at
