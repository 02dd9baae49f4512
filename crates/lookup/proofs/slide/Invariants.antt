use Rattle.std.proofs.Common.{◌+◌}
use Rattle.lookup.proofs.Sliding.{Sliding}
use Rattle.lookup.proofs.slide.Given as goal

-- the window ends before the byte that is looked at, and its tail has the value h
abbrev pub invariant-loop-passed : goal.invariant-loop-passed
invariant-loop-passed l = Sliding l.width l.index l.text l.from (l.end + l.passed) l.h
