-- What is left of the bytes decides, as long as none that passed is too large.
use Rattle.std.proofs.Common.{◌≡◌, ◌+◌, ◌&&◌, drop}
use Rattle.graph.specs.Graph.{all_below}
use Rattle.checks.proofs.is_at_most.Given as goal

abbrev pub invariant-loop-b : goal.invariant-loop-b
invariant-loop-b l = (l.fits && all_below (l.most + 1) (drop l.b-index l.bytes)) ≡ all_below (l.most + 1) l.bytes
