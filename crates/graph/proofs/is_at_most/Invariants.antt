-- What is left of the numbers decides, as long as none that passed is too large.
use Rattle.std.proofs.Common.{◌≡◌, ◌+◌, ◌&&◌, drop}
use Rattle.graph.specs.Graph.{all_below}
use Rattle.graph.proofs.is_at_most.Given as goal

abbrev pub invariant-loop-x : goal.invariant-loop-x
invariant-loop-x l = (l.fits && all_below (l.most + 1) (drop l.x-index l.numbers)) ≡ all_below (l.most + 1) l.numbers
