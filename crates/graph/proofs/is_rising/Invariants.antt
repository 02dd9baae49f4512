-- What is left of the offsets decides, behind the last one looked at, as long as none that passed has fallen.
use Rattle.std.proofs.Common.{◌≡◌, ◌&&◌, ◌∷◌, drop}
use Rattle.graph.specs.Graph.{rising}
use Rattle.graph.proofs.is_rising.Given as goal

abbrev pub invariant-loop-offset : goal.invariant-loop-offset
invariant-loop-offset l = (l.rises && rising (l.last ∷ drop l.offset-index l.offsets)) ≡ rising l.offsets
