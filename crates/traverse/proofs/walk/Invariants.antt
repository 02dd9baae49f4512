-- before each turn, the objects that were visited and those that are left make up the tree
use Rattle.graph.specs.Graph.{graph}
use Rattle.layers.proofs.Walking.{Walking, leftover}
use Rattle.traverse.proofs.walk.Given as goal

abbrev pub invariant-loop-rest : goal.invariant-loop-rest
invariant-loop-rest l =
    Walking (graph l.offsets l.targets) l.hop l.initial.rest l.initial.at l.fn.hops l.fn.links l.fn.bag l.hops l.links l.bag l.rights l.heights l.depth l.at l.rest

abbrev pub decreases-loop-rest : goal.decreases-loop-rest
decreases-loop-rest l = leftover l.fn.links l.rights l.heights l.depth l.at l.rest
