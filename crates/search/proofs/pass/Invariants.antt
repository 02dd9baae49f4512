-- before each turn the pennants in the slots so far were spread
use Rattle.graph.specs.Graph.{graph}
use Rattle.layers.proofs.Spreading.{Passing}
use Rattle.search.proofs.pass.Given as goal

abbrev pub invariant-loop-height : goal.invariant-loop-height
invariant-loop-height l = Passing (graph l.offsets l.targets) l.hop l.fn.hops l.fn.links l.fn.next l.fn.layer l.hops l.links l.next l.height l.rest
