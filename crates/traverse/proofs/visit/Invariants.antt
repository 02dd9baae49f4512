-- before each turn the references so far were followed
use Rattle.graph.specs.Graph.{graph}
use Rattle.layers.proofs.Visiting.{Visiting}
use Rattle.traverse.proofs.visit.Given as goal

abbrev pub invariant-loop-v : goal.invariant-loop-v
invariant-loop-v l = Visiting (graph l.offsets l.targets) l.hop l.u l.fn.hops l.fn.links l.fn.bag l.hops l.links l.bag l.v-index
