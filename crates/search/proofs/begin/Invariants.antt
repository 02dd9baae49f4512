-- before each turn the starts so far were looked at
use Rattle.layers.proofs.Growing.{Listing}
use Rattle.search.proofs.begin.Given as goal

abbrev pub invariant-loop-v : goal.invariant-loop-v
invariant-loop-v l = Listing 0 l.starts l.fn.hops l.fn.links l.fn.bag l.hops l.links l.bag l.v-index
