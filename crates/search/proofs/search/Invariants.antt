-- The bag in hand is layer `hop`, and the other one is empty. Each layer that is not empty takes an object, so the objects of the layer and those
-- without a count get fewer.
use Rattle.std.proofs.Common.{◌≡◌, ◌+◌, length}
use Rattle.graph.specs.Graph.{graph}
use Rattle.bag.specs.Bag.{contents, empty}
use Rattle.layers.specs.Hops.{LinksLeft}
use Rattle.layers.specs.Search.{Layer, unknown}
use Rattle.search.proofs.search.Given as goal

abbrev pub invariant-loop-layer : goal.invariant-loop-layer
invariant-loop-layer l = record {
  reached : Layer (graph l.offsets l.targets) l.starts l.hop l.hops l.links l.layer;
  fresh : l.next ≡ empty;
  left : LinksLeft l.hops l.fn.links l.links;
}

abbrev pub decreases-loop-layer : goal.decreases-loop-layer
decreases-loop-layer l = length (contents l.links l.layer) + unknown l.hops
