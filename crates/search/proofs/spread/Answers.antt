-- The next layer is filled, or a bag of its own that is joined to it.
use Rattle.layers.proofs.Spreading.{own_ready, own_join, own_all}
use Rattle.search.proofs.spread.Goals as goal

pub fill-requires-2 : goal.fill-requires-2
fill-requires-2 c = let r = own_ready c.requires.0 c.requires.1 in (r.0, r.1, c.requires.2)

pub join-requires : goal.join-requires
join-requires c = own_join c.requires.0 c.fill-2.ensures

pub returns : goal.returns
returns c = own_all c.requires.0 c.fill-2.ensures c.join.ensures
