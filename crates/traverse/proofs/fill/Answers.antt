-- The root, and then the tree below it.
use Rattle.layers.proofs.Spreading.{top_inside, top_links, fill_walk, fill_all}
use Rattle.traverse.proofs.fill.Goals as goal

pub bounds-links-pennant : goal.bounds-links-pennant
bounds-links-pennant c = top_links _ _ c.requires.0 c.requires.1

pub visit-requires : goal.visit-requires
visit-requires c = (c.requires.0, top_inside _ _ c.requires.0 c.requires.1)

pub walk-requires : goal.walk-requires
walk-requires c = let r = fill_walk _ _ c.requires.0 c.requires.1 c.visit.ensures in (r.0, r.1, c.requires.2)

pub returns : goal.returns
returns c = fill_all _ _ c.requires.0 c.requires.1 c.visit.ensures c.walk.ensures
