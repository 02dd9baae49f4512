-- An object with a count is passed over, and one without gets this one.
use Rattle.layers.proofs.Growing.{find_known, find_addable, find_new}
use Rattle.traverse.proofs.find.Goals as goal

pub add-requires : goal.add-requires
add-requires c = find_addable c.requires.0 _ c.requires.1 c.if-hops-i.true

pub returns-then-hops-i : goal.returns-then-hops-i
returns-then-hops-i c = find_new c.requires.0 _ c.requires.1 c.if-hops-i.true c.add.ensures

pub returns-else-hops-i : goal.returns-else-hops-i
returns-else-hops-i c = find_known c.requires.0 _ c.requires.1 c.if-hops-i.false
