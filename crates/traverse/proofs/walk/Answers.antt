-- What is left of the tree are the object in hand with what is below it, and the trees that wait.
use Rattle.std.proofs.Common.{arith}
use Rattle.layers.proofs.Walking.{walk_none, walking_start, shallow, at_links, walking_ready, down_less, walking_down, up_less, walking_up, walking_end}
use Rattle.traverse.proofs.walk.Goals as goal

pub returns-then-tree-eq0 : goal.returns-then-tree-eq0
returns-then-tree-eq0 c = walk_none _ _ c.requires.0 c.if-tree-eq0.true

pub loop-rest-init : goal.loop-rest-init
loop-rest-init c = walking_start c.requires c.if-tree-eq0.false

pub bounds-links-at : goal.bounds-links-at
bounds-links-at c = let l = at_links c.requires c.loop-rest.invariant in omega arith

pub bounds-links-at-then-rest-ne1 : goal.bounds-links-at-then-rest-ne1
bounds-links-at-then-rest-ne1 c = at_links c.requires c.loop-rest.invariant

pub offset_bounds-rights-depth : goal.offset_bounds-rights-depth
offset_bounds-rights-depth c = let s = shallow c.requires c.loop-rest.invariant in omega arith

pub bounds-rights-depth : goal.bounds-rights-depth
bounds-rights-depth c = shallow c.requires c.loop-rest.invariant

pub overflow_cast-heights : goal.overflow_cast-heights
overflow_cast-heights c = omega (arith, c.loop-rest.invariant.deep, c.requires.2)

pub bounds-heights-depth : goal.bounds-heights-depth
bounds-heights-depth c = shallow c.requires c.loop-rest.invariant

pub overflow_add-depth : goal.overflow_add-depth
overflow_add-depth c = let s = shallow c.requires c.loop-rest.invariant in omega arith

pub visit-requires : goal.visit-requires
visit-requires c = walking_ready c.requires c.loop-rest.invariant

pub loop-rest-smaller-then-rest-ne1 : goal.loop-rest-smaller-then-rest-ne1
loop-rest-smaller-then-rest-ne1 c = down_less c.requires c.loop-rest.invariant c.if-rest-ne1.true

pub loop-rest-preserved-then-rest-ne1 : goal.loop-rest-preserved-then-rest-ne1
loop-rest-preserved-then-rest-ne1 c = walking_down c.requires c.loop-rest.invariant c.if-rest-ne1.true c.visit.ensures

pub visit-requires-else-rest-ne1 : goal.visit-requires-else-rest-ne1
visit-requires-else-rest-ne1 c = walking_ready c.requires c.loop-rest.invariant

pub returns-then-depth-eq0 : goal.returns-then-depth-eq0
returns-then-depth-eq0 c =
    walking_end c.requires c.loop-rest.invariant c.if-rest-ne1.false c.if-depth-eq0.true c.visit-else-rest-ne1.ensures

pub offset_bounds-rights-depth-else-rest-ne1 : goal.offset_bounds-rights-depth-else-rest-ne1
offset_bounds-rights-depth-else-rest-ne1 c = let s = shallow c.requires c.loop-rest.invariant in omega arith

pub bounds-rights-depth-else-rest-ne1 : goal.bounds-rights-depth-else-rest-ne1
bounds-rights-depth-else-rest-ne1 c = let s = shallow c.requires c.loop-rest.invariant in omega arith

pub bounds-heights-depth-else-rest-ne1 : goal.bounds-heights-depth-else-rest-ne1
bounds-heights-depth-else-rest-ne1 c = let s = shallow c.requires c.loop-rest.invariant in omega arith

pub loop-rest-smaller : goal.loop-rest-smaller
loop-rest-smaller c = rw c.from-rest.ensures (up_less c.requires c.loop-rest.invariant c.if-rest-ne1.false c.if-depth-eq0.false)

pub loop-rest-preserved : goal.loop-rest-preserved
loop-rest-preserved c =
    rw c.from-rest.ensures (walking_up c.requires c.loop-rest.invariant c.if-rest-ne1.false c.if-depth-eq0.false c.visit-else-rest-ne1.ensures)

pub returns : goal.returns
returns c = absurd (c.loop-rest.invariant.some c.loop-rest-test.false)
