use Rattle.std.proofs.Common.{◌≡◌, get_or, arith, rules, refl, Some}
use Rattle.std.specs.Prelude.{None}
use Rattle.bag.proofs.Adding.{adding_start, other_linked, root_linked, adding_next, adding_low, adding_end}
use Rattle.bag.proofs.Bag.add.Goals as goal

pub loop-self-init : goal.loop-self-init
loop-self-init c = record { adding = adding_start c.requires; size_same = refl }

pub offset_bounds-self-k : goal.offset_bounds-self-k
offset_bounds-self-k c = let l = adding_low c.requires c.loop-self.invariant.adding in omega arith

pub bounds : goal.bounds
bounds c = adding_low c.requires c.loop-self.invariant.adding

pub unite-requires : goal.unite-requires
unite-requires c =
    let is : get_or c.loop-self.self.slots c.loop-self.k None ≡ Some c.in-Some.other = search rules in
    (other_linked c.requires c.loop-self.invariant.adding c.in-Some.other is, root_linked c.requires c.loop-self.invariant.adding)

pub loop-self-smaller : goal.loop-self-smaller
loop-self-smaller c = let l = adding_low c.requires c.loop-self.invariant.adding in omega arith

pub loop-self-preserved : goal.loop-self-preserved
loop-self-preserved c =
    let is : get_or c.loop-self.self.slots c.loop-self.k None ≡ Some c.in-Some.other = search rules in
    record {
      adding = adding_next c.requires c.loop-self.invariant.adding c.in-Some.other is c.unite.ensures;
      size_same = c.loop-self.invariant.size_same;
    }

pub offset_bounds-self-k-2 : goal.offset_bounds-self-k-2
offset_bounds-self-k-2 c = let l = adding_low c.requires c.loop-self.invariant.adding in omega arith

pub bounds-self-k-2 : goal.bounds-self-k-2
bounds-self-k-2 c = adding_low c.requires c.loop-self.invariant.adding

pub overflow_add-self : goal.overflow_add-self
overflow_add-self c = omega (arith, c.loop-self.invariant.size_same, c.requires.sound.counted, c.requires.room)

pub returns : goal.returns
returns c =
    let n : get_or c.loop-self.self.slots c.loop-self.k None ≡ None = search rules in
    rw c.loop-self.invariant.size_same (adding_end c.requires c.loop-self.invariant.adding n)
