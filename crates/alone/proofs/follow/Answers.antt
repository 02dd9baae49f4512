-- The references passed are followed.
use Rattle.std.proofs.Common.{ℕ, ◌+◌, ◌≤◌, ◌<◌, ◌≡◌, List, length, refl, arith, add-one}
use Rattle.alone.specs.Alone.{PartReady}
use Rattle.alone.specs.declared.Found.{Found}
use Rattle.alone.proofs.Parts.{part_begun, part_length, references_there, reference_is, one_ready, part_next}
use Rattle.alone.proofs.follow.Goals as goal

-- a part is there whole
whole : {offsets targets marks s : List ℕ} {from size used : ℕ} → PartReady offsets targets marks s from size used → 1 ≤ size
    → from + size ≤ length targets
whole {from = from} {used = used} x some =
    let none : Found = record { used = used; won = 0; opened = 0 } in
    let e : from + 0 ≡ from = omega arith in
    omega (arith, references_there x (part_begun x none refl refl refl) (omega arith) e)

pub slice_bounds-v-items-end : goal.slice_bounds-v-items-end
slice_bounds-v-items-end c = omega (arith, whole c.requires.ready c.requires.some)

pub follow_one-found-requires : goal.follow_one-found-requires
follow_one-found-requires c =
    let x = c.requires.ready in
    let l : c.loop-v.v-index < c.args.part.size = omega (arith, c.loop-v-test.true, part_length x (whole x c.requires.some)) in
    rw (reference_is x (c.loop-v.invariant x) l refl) (one_ready x (c.loop-v.invariant x) l refl)

pub loop-v-preserved : goal.loop-v-preserved
loop-v-preserved c = λ x.
    let l : c.loop-v.v-index < c.args.part.size = omega (arith, c.loop-v-test.true, part_length x (whole x c.requires.some)) in
    let o = rw (reference_is x (c.loop-v.invariant x) l refl) at c.follow_one-found.ensures in
    rw add-one (part_next x (c.loop-v.invariant x) l refl o c.follow_one-found.auto.s)

pub returns : goal.returns
returns c = λ x.
    let e : c.loop-v.v-index ≡ c.args.part.size =
    omega (arith, c.loop-v-test.false, c.loop-v.auto.v-index-end, part_length x (whole x c.requires.some)) in
    rw e at (c.loop-v.invariant x)
