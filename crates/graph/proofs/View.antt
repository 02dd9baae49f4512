-- The part of the targets that one object's references are, case by case.
use mathlib.Core.Path.{◌≡◌, ap, ◌∙◌}
use mathlib.Core.Bool.{true}
use mathlib.Core.List.{List}
use Prim.Native.Nat.{ℕ, ◌+◌, ◌-◌, ◌≤◌, ◌<◌}
use native.Mathlib.Omega.{arith}
use lib.ListN.{length, get_or, take, drop, length-drop}
use lib.Seq.{length-take-le, get_or-take, get_or-drop}
use borrow.Author.Tests.{lt-ltb, le-leb}
use Rattle.laws.specs.Sum.{sum, hit}
use Rattle.laws.proofs.Sum.{hit_same, hit_equal, sum_at, sum_positive}
use Rattle.graph.specs.Graph.{Graph, Leaves, objects, references, first, after, degree, target, bounded, references_of, IsPart}
use Rattle.graph.specs.Formed.{Formed}
use Rattle.graph.proofs.OverMarked.{after_limit}

module _ (G : Graph) (v : ℕ) where
  bound : v < objects G → first G v ≤ after G v → after G v ≤ references G → bounded G v ≡ true
  bound h q p = rw (lt-ltb _ _ h, le-leb _ _ q, le-leb _ _ p)

  -- the view, where the offsets bound a part
  pub view_part : v < objects G → first G v ≤ after G v → after G v ≤ references G
      → references_of G v ≡ take (after G v - first G v) (drop (first G v) G.targets)
  unfolding references_of
  view_part h q p = let e = bound h q p in rw e

-- the view is the part that was found
pub view_found : {G : Graph} {v start end : ℕ} → IsPart G v start end → take (end - start) (drop start G.targets) ≡ references_of G v
unfolding references_of
view_found p = rw (p.long, p.starts)

-- the view of an object has the targets of the references that leave it, and no others
module _ {G : Graph} (F : Formed G) {v : ℕ} (h : v < objects G) where
  abbrev its_part : List ℕ
  its_part = take (degree G v) (drop (first G v) G.targets)

  part_is : references_of G v ≡ its_part
  part_is = view_part G v h (F.rises v h) (after_limit G F v h)

  part_long : length its_part ≡ degree G v
  part_long =
      length-take-le (degree G v) (drop (first G v) G.targets)
      (rw length-drop (omega (arith, F.rises v h, after_limit G F v h)))

  part_at : (i : ℕ) → i < degree G v → get_or its_part i 0 ≡ target G (first G v + i)
  part_at i w = get_or-take (degree G v) (drop (first G v) G.targets) i 0 w ∙ get_or-drop (first G v) G.targets i 0

  -- as many as leave it, each at its place
  pub view_long : length (references_of G v) ≡ degree G v
  view_long = rw part_is part_long

  pub view_at : (i : ℕ) → i < degree G v → get_or (references_of G v) i 0 ≡ target G (first G v + i)
  view_at i w = rw part_is (part_at i w)

  pub view_has : {e : ℕ} → Leaves G e v → 0 < sum (hit (target G e)) (references_of G v)
  view_has {e} l =
      let low = l.from in
      let high = l.below in
      let p : first G v + (e - first G v) ≡ e = omega arith in
      let i : e - first G v < degree G v = omega arith in
      let is : get_or its_part (e - first G v) 0 ≡ target G e = part_at (e - first G v) i ∙ ap (λ (k : ℕ). target G k) p in
      rw part_is
      (omega (
        arith,
        hit_same (target G e),
        sum_at (hit (target G e)) 0 its_part (e - first G v) (target G e) is (omega (arith, part_long)),
      ))

  pub view_only : (t : ℕ) → 0 < sum (hit t) (references_of G v) → (e : ℕ) × Leaves G e v × (t ≡ target G e)
  view_only t q =
      let r = sum_positive (hit t) 0 its_part (rw part_is at q) in
      let i : r.0 < degree G v = omega (arith, r.1, part_long) in (
        first G v + r.0,
        record { object = h; from = omega arith; below = omega arith },
        hit_equal t (get_or its_part r.0 0) r.2 ∙ part_at r.0 i,
      )
