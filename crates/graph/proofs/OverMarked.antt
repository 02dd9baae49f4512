-- Sums over marked objects: one more mark, comparison, and all objects together.
use mathlib.Core.Path.{◌≡◌, refl, ap}
use mathlib.Core.List.{List, [], ◌∷◌, map}
use mathlib.Core.Logic.{⊎_elim}
use Prim.Native.Nat.{ℕ, zero, suc, ◌+◌, ◌-◌, ◌≤◌, ◌<◌}
use native.Mathlib.Omega.{arith}
use native.Mathlib.Nat.{add-zero, zero-add}
use lib.ListN.{length, get_or, set, replicate}
use Rattle.laws.specs.Span.{span}
use Rattle.laws.specs.Sum.{hit}
use Rattle.laws.proofs.Sum.{either_positive, inside}
use Rattle.laws.proofs.Span.{span_add, span_one, span_hit_in, span_hit_one, span_hit_at_most_one}
use Rattle.graph.specs.Graph.{Graph, Leaves, objects, references, first, after, degree}
use Rattle.graph.specs.Chain.{over_marked}
use Rattle.graph.specs.Formed.{Formed}
use Rattle.graph.specs.Leaving.{leaving_sum, leaving_unmarked, unset?}

module _ (f : ℕ → ℕ) where
  -- one more mark
  pub over_set : (b : ℕ) (ms : List ℕ) (v k : ℕ) → get_or ms v 1 ≡ 0
      → over_marked f b (set ms v (suc k)) ≡ over_marked f b ms + f (b + v)
  unfolding over_marked
  over_set b [] v k e = absurd (omega arith)
  over_set b (zero ∷ ms) zero k e = rw (add-zero b) (omega arith)
  over_set b (suc m ∷ ms) zero k e = absurd (omega arith)
  over_set b (zero ∷ ms) (suc v) k e =
      let p : b + suc v ≡ suc b + v = omega arith in
      rw p (over_set (suc b) ms v k e)
  over_set b (suc m ∷ ms) (suc v) k e =
      let p : b + suc v ≡ suc b + v = omega arith in
      rw p (omega (arith, over_set (suc b) ms v k e))

  -- a mark again
  pub over_set_again : (b : ℕ) (ms : List ℕ) (v k j : ℕ) → get_or ms v 1 ≡ suc j → over_marked f b (set ms v (suc k)) ≡ over_marked f b ms
  unfolding over_marked
  over_set_again b [] v k j e = refl
  over_set_again b (zero ∷ ms) zero k j e = absurd (omega arith)
  over_set_again b (suc m ∷ ms) zero k j e = refl
  over_set_again b (zero ∷ ms) (suc v) k j e = over_set_again (suc b) ms v k j e
  over_set_again b (suc m ∷ ms) (suc v) k j e = omega (arith, over_set_again (suc b) ms v k j e)

  -- no mark at all
  pub over_none : (b n : ℕ) → over_marked f b (replicate n 0) ≡ 0
  unfolding over_marked
  over_none b zero = refl
  over_none b (suc n) = over_none (suc b) n

  -- a marked object's share
  over_at : (b : ℕ) (ms : List ℕ) (v : ℕ) → 0 < get_or ms v 0 → f (b + v) ≤ over_marked f b ms
  unfolding over_marked
  over_at b [] v h = absurd (omega arith)
  over_at b (zero ∷ ms) zero h = absurd (omega arith)
  over_at b (suc m ∷ ms) zero h = rw (add-zero b) (omega arith)
  over_at b (zero ∷ ms) (suc v) h =
      let p : b + suc v ≡ suc b + v = omega arith in
      rw p (over_at (suc b) ms v h)
  over_at b (suc m ∷ ms) (suc v) h =
      let p : b + suc v ≡ suc b + v = omega arith in
      rw p (omega (arith, over_at (suc b) ms v h))

  -- more marks, a larger sum
  pub over_below : (b : ℕ) (ms ms' : List ℕ) → ((v : ℕ) → 0 < get_or ms v 0 → 0 < get_or ms' v 0)
      → over_marked f b ms ≤ over_marked f b ms'
  unfolding over_marked
  over_below b [] ms' h = omega arith
  over_below b (zero ∷ ms) [] h = over_below (suc b) ms [] (λ (v : ℕ) (p : 0 < get_or ms v 0). h (suc v) p)
  over_below b (suc m ∷ ms) [] h = absurd (omega (arith, h 0 (omega arith)))
  over_below b (zero ∷ ms) (zero ∷ ms') h = over_below (suc b) ms ms' (λ (v : ℕ) (p : 0 < get_or ms v 0). h (suc v) p)
  over_below b (zero ∷ ms) (suc m' ∷ ms') h =
      omega (arith, over_below (suc b) ms ms' (λ (v : ℕ) (p : 0 < get_or ms v 0). h (suc v) p))
  over_below b (suc m ∷ ms) (zero ∷ ms') h = absurd (omega (arith, h 0 (omega arith)))
  over_below b (suc m ∷ ms) (suc m' ∷ ms') h =
      omega (arith, over_below (suc b) ms ms' (λ (v : ℕ) (p : 0 < get_or ms v 0). h (suc v) p))

  -- a sum above 0 has a marked object whose share is
  over_positive : (b : ℕ) (ms : List ℕ) → 0 < over_marked f b ms → (v : ℕ) × (0 < get_or ms v 0) × (0 < f (b + v))
  unfolding over_marked
  over_positive b [] h = absurd (omega arith)
  over_positive b (zero ∷ ms) h =
      let r = over_positive (suc b) ms h in
      let p : b + suc r.0 ≡ suc b + r.0 = omega arith in
      (suc r.0, r.1, rw p r.2)
  over_positive b (suc m ∷ ms) h =
      ⊎_elim
      (λ (p : 0 < f b). let q : 0 < f (b + 0) = rw (add-zero b) p in (0, omega arith, q))
      (λ (p : 0 < over_marked f (suc b) ms).
      let r = over_positive (suc b) ms p in
      let q : b + suc r.0 ≡ suc b + r.0 = omega arith in
      let t : 0 < f (b + suc r.0) = rw q r.2 in
      (suc r.0, r.1, t))
      (either_positive (f b) (over_marked f (suc b) ms) h)

-- a smaller weight
over_agree : (f g : ℕ → ℕ) (b : ℕ) (ms : List ℕ) → ((v : ℕ) → f v ≡ g v) → over_marked f b ms ≡ over_marked g b ms
unfolding over_marked
over_agree f g b [] h = refl
over_agree f g b (zero ∷ ms) h = over_agree f g (suc b) ms h
over_agree f g b (suc m ∷ ms) h = omega (arith, h b, over_agree f g (suc b) ms h)

module _ (G : Graph) (F : Formed G) where
  -- offsets do not fall, also further on
  pub offsets_rise : (v k : ℕ) → v + k ≤ objects G → first G v ≤ first G (v + k)
  offsets_rise v zero h = rw (add-zero v) (omega arith)
  offsets_rise v (suc k) h =
      let p : v + suc k ≡ suc v + k = omega arith in
      let h' : suc v + k ≤ objects G = omega arith in
      rw p (omega (arith, F.rises v (omega arith), offsets_rise (suc v) k h'))

  -- an object's references end among the targets
  pub after_limit : (v : ℕ) → v < objects G → after G v ≤ references G
  after_limit v h =
      let p : suc v + (objects G - suc v) ≡ objects G = omega arith in
      omega (arith, F.to_all, rw p at (offsets_rise (suc v) (objects G - suc v) (omega arith)))

  -- one object more
  step : (f : ℕ → ℕ) (b k : ℕ) → b + suc k ≤ objects G
      → leaving_sum G f b + span f (first G (suc b)) (first G (suc b + k) - first G (suc b))
      ≡ span f (first G b) (first G (b + suc k) - first G b)
  step f b k h =
      let p : b + suc k ≡ suc b + k = omega arith in
      let up : first G b ≤ after G b = F.rises b (omega arith) in
      let on : first G (suc b) ≤ first G (suc b + k) = offsets_rise (suc b) k (omega arith) in
      let q : first G (suc b + k) - first G b ≡ degree G b + (first G (suc b + k) - first G (suc b)) = omega arith in
      let r : first G b + degree G b ≡ first G (suc b) = omega arith in
      rw (p, q, span_add f (first G b) (degree G b) (first G (suc b + k) - first G (suc b)), r)

  -- marked and unmarked objects together: consecutive references
  over_all : (f : ℕ → ℕ) (b : ℕ) (ms : List ℕ) → b + length ms ≤ objects G
      → over_marked (leaving_sum G f) b ms + over_marked (leaving_sum G f) b (map unset? ms)
      ≡ span f (first G b) (first G (b + length ms) - first G b)
  unfolding over_marked span
  over_all f b [] h =
      let p : first G b - first G b ≡ 0 = omega arith in
      rw (add-zero b, p)
  over_all f b (zero ∷ ms) h = omega (arith, step f b (length ms) (omega arith), over_all f (suc b) ms (omega arith))
  over_all f b (suc m ∷ ms) h = omega (arith, step f b (length ms) (omega arith), over_all f (suc b) ms (omega arith))

  module _ (ms : List ℕ) (e : length ms ≡ objects G) where
    -- all references together
    over_whole : (f : ℕ → ℕ)
        → over_marked (leaving_sum G f) 0 ms + over_marked (leaving_sum G f) 0 (map unset? ms) ≡ span f 0 (references G)
    over_whole f =
        let p : 0 + length ms ≡ objects G = omega arith in
        let q : references G - 0 ≡ references G = omega arith in
        rw (p, F.from_zero, F.to_all, q) at (over_all f 0 ms (omega arith))

    pub over_degree : over_marked (leaving_sum G (λ (r : ℕ). 1)) 0 ms ≡ over_marked (degree G) 0 ms
    over_degree = over_agree (leaving_sum G (λ (r : ℕ). 1)) (degree G) 0 ms (λ (v : ℕ). span_one (first G v) (degree G v))

    -- the references of marked and of unmarked objects make m
    pub over_total : over_marked (leaving_sum G (λ (r : ℕ). 1)) 0 ms + leaving_unmarked G ms ≡ references G
    over_total =
        omega (
          arith,
          over_whole (λ (r : ℕ). 1),
          span_one 0 (references G),
          over_agree (leaving_sum G (λ (r : ℕ). 1)) (degree G) 0 (map unset? ms) (λ (v : ℕ). span_one (first G v) (degree G v)),
        )

    -- no reference leaves two objects
    pub over_once : (r : ℕ) → over_marked (leaving_sum G (hit r)) 0 ms ≤ 1
    over_once r = omega (arith, over_whole (hit r), span_hit_at_most_one r 0 (references G))

    -- a reference of a marked object is counted, and one that is counted leaves a marked object
    pub over_leaves : (r v : ℕ) → 0 < get_or ms v 0 → Leaves G r v → 0 < over_marked (leaving_sum G (hit r)) 0 ms
    over_leaves r v h l =
        omega (
          arith,
          zero-add v,
          ap (leaving_sum G (hit r)) (zero-add v),
          over_at (leaving_sum G (hit r)) 0 ms v h,
          span_hit_one r (first G v) (degree G v) l.from (omega (arith, l.from, l.below)),
        )

    pub over_source : (r : ℕ) → 0 < over_marked (leaving_sum G (hit r)) 0 ms → (v : ℕ) × (0 < get_or ms v 0) × Leaves G r v
    over_source r h = source (over_positive (leaving_sum G (hit r)) 0 ms h)
      where
        source : (v : ℕ) × (0 < get_or ms v 0) × (0 < leaving_sum G (hit r) (0 + v)) → (v : ℕ) × (0 < get_or ms v 0) × Leaves G r v
        source t =
            let v = t.0 in
            let below : v < objects G = omega (arith, e, inside ms v 0 (λ (x : ℕ). x) refl t.1) in
            let p : 0 < leaving_sum G (hit r) v = rw (zero-add v) at t.2 in
            let q = span_hit_in r (first G v) (degree G v) p in
            (v, t.1, record { object = below; from = q.0; below = omega (arith, q.0, q.1, F.rises v below) })
