-- The references of a graph as pairs: how many there are, where each stands, and sums over those of one object.
use mathlib.Core.Path.{◌≡◌, refl, sym, ap, ◌∙◌}
use mathlib.Core.List.{List, [], ◌∷◌, ◌++◌, map}
use mathlib.Core.Logic.{by_cases}
use Prim.Native.Nat.{ℕ, zero, suc, ◌+◌, ◌*◌, ◌-◌, ◌≤◌, ◌<◌}
use native.Mathlib.Decide.{ℕ_discrete}
use native.Mathlib.Omega.{arith}
use lib.ListN.{length, get_or, length-append, length-map, get_or-append, get_or-map}
use lib.Seq.{get_or-append-add}
use Rattle.laws.specs.Every.{Every}
use Rattle.laws.specs.Sum.{sum, hit}
use Rattle.laws.specs.Grouping.{count, under}
use Rattle.laws.proofs.Every.{at_every, every_append}
use Rattle.laws.proofs.Sum.{hit_other, hit_swap, sum_append, sum_agree, sum_one, default}
use Rattle.laws.proofs.Grouping.{under_suc, under_one}
use Rattle.graph.specs.Graph.{Graph, Leaves, objects, references, first, after, degree, target, references_of}
use Rattle.graph.specs.Formed.{Formed}
use Rattle.graph.proofs.OverMarked.{offsets_rise}
use Rattle.graph.proofs.View.{view_long, view_at}
use Rattle.changes.specs.Pairs.{Pair, pair, from_of, pairs_below, pairs_of, paired}
use Rattle.changes.proofs.Following.{leads_inside}

abbrev pub none : Pair
none = pair 0 0

-- source and target are objects
abbrev pub Inside : ℕ → Pair → Type 0
Inside n p = (p.from < n) × (p.to < n)

-- ---- those of a graph

module _ (G : Graph) (F : Formed G) where
  below_long : (v : ℕ) → v ≤ objects G → length (pairs_below G v) ≡ first G v
  unfolding pairs_below
  below_long zero h = sym F.from_zero
  below_long (suc v) h =
      rw (length-append (pairs_below G v) (map (pair v) (references_of G v)), length-map (references_of G v) (pair v), view_long F h)
      (omega (arith, below_long v (omega (arith, h)), F.rises v h))

  pub pairs_long : length (pairs_of G) ≡ references G
  unfolding pairs_of
  pairs_long = below_long (objects G) (omega arith) ∙ F.to_all

  below_at : (v u e : ℕ) → v ≤ objects G → u < v → Leaves G e u → get_or (pairs_below G v) e none ≡ pair u (target G e)
  unfolding pairs_below
  below_at zero u e h q l = absurd (omega (arith, q))
  below_at (suc v) u e h q l =
      let b = below_long v (omega (arith, h)) in
      by_cases (ℕ_discrete u v)
      (λ (s : u ≡ v).
      let o : first G v ≤ e = rw s at l.from in
      let w : e < after G v = rw s at l.below in
      let i : e - first G v < degree G v = omega (arith, o, w) in
      let p : length (pairs_below G v) + (e - first G v) ≡ e = omega (arith, o, b) in
      let there : e - first G v < length (map (pair v) (references_of G v)) = rw (length-map (references_of G v) (pair v), view_long F h) i in
      let z : first G v + (e - first G v) ≡ e = omega (arith, o) in
      ap (λ (k : ℕ). get_or (pairs_below G v ++ map (pair v) (references_of G v)) k none) (sym p)
      ∙ get_or-append-add (pairs_below G v) (map (pair v) (references_of G v)) (e - first G v) none
      ∙ default (map (pair v) (references_of G v)) (e - first G v) none (pair v 0) there
      ∙ get_or-map (pair v) (references_of G v) (e - first G v) 0
      ∙ ap (pair v) (view_at F h (e - first G v) i ∙ ap (λ (k : ℕ). target G k) z)
      ∙ ap (λ (k : ℕ). pair k (target G e)) (sym s))
      (λ s.
      let w : u < v = omega (arith, q, s) in
      let r : suc u + (v - suc u) ≡ v = omega (arith, w) in
      let up : after G u ≤ first G v = rw r at (offsets_rise G F (suc u) (v - suc u) (omega (arith, h, w))) in
      get_or-append (pairs_below G v) (map (pair v) (references_of G v)) none e (omega (arith, b, up, l.below))
      ∙ below_at v u e (omega (arith, h)) w l)

  -- the reference with number e
  pub pairs_at : {u e : ℕ} → Leaves G e u → get_or (pairs_of G) e none ≡ pair u (target G e)
  unfolding pairs_of
  pairs_at {u} {e} l = below_at (objects G) u e (omega arith) l.object l

-- what is summed over the pairs of one object
module _ (G : Graph) (u : ℕ) (g : ℕ → ℕ) where
  one_sum : (v : ℕ) (l : List ℕ) → sum (λ (p : Pair). hit u p.from * g p.to) (map (pair v) l) ≡ hit u v * sum g l
  unfolding sum
  one_sum v [] = omega arith
  one_sum v (t ∷ l) = omega (arith, one_sum v l)

  below_sum : (v : ℕ) → sum (λ (p : Pair). hit u p.from * g p.to) (pairs_below G v) ≡ under u v * sum g (references_of G u)
  unfolding pairs_below under sum
  below_sum zero = omega arith
  below_sum (suc v) =
      rw (sum_append (λ (p : Pair). hit u p.from * g p.to) (pairs_below G v) (map (pair v) (references_of G v)), below_sum v, one_sum v (references_of G v), under_suc u v, hit_swap v u)
      (by_cases (ℕ_discrete u v) (λ (s : u ≡ v). rw (← s) (omega arith)) (λ s. rw (hit_other u v s) (omega arith)))

  pub pairs_sum : u < objects G → sum (λ (p : Pair). hit u p.from * g p.to) (pairs_of G) ≡ sum g (references_of G u)
  unfolding pairs_of
  pairs_sum h = below_sum (objects G) ∙ rw (under_one u (objects G) h) (omega arith)

module _ (G : Graph) (F : Formed G) where
  -- each has ends that are objects
  run_inside : (n v : ℕ) → v < n → (l : List ℕ) → Every (λ (t : ℕ). t < n) l → Every (Inside n) (map (pair v) l)
  run_inside n v h [] q = tt
  run_inside n v h (t ∷ l) q = ((h, q.0), run_inside n v h l q.1)

  view_inside : (v : ℕ) → v < objects G → Every (λ (t : ℕ). t < objects G) (references_of G v)
  view_inside v h =
      at_every (λ (t : ℕ). t < objects G) (references_of G v) 0
      (λ i w.
      let j : i < degree G v = omega (arith, w, view_long F h) in
      rw (view_at F h i j)
      (leads_inside F v (first G v + i) (record { object = h; from = omega arith; below = omega (arith, j) })))

  below_inside : (v : ℕ) → v ≤ objects G → Every (Inside (objects G)) (pairs_below G v)
  unfolding pairs_below
  below_inside zero h = tt
  below_inside (suc v) h =
      every_append (Inside (objects G)) (pairs_below G v) (map (pair v) (references_of G v)) (below_inside v (omega (arith, h)))
      (run_inside (objects G) v h (references_of G v) (view_inside v h))

  pub pairs_inside : Every (Inside (objects G)) (pairs_of G)
  unfolding pairs_of
  pairs_inside = below_inside (objects G) (omega arith)

-- ---- those of two lists

pub paired_long : (fs ts : List ℕ) → length ts ≡ length fs → length (paired fs ts) ≡ length fs
unfolding paired
paired_long [] ts e = refl
paired_long (f ∷ fs) [] e = absurd (omega (arith, e))
paired_long (f ∷ fs) (t ∷ ts) e = ap suc (paired_long fs ts (omega (arith, e)))

pub paired_at : (fs ts : List ℕ) (i : ℕ) → length ts ≡ length fs → get_or (paired fs ts) i none ≡ pair (get_or fs i 0) (get_or ts i 0)
unfolding paired
paired_at [] [] i e = refl
paired_at [] (t ∷ ts) i e = absurd (omega (arith, e))
paired_at (f ∷ fs) [] i e = absurd (omega (arith, e))
paired_at (f ∷ fs) (t ∷ ts) zero e = refl
paired_at (f ∷ fs) (t ∷ ts) (suc i) e = paired_at fs ts i (omega (arith, e))

pub paired_count : (v : ℕ) (fs ts : List ℕ) → length ts ≡ length fs → count from_of v (paired fs ts) ≡ sum (hit v) fs
unfolding paired count sum
paired_count v [] ts e = refl
paired_count v (f ∷ fs) [] e = absurd (omega (arith, e))
paired_count v (f ∷ fs) (t ∷ ts) e = omega (arith, paired_count v fs ts (omega (arith, e)))

pub paired_inside : (n : ℕ) (fs ts : List ℕ) → length ts ≡ length fs → ((i : ℕ) → i < length fs → get_or fs i 0 < n)
    → ((i : ℕ) → i < length ts → get_or ts i 0 < n) → Every (Inside n) (paired fs ts)
paired_inside n fs ts e f t =
    at_every (Inside n) (paired fs ts) none
    (λ i h.
    let w : i < length fs = omega (arith, h, paired_long fs ts e) in
    rw (paired_at fs ts i e) (f i w, t i (omega (arith, w, e))))

-- how many of the pairs of one object there are
pub pairs_count : (G : Graph) → Formed G → (u : ℕ) → u < objects G → count from_of u (pairs_of G) ≡ degree G u
unfolding count
pairs_count G F u h =
    sum_agree (λ (p : Pair). hit u p.from) (λ (p : Pair). hit u p.from * 1) (pairs_of G) (λ p. omega arith)
    ∙ pairs_sum G u (λ (t : ℕ). 1) h ∙ sum_one (references_of G u) ∙ view_long F h

-- none leaves n
not_under : (k v : ℕ) → v ≤ k → under k v ≡ 0
unfolding under
not_under k zero q = refl
not_under zero (suc v) q = absurd (omega (arith, q))
not_under (suc k) (suc v) q = not_under k v (omega (arith, q))

pub pairs_past : (G : Graph) (u : ℕ) → objects G ≤ u → count from_of u (pairs_of G) ≡ 0
unfolding count pairs_of
pairs_past G u h =
    sum_agree (λ (p : Pair). hit u p.from) (λ (p : Pair). hit u p.from * 1) (pairs_below G (objects G)) (λ p. omega arith)
    ∙ below_sum G u (λ (t : ℕ). 1) (objects G) ∙ rw (not_under u (objects G) h) (omega arith)
