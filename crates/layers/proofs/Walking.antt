-- Walking over a tree, with trees to the right that wait. What carries the argument: whatever is added up over objects, those that were
-- visited and those that are left make up the tree as it was at the start; and the links of those that are left are still the same.
use mathlib.Core.Path.{◌≡◌, refl, ap, ◌∙◌}
use mathlib.Core.List.{List, [], ◌∷◌, ◌++◌}
use mathlib.Core.Logic.{◌≢◌, ⊎_elim}
use Prim.Native.Nat.{ℕ, zero, suc, ◌+◌, ◌-◌, ◌*◌, ◌≤◌, ◌<◌}
use native.Mathlib.Omega.{arith}
use native.Mathlib.Numerals.{add-one}
use lib.ListN.{length, get_or, set, replicate, length-set}
use lib.Seq.{get_or-set_same, get_or-set_other}
use Rattle.laws.specs.Sum.{sum, hit}
use Rattle.laws.proofs.Sum.{hit_same, sum_append}
use Rattle.graph.specs.Graph.{Graph}
use Rattle.bag.specs.declared.Bag.{Bag}
use Rattle.bag.specs.Bag.{slot_count, Same, times, left_of, right_of, tree_of}
use Rattle.layers.specs.Search.{leads_to, Grown, Walkable, Apart}
use Rattle.layers.proofs.Growing.{alike, grown_none, grown_then, grown_as}
use Rattle.layers.proofs.Visiting.{apart_same, walkable_after}

-- how many trees can wait
abbrev pub most_waiting : ℕ
most_waiting = 16

sum_tree : (f : ℕ → ℕ) (h : ℕ) (L : List ℕ) (x : ℕ)
    → sum f (tree_of (suc h) L x) ≡ f x + (sum f (tree_of h L (left_of L x)) + sum f (tree_of h L (right_of L x)))
unfolding tree_of sum
sum_tree f h L x = ap (λ (k : ℕ). f x + k) (sum_append f (tree_of h L (left_of L x)) (tree_of h L (right_of L x)))

-- ---- trees that wait

-- the objects of the first d trees, with these roots and heights
waiting : ℕ → List ℕ → List ℕ → List ℕ → List ℕ
waiting zero L roots heights = []
waiting (suc d) L roots heights = tree_of (get_or heights d 0) L (get_or roots d 0) ++ waiting d L roots heights

waiting_kept : (d i : ℕ) (L R K : List ℕ) (r h : ℕ) → d ≤ i → waiting d L (set R i r) (set K i h) ≡ waiting d L R K
unfolding waiting
waiting_kept zero i L R K r h p = refl
waiting_kept (suc d) i L R K r h p =
    rw (
      get_or-set_other K i d h 0 (λ e. omega arith),
      get_or-set_other R i d r 0 (λ e. omega arith),
      waiting_kept d i L R K r h (omega arith),
    )

waiting_more : (f : ℕ → ℕ) (d : ℕ) (L R K : List ℕ) (r h : ℕ) → d < length R → d < length K
    → sum f (waiting (d + 1) L (set R d r) (set K d h)) ≡ sum f (tree_of h L r) + sum f (waiting d L R K)
unfolding waiting
waiting_more f d L R K r h p q =
    rw (add-one d, get_or-set_same K d h 0 q, get_or-set_same R d r 0 p, waiting_kept d d L R K r h (omega arith))
    (sum_append f (tree_of h L r) (waiting d L R K))

waiting_less : (f : ℕ → ℕ) (d : ℕ) (L R K : List ℕ) → d ≢ 0
    → sum f (waiting d L R K) ≡ sum f (tree_of (get_or K (d - 1) 0) L (get_or R (d - 1) 0)) + sum f (waiting (d - 1) L R K)
unfolding waiting
waiting_less f d L R K h =
    let e : d ≡ suc (d - 1) = omega arith in
    ap (λ (k : ℕ). sum f (waiting k L R K)) e ∙ sum_append f (tree_of (get_or K (d - 1) 0) L (get_or R (d - 1) 0)) (waiting (d - 1) L R K)

-- what is left adds up to: the tree in hand, and those that wait
unfoldable pub left : (ℕ → ℕ) → List ℕ → List ℕ → List ℕ → ℕ → ℕ → ℕ → ℕ
unfolding tree_of sum waiting
left f L R K depth at rest = sum f (tree_of rest L at) + sum f (waiting depth L R K)

-- how many objects are left
abbrev pub leftover : List ℕ → List ℕ → List ℕ → ℕ → ℕ → ℕ → ℕ
leftover L R K depth at rest = left (λ (v : ℕ). 1) L R K depth at rest

-- ---- the walk

module _ (G : Graph) (hop height x : ℕ) (H₀ L₀ : List ℕ) (S₀ : Bag) where
  -- some objects were visited, and the others are left
  pub record Walking (H L : List ℕ) (S : Bag) (R K : List ℕ) (depth at rest : ℕ) : Type 0 where
    pub some : rest ≢ 0
    pub deep : depth + rest ≤ height
    pub roots : length R ≡ most_waiting
    pub heights : length K ≡ most_waiting
    pub waits : (i : ℕ) → i < depth → (get_or K i 0 ≢ 0) × (i + get_or K i 0 ≤ height)
    pub visited : List ℕ
    pub all : (f : ℕ → ℕ) → sum f visited + left f L₀ R K depth at rest ≡ sum f (tree_of height L₀ x)
    pub grown : Grown hop (λ (w : ℕ). sum (leads_to G w) visited) H₀ L₀ S₀ H L S

pub walk_none : {G : Graph} {hop : ℕ} {H L : List ℕ} {S : Bag} (h x : ℕ) → Walkable G hop H L S → h ≡ 0 → Grown hop (λ (w : ℕ). sum (leads_to G w) (tree_of h L x)) H L S H L S
unfolding tree_of sum
walk_none h x ok z = rw z (grown_none ok.growable)

module _ {G : Graph} {hop height x : ℕ} {H₀ L₀ : List ℕ} {S₀ : Bag}
    (pre : Walkable G hop H₀ L₀ S₀ × Apart H₀ L₀ S₀ (tree_of height L₀ x) × (height < slot_count)) where
  pub walking_start : height ≢ 0 → Walking G hop height x H₀ L₀ S₀ H₀ L₀ S₀ (replicate most_waiting 0) (replicate most_waiting 0) 0 x height
  unfolding left waiting sum
  walking_start more =
      record {
        some = more;
        deep = omega arith;
        roots = refl;
        heights = refl;
        waits = λ i h. absurd (omega arith);
        visited = [];
        all = λ f. omega arith;
        grown = grown_none pre.0.growable;
      }

  module _ {H L : List ℕ} {S : Bag} {R K : List ℕ} {depth at rest : ℕ} (p : Walking G hop height x H₀ L₀ S₀ H L S R K depth at rest) where
    pub shallow : depth < most_waiting
    shallow = omega (arith, pre.2, p.deep, p.some)

    -- the tree in hand is its root and two trees below
    in_hand : (f : ℕ → ℕ) → sum f (tree_of rest L₀ at) ≡ f at + (sum f (tree_of (rest - 1) L₀ (left_of L₀ at)) + sum f (tree_of (rest - 1) L₀ (right_of L₀ at)))
    in_hand f =
        let e : rest ≡ suc (rest - 1) = omega (arith, p.some) in
        ap (λ (k : ℕ). sum f (tree_of k L₀ at)) e ∙ sum_tree f (rest - 1) L₀ at

    among : 0 < times at (tree_of height L₀ x)
    unfolding left
    among = omega (arith, p.all (hit at), in_hand (hit at), hit_same at)

    pub at_links : 2 * at + 1 < length L
    at_links = omega (arith, pre.1.inside at among, p.grown.links_long, pre.0.growable.linked)

    same : Same L₀ L at
    same = apart_same p.grown pre.1 at among

    pub walking_ready : Walkable G hop H L S × (at < length H)
    walking_ready = (walkable_after pre.0 p.grown, omega (arith, pre.1.inside at among, p.grown.hops_long))

    -- one object more was visited
    module _ {H' L' : List ℕ} {S' : Bag} (g : Grown hop (λ (w : ℕ). leads_to G w at) H L S H' L' S') where
      seen : Grown hop (λ (w : ℕ). sum (leads_to G w) (at ∷ p.visited)) H₀ L₀ S₀ H' L' S'
      unfolding sum
      seen = grown_as (λ (w : ℕ). sum (leads_to G w) (at ∷ p.visited)) (grown_then p.grown g) (λ w. omega arith)

    module _ (more : rest ≢ 1) where
      down_left : (f : ℕ → ℕ) → left f L₀ (set R depth (right_of L at)) (set K depth (rest - 1)) (depth + 1) (left_of L at) (rest - 1) + f at ≡ left f L₀ R K depth at rest
      unfolding left
      down_left f =
          rw (same.0, same.1)
          (omega (
            arith,
            in_hand f,
            waiting_more f depth L₀ R K (right_of L₀ at) (rest - 1) (omega (arith, shallow, p.roots)) (omega (arith, shallow, p.heights)),
          ))

      pub down_less : leftover L₀ (set R depth (right_of L at)) (set K depth (rest - 1)) (depth + 1) (left_of L at) (rest - 1) < leftover L₀ R K depth at rest
      down_less = omega (arith, down_left (λ (v : ℕ). 1))

      pub walking_down : {H' L' : List ℕ} {S' : Bag} → Grown hop (λ (w : ℕ). leads_to G w at) H L S H' L' S'
          → Walking G hop height x H₀ L₀ S₀ H' L' S' (set R depth (right_of L at)) (set K depth (rest - 1)) (depth + 1) (left_of L at) (rest - 1)
      unfolding sum
      walking_down g =
          record {
            some = omega (arith, p.some);
            deep = omega (arith, p.some, p.deep);
            roots = length-set R depth (right_of L at) ∙ p.roots;
            heights = length-set K depth (rest - 1) ∙ p.heights;
            waits = λ i h.
                ⊎_elim
                (λ (e : i ≡ depth).
                let k : get_or (set K depth (rest - 1)) i 0 ≡ rest - 1 = rw e (get_or-set_same K depth (rest - 1) 0 (omega (arith, shallow, p.heights))) in
                (λ z. omega (arith, p.some), omega (arith, p.deep)))
                (λ (n : i ≢ depth). rw (get_or-set_other K depth i (rest - 1) 0 n) (p.waits i (omega arith)))
                (alike i depth);
            visited = at ∷ p.visited;
            all = λ f. omega (arith, p.all f, down_left f);
            grown = seen g;
          }

    module _ (leaf : rest ≡ 1) where
      alone : (f : ℕ → ℕ) → sum f (tree_of rest L₀ at) ≡ f at
      unfolding tree_of sum
      alone f = ap (λ (k : ℕ). sum f (tree_of k L₀ at)) leaf ∙ omega arith

      up_left : depth ≢ 0 → (f : ℕ → ℕ) → left f L₀ R K (depth - 1) (get_or R (depth - 1) 0) (get_or K (depth - 1) 0) + f at ≡ left f L₀ R K depth at rest
      unfolding left
      up_left d f = omega (arith, alone f, waiting_less f depth L₀ R K d)

      pub up_less : depth ≢ 0 → leftover L₀ R K (depth - 1) (get_or R (depth - 1) 0) (get_or K (depth - 1) 0) < leftover L₀ R K depth at rest
      up_less d = omega (arith, up_left d (λ (v : ℕ). 1))

      pub walking_up : depth ≢ 0 → {H' L' : List ℕ} {S' : Bag} → Grown hop (λ (w : ℕ). leads_to G w at) H L S H' L' S'
          → Walking G hop height x H₀ L₀ S₀ H' L' S' R K (depth - 1) (get_or R (depth - 1) 0) (get_or K (depth - 1) 0)
      unfolding sum
      walking_up d g =
          let w = p.waits (depth - 1) (omega arith) in
          record {
            some = w.0;
            deep = w.1;
            roots = p.roots;
            heights = p.heights;
            waits = λ i h. p.waits i (omega arith);
            visited = at ∷ p.visited;
            all = λ f. omega (arith, p.all f, up_left d f);
            grown = seen g;
          }

      pub walking_end : depth ≡ 0 → {H' L' : List ℕ} {S' : Bag} → Grown hop (λ (w : ℕ). leads_to G w at) H L S H' L' S'
          → Grown hop (λ (w : ℕ). sum (leads_to G w) (tree_of height L₀ x)) H₀ L₀ S₀ H' L' S'
      unfolding left waiting sum
      walking_end z g =
          grown_as (λ (w : ℕ). sum (leads_to G w) (tree_of height L₀ x)) (seen g)
          (λ w.
          omega (
            arith,
            p.all (leads_to G w),
            alone (leads_to G w),
            ap (λ (k : ℕ). sum (leads_to G w) (waiting k L₀ R K)) z,
          ))
