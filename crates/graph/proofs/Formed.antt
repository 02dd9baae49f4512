-- The test `well_formed` finds no fault exactly where the facts `Formed` hold.
use mathlib.Core.Path.{◌≡◌, refl, ◌∙◌}
use mathlib.Core.Bool.{Bool, true, false}
use mathlib.Core.List.{List, [], ◌∷◌}
use Prim.Native.Nat.{ℕ, zero, suc, ◌-◌, ◌≤◌, ◌<◌}
use native.Mathlib.Omega.{arith}
use lib.ListN.{length, get_or}
use lib.Dec.{leb, ltb, eqb}
use borrow.Author.Tests.{ltb-true, leb-true, eqb-true, lt-ltb, le-leb, eq-eqb, ne_eqb}
use Rattle.laws.specs.Choice.{both}
use Rattle.graph.specs.Graph.{Graph, graph, objects, references, rising, all_below, well_formed}
use Rattle.graph.specs.Formed.{Formed}

-- both halves of a test that holds
pub both_true : (p q : Bool) → both p q ≡ true → (p ≡ true) × (q ≡ true)
both_true true q e = (refl, e)
both_true false q e = let z : ◌≡◌ {A = ℕ} 0 1 = cc in absurd (omega arith)

rising_all : (l : List ℕ) → rising l ≡ true → (i : ℕ) → suc i < length l → get_or l i 0 ≤ get_or l (suc i) 0
unfolding rising
rising_all [] e i h = absurd (omega arith)
rising_all (a ∷ []) e i h = absurd (omega arith)
rising_all (a ∷ b ∷ l) e zero h = leb-true a b (both_true (leb a b) (rising (b ∷ l)) e).0
rising_all (a ∷ b ∷ l) e (suc i) h = rising_all (b ∷ l) (both_true (leb a b) (rising (b ∷ l)) e).1 i (omega arith)

all_rising : (l : List ℕ) → ((i : ℕ) → suc i < length l → get_or l i 0 ≤ get_or l (suc i) 0) → rising l ≡ true
unfolding rising
all_rising [] h = refl
all_rising (a ∷ []) h = refl
all_rising (a ∷ b ∷ l) h = rw (le-leb a b (h 0 (omega arith))) (all_rising (b ∷ l) (λ i q. h (suc i) (omega arith)))

pub below_all : (n : ℕ) (l : List ℕ) → all_below n l ≡ true → (i : ℕ) → i < length l → get_or l i 0 < n
unfolding all_below
below_all n [] e i h = absurd (omega arith)
below_all n (a ∷ l) e zero h = ltb-true a n (both_true (ltb a n) (all_below n l) e).0
below_all n (a ∷ l) e (suc i) h = below_all n l (both_true (ltb a n) (all_below n l) e).1 i (omega arith)

-- behind the last there are zeros
pub below_at : (n : ℕ) (l : List ℕ) → all_below n l ≡ true → 0 < n → (i : ℕ) → get_or l i 0 < n
unfolding all_below
below_at n [] e h i = h
below_at n (a ∷ l) e h zero = ltb-true a n (both_true (ltb a n) (all_below n l) e).0
below_at n (a ∷ l) e h (suc i) = below_at n l (both_true (ltb a n) (all_below n l) e).1 h i

all_below_lem : (n : ℕ) (l : List ℕ) → ((i : ℕ) → i < length l → get_or l i 0 < n) → all_below n l ≡ true
unfolding all_below
all_below_lem n [] h = refl
all_below_lem n (a ∷ l) h = rw (lt-ltb a n (h 0 (omega arith))) (all_below_lem n l (λ i q. h (suc i) (omega arith)))

-- what stands first in a list that has something does not depend on the default
first_there : (l : List ℕ) (d d' : ℕ) → 0 < length l → get_or l 0 d ≡ get_or l 0 d'
first_there [] d d' h = absurd (omega arith)
first_there (a ∷ l) d d' h = refl

-- a first element that is 0, with 1 for none, is there
first_zero : (l : List ℕ) → get_or l 0 1 ≡ 0 → 0 < length l
first_zero [] e = absurd (omega arith)
first_zero (a ∷ l) e = omega arith

pub formed : (G : Graph) → well_formed G ≡ true → Formed G
unfolding well_formed
formed G e =
    let a = both_true (eqb (get_or G.offsets 0 1) 0) _ e in
    let b = both_true (rising G.offsets) _ a.1 in
    let c = both_true (eqb (get_or G.offsets (objects G) 0) (references G)) _ b.1 in
    let z = eqb-true (get_or G.offsets 0 1) 0 a.0 in
    let some = first_zero G.offsets z in
    record {
      some = some;
      from_zero = first_there G.offsets 0 1 some ∙ z;
      rises = λ v h. rising_all G.offsets b.0 v (omega arith);
      to_all = eqb-true (get_or G.offsets (objects G) 0) (references G) c.0;
      inside = λ i h. below_all (objects G) G.targets c.1 i h;
    }

pub well_formed_lem : (G : Graph) → Formed G → well_formed G ≡ true
unfolding well_formed
well_formed_lem G f =
    rw (
      eq-eqb (get_or G.offsets 0 1) 0 (first_there G.offsets 1 0 f.some ∙ f.from_zero),
      all_rising G.offsets (λ i h. f.rises i (omega arith)),
      eq-eqb (get_or G.offsets (objects G) 0) (references G) f.to_all,
      all_below_lem (objects G) G.targets f.inside,
    )

-- ---- the test, as the code goes through it

module _ (os ts : List ℕ) where
  pub formed_none : length os ≡ 0 → well_formed (graph os ts) ≡ false
  unfolding well_formed
  formed_none h = rw (ne_eqb (get_or os 0 1) 0 (λ e. omega (arith, first_zero os e)))

  pub formed_first : 0 < length os → (get_or os 0 0 ≡ 0 → ⊥) → well_formed (graph os ts) ≡ false
  unfolding well_formed
  formed_first h ne = rw (ne_eqb (get_or os 0 1) 0 (λ e. ne (first_there os 0 1 h ∙ e)))

  module _ (h : 0 < length os) (z : get_or os 0 0 ≡ 0) where
    pub formed_fall : rising os ≡ false → well_formed (graph os ts) ≡ false
    unfolding well_formed
    formed_fall e = rw (eq-eqb (get_or os 0 1) 0 (first_there os 1 0 h ∙ z), e)

    pub formed_last : rising os ≡ true → (get_or os (length os - 1) 0 ≡ length ts → ⊥) → well_formed (graph os ts) ≡ false
    unfolding well_formed
    formed_last e ne = rw (eq-eqb (get_or os 0 1) 0 (first_there os 1 0 h ∙ z), e, ne_eqb (get_or os (length os - 1) 0) (length ts) ne)

    pub formed_rest : rising os ≡ true → get_or os (length os - 1) 0 ≡ length ts → well_formed (graph os ts) ≡ all_below (length os - 1) ts
    unfolding well_formed
    formed_rest e l = rw (eq-eqb (get_or os 0 1) 0 (first_there os 1 0 h ∙ z), e, eq-eqb (get_or os (length os - 1) 0) (length ts) l)
