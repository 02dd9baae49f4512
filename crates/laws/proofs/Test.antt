-- What computed tests say, both ways.
use mathlib.Core.Path.{◌≡◌, refl, ap, sym}
use mathlib.Core.Bool.{Bool, true, false, true≢false, ◌&&◌}
use mathlib.Core.List.{List, [], ◌∷◌}
use mathlib.Core.Logic.{◌⊎◌, inl, inr, ⊎_elim}
use Prim.Native.Nat.{ℕ, zero, suc, ◌+◌, ◌≤◌, ◌<◌}
use native.Mathlib.Numerals.{add-one}
use native.Mathlib.Omega.{arith}
use lib.ListN.{length, get_or, drop, drop_of_length-le}
use lib.Seq.{drop-cons}
use lib.Dec.{eqb}
use borrow.Author.Tests.{eqb-true, eq-eqb}
use Rattle.laws.specs.Choice.{both, either}
use Rattle.laws.specs.Every.{Every}
use Rattle.laws.specs.Sum.{sum, hit}
use Rattle.laws.specs.Test.{all, all_up_to, some_up_to, same}
use Rattle.laws.proofs.Sum.{hit_equal, hit_same, either_positive}

-- ---- two tests

pub both_true : (p q : Bool) → both p q ≡ true → (p ≡ true) × (q ≡ true)
both_true true q e = (refl, e)
both_true false q e = let z : ◌≡◌ {A = ℕ} 0 1 = cc in absurd (omega arith)

pub both_is : {p q : Bool} → p ≡ true → q ≡ true → both p q ≡ true
both_is e f = rw e f

pub either_true : (p q : Bool) → either p q ≡ true → (p ≡ true) ⊎ (q ≡ true)
either_true true q e = inl refl
either_true false q e = inr e

pub either_left : {p : Bool} (q : Bool) → p ≡ true → either p q ≡ true
either_left q e = rw e refl

pub either_right : (p : Bool) {q : Bool} → q ≡ true → either p q ≡ true
either_right true e = refl
either_right false e = e

-- a test is true or it is not
pub tested : (p : Bool) → (p ≡ true) ⊎ (p ≡ false)
tested true = inl refl
tested false = inr refl

-- ---- lists

module _ {A : Type 0} (p : A → Bool) where
  -- at each place; what is not there is d, of which p holds
  pub all_at : (d : A) → p d ≡ true → (l : List A) → all p l ≡ true → (i : ℕ) → p (get_or l i d) ≡ true
  unfolding all
  all_at d e [] h i = e
  all_at d e (x ∷ l) h zero = (both_true (p x) (all p l) h).0
  all_at d e (x ∷ l) h (suc i) = all_at d e l (both_true (p x) (all p l) h).1 i

  pub at_all : (d : A) (l : List A) → ((i : ℕ) → p (get_or l i d) ≡ true) → all p l ≡ true
  unfolding all
  at_all d [] h = refl
  at_all d (x ∷ l) h = both_is (h 0) (at_all d l (λ i. h (suc i)))

  -- as a statement of each
  pub all_every : (P : A → Type 0) → ((x : A) → p x ≡ true → P x) → (l : List A) → all p l ≡ true → Every P l
  unfolding all
  all_every P f [] h = tt
  all_every P f (x ∷ l) h = let t = both_true (p x) (all p l) h in (f x t.0, all_every P f l t.1)

  pub every_all : (P : A → Type 0) → ((x : A) → P x → p x ≡ true) → (l : List A) → Every P l → all p l ≡ true
  unfolding all
  every_all P f [] h = refl
  every_all P f (x ∷ l) h = both_is (f x h.0) (every_all P f l h.1)

  -- a scan from the front: what is left decides
  module _ (d : A) (l : List A) (i : ℕ) where
    pub all_step : i < length l → p (get_or l i d) ≡ true → all p (drop (i + 1) l) ≡ all p (drop i l)
    unfolding all
    all_step h e = rw (add-one, drop-cons l i d h, e)

    pub all_stop : i < length l → p (get_or l i d) ≡ false → all p (drop i l) ≡ false
    unfolding all
    all_stop h e = rw (drop-cons l i d h, e)

    pub all_end : length l ≤ i → all p (drop i l) ≡ true
    unfolding all
    all_end h = rw (drop_of_length-le l h)

-- of each number that stands in the list
pub all_hit : (p : ℕ → Bool) (l : List ℕ) → all p l ≡ true → (v : ℕ) → 0 < sum (hit v) l → p v ≡ true
unfolding all sum
all_hit p [] h v q = absurd (omega arith)
all_hit p (x ∷ l) h v q =
    let t = both_true (p x) (all p l) h in
    ⊎_elim
    (λ (r : 0 < hit v x). rw (hit_equal v x r) t.0)
    (λ (r : 0 < sum (hit v) l). all_hit p l t.1 v r)
    (either_positive (hit v x) (sum (hit v) l) q)

pub hit_all : (p : ℕ → Bool) (l : List ℕ) → ((v : ℕ) → 0 < sum (hit v) l → p v ≡ true) → all p l ≡ true
unfolding all sum
hit_all p [] h = refl
hit_all p (x ∷ l) h = both_is (h x (omega (arith, hit_same x))) (hit_all p l (λ v q. h v (omega arith)))

-- ---- numbers below a bound

-- below, or the last
last : (i n : ℕ) → i < suc n → (i < n) ⊎ (i ≡ n)
last i zero q = inr (omega arith)
last zero (suc n) q = inl (omega arith)
last (suc i) (suc n) q = ⊎_elim (λ (r : i < n). inl (omega arith)) (λ (r : i ≡ n). inr (ap suc r)) (last i n (omega arith))

module _ (p : ℕ → Bool) where
  pub up_to_each : (n : ℕ) → all_up_to n p ≡ true → (i : ℕ) → i < n → p i ≡ true
  unfolding all_up_to
  up_to_each zero h i q = absurd (omega arith)
  up_to_each (suc n) h i q =
      let t = both_true (all_up_to n p) (p n) h in
      ⊎_elim (λ (r : i < n). up_to_each n t.0 i r) (λ (r : i ≡ n). rw r t.1) (last i n q)

  pub each_up_to : (n : ℕ) → ((i : ℕ) → i < n → p i ≡ true) → all_up_to n p ≡ true
  unfolding all_up_to
  each_up_to zero h = refl
  each_up_to (suc n) h = both_is (each_up_to n (λ i q. h i (omega arith))) (h n (omega arith))

  pub some_found : (n : ℕ) → some_up_to n p ≡ true → (i : ℕ) × (i < n) × (p i ≡ true)
  unfolding some_up_to
  some_found zero h = let z : ◌≡◌ {A = ℕ} 0 1 = cc in absurd (omega arith)
  some_found (suc n) h =
      ⊎_elim
      (λ (r : some_up_to n p ≡ true). let t = some_found n r in (t.0, omega (arith, t.1), t.2))
      (λ (r : p n ≡ true). (n, omega arith, r))
      (either_true (some_up_to n p) (p n) h)

  pub found_some : (n i : ℕ) → i < n → p i ≡ true → some_up_to n p ≡ true
  unfolding some_up_to
  found_some zero i q h = absurd (omega arith)
  found_some (suc n) i q h =
      ⊎_elim
      (λ (r : i < n). either_left (p n) (found_some n i r h))
      (λ (r : i ≡ n). either_right (some_up_to n p) (rw r at h))
      (last i n q)

-- ---- two lists

pub same_equal : (k l : List ℕ) → same k l ≡ true → k ≡ l
unfolding same
same_equal [] [] h = refl
same_equal [] (y ∷ l) h = let z : ◌≡◌ {A = ℕ} 0 1 = cc in absurd (omega arith)
same_equal (x ∷ k) [] h = let z : ◌≡◌ {A = ℕ} 0 1 = cc in absurd (omega arith)
same_equal (x ∷ k) (y ∷ l) h =
    let t = both_true (eqb x y) (same k l) h in rw (eqb-true x y t.0, same_equal k l t.1)

same_self : (l : List ℕ) → same l l ≡ true
unfolding same
same_self [] = refl
same_self (x ∷ l) = both_is (eq-eqb x x refl) (same_self l)

pub equal_same : (k l : List ℕ) → k ≡ l → same k l ≡ true
equal_same k l e = rw e (same_self l)

-- two truth values of which both hold
pub and_true : (s t : Bool) → s ≡ true → t ≡ true → (s && t) ≡ true
and_true s t h g = rw (h, g)

pub and_parts : (s t : Bool) → (s && t) ≡ true → (s ≡ true) × (t ≡ true)
and_parts true t e = (refl, e)
and_parts false t e = absurd (true≢false (sym e))
