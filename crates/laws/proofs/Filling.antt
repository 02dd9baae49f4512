-- A list that is filled from its beginning until it is another one.
use mathlib.Core.Path.{◌≡◌, ◌∙◌}
use mathlib.Core.List.{List}
use mathlib.Core.Logic.{by_cases}
use Prim.Native.Nat.{ℕ, ◌+◌, ◌≤◌, ◌<◌}
use native.Mathlib.Decide.{dec_lt}
use native.Mathlib.Omega.{arith}
use lib.ListN.{length, get_or, set, length-set}
use lib.Seq.{get_or-set_same, get_or-set_other, ext_get_or}

-- the first i elements of l are those of t
pub record Filled (t : List ℕ) (i : ℕ) (l : List ℕ) : Type 0 where
  pub long : length l ≡ length t
  pub within : i ≤ length t
  pub done : (j : ℕ) → j < i → get_or l j 0 ≡ get_or t j 0

pub filled_none : (t l : List ℕ) → length l ≡ length t → Filled t 0 l
filled_none t l e = record { long = e; within = omega arith; done = λ (j : ℕ) (h : j < 0). absurd (omega arith) }

-- one more
pub filled_next : {t : List ℕ} {i : ℕ} {l : List ℕ} → Filled t i l → i < length t → (x : ℕ) → x ≡ get_or t i 0 → Filled t (i + 1) (set l i x)
filled_next {t} {i} {l} f h x e =
    record {
      long = length-set l i x ∙ f.long;
      within = omega arith;
      done = λ (j : ℕ) (p : j < i + 1).
          by_cases (dec_lt j i)
          (λ (q : j < i). get_or-set_other l i j x 0 (λ (r : j ≡ i). omega arith) ∙ f.done j q)
          (λ (q : ¬ (j < i)).
          let r : j ≡ i = omega arith in rw r (get_or-set_same l i x 0 (omega (arith, f.long)) ∙ e));
    }

-- all
pub filled_all : {t : List ℕ} {i : ℕ} {l : List ℕ} → Filled t i l → length t ≤ i → l ≡ t
filled_all {t} {i} {l} f h = ext_get_or 0 l t f.long (λ (j : ℕ) (p : j < length l). f.done j (omega (arith, f.long)))
