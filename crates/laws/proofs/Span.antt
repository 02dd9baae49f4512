-- Sums over consecutive numbers: parts laid end to end, the weight 1, and counting one number.
use mathlib.Core.Path.{◌≡◌, refl, ap, ◌∙◌}
use mathlib.Core.List.{List, [], ◌∷◌}
use mathlib.Core.Logic.{⊎_elim, by_cases}
use native.Mathlib.Decide.{dec_le}
use Prim.Native.Nat.{ℕ, zero, suc, ◌+◌, ◌≤◌, ◌<◌}
use lib.ListN.{length, get_or}
use native.Mathlib.Omega.{arith}
use native.Mathlib.Nat.{zero-add, add-zero}
use Rattle.laws.specs.Sum.{hit}
use Rattle.laws.specs.Span.{span, listing}
use Rattle.laws.proofs.Sum.{hit_same, hit_at_most_one, hit_equal, hit_other, either_positive}

pub span_add : (g : ℕ → ℕ) (f j k : ℕ) → span g f (j + k) ≡ span g f j + span g (f + j) k
unfolding span
span_add g f zero k = rw (zero-add k, add-zero f) (omega arith)
span_add g f (suc j) k =
    let e : f + suc j ≡ suc f + j = omega arith in
    let e' : suc j + k ≡ suc (j + k) = omega arith in
    rw (e', e) (omega (arith, span_add g (suc f) j k))

pub span_one : (f k : ℕ) → span (λ (e : ℕ). 1) f k ≡ k
unfolding span
span_one f zero = refl
span_one f (suc k) = omega (arith, span_one (suc f) k)

-- a number counted among consecutive numbers lies among them
pub span_hit_in : (e f k : ℕ) → 0 < span (hit e) f k → (f ≤ e) × (e < f + k)
unfolding span
span_hit_in e f zero h = absurd (omega arith)
span_hit_in e f (suc k) h =
    ⊎_elim
    (λ (p : 0 < hit e f). omega (arith, hit_equal e f p))
    (λ (p : 0 < span (hit e) (suc f) k). omega (arith, span_hit_in e (suc f) k p))
    (either_positive (hit e f) (span (hit e) (suc f) k) h)

-- one that does not is not counted
pub span_hit_out : (e f k : ℕ) → e < f → span (hit e) f k ≡ 0
unfolding span
span_hit_out e f zero h = refl
span_hit_out e f (suc k) h = omega (arith, hit_other e f (omega arith), span_hit_out e (suc f) k (omega arith))

pub span_hit_at_most_one : (e f k : ℕ) → span (hit e) f k ≤ 1
unfolding span
span_hit_at_most_one e f zero = omega arith
span_hit_at_most_one e f (suc k) =
    by_cases (dec_le e f)
    (λ (p : e ≤ f). omega (arith, hit_at_most_one e f, span_hit_out e (suc f) k (omega arith)))
    (λ (p : ¬ (e ≤ f)). omega (arith, hit_other e f (omega arith), span_hit_at_most_one e (suc f) k))

pub span_hit_one : (e f k : ℕ) → f ≤ e → e < f + k → span (hit e) f k ≡ 1
unfolding span
span_hit_one e f zero h q = absurd (omega arith)
span_hit_one e f (suc k) h q =
    by_cases (dec_le e f)
    (λ (p : e ≤ f).
    let same : e ≡ f = omega arith in
    omega (arith, ap (hit e) same, hit_same e, span_hit_out e (suc f) k (omega arith)))
    (λ (p : ¬ (e ≤ f)). omega (arith, hit_other e f (omega arith), span_hit_one e (suc f) k (omega arith) (omega arith)))

-- a number's share of the sum
pub span_at : (g : ℕ → ℕ) (e f k : ℕ) → f ≤ e → e < f + k → g e ≤ span g f k
unfolding span
span_at g e f zero h q = absurd (omega arith)
span_at g e f (suc k) h q =
    by_cases (dec_le e f)
    (λ (p : e ≤ f). let same : e ≡ f = omega arith in omega (arith, ap g same))
    (λ (p : ¬ (e ≤ f)). omega (arith, span_at g e (suc f) k (omega arith) (omega arith)))

-- the sums are equal where what is summed is
pub span_agree_from : (g h : ℕ → ℕ) (f k : ℕ) → ((i : ℕ) → f ≤ i → i < f + k → g i ≡ h i) → span g f k ≡ span h f k
unfolding span
span_agree_from g h f zero e = refl
span_agree_from g h f (suc k) e =
    omega (arith, e f (omega arith) (omega arith), span_agree_from g h (suc f) k (λ (i : ℕ) (l : suc f ≤ i) (u : i < suc f + k). e i (omega arith) (omega arith)))

-- ---- lists over consecutive numbers

module _ {A : Type 0} where
  pub listing_length : (g : ℕ → A) (f k : ℕ) → length (listing g f k) ≡ k
  unfolding listing
  listing_length g f zero = refl
  listing_length g f (suc k) = ap suc (listing_length g (suc f) k)

  -- a list is what stands at its places
  pub listing_is : (g : ℕ → A) (d : A) (f k : ℕ) (l : List A) → length l ≡ k
      → ((i : ℕ) → i < k → g (f + i) ≡ get_or l i d) → listing g f k ≡ l
  unfolding listing
  listing_is g d f zero [] e h = refl
  listing_is g d f zero (x ∷ l) e h = absurd (omega arith)
  listing_is g d f (suc k) [] e h = absurd (omega arith)
  listing_is g d f (suc k) (x ∷ l) e h =
      let here : g f ≡ x = rw add-zero at (h 0 (omega arith)) in
      let rest : listing g (suc f) k ≡ l =
      listing_is g d (suc f) k l (omega arith) (λ i p. let q : suc f + i ≡ f + suc i = omega arith in ap g q ∙ h (suc i) (omega arith)) in
      rw (here, rest)

  pub listing_at : (g : ℕ → A) (d : A) (f k i : ℕ) → i < k → get_or (listing g f k) i d ≡ g (f + i)
  unfolding listing
  listing_at g d f zero i h = absurd (omega arith)
  listing_at g d f (suc k) zero h = rw add-zero
  listing_at g d f (suc k) (suc i) h =
      let q : suc f + i ≡ f + suc i = omega arith in listing_at g d (suc f) k i (omega arith) ∙ ap g q
