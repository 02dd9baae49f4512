-- Passes over the numbers 0, 1, ..: sums of what was passed.
use mathlib.Core.Path.{◌≡◌, refl, sym}
use Prim.Native.Nat.{ℕ, zero, suc, ◌+◌, ◌-◌, ◌*◌, ◌≤◌, ◌<◌}
use native.Mathlib.Nat.{zero-add}
use native.Mathlib.Omega.{arith}
use Rattle.laws.specs.Span.{span, listing}
use Rattle.laws.specs.Sum.{sum, hit}
use Rattle.laws.proofs.Span.{span_add, span_agree_from}
use Rattle.laws.proofs.Sum.{hit_same, hit_other}

module _ (g : ℕ → ℕ) where
  -- one number more
  pub span_after : (f k : ℕ) → span g f (k + 1) ≡ span g f k + g (f + k)
  unfolding span
  span_after f k = omega (arith, span_add g f k 1)

  pub span_next : (k : ℕ) → span g 0 (k + 1) ≡ span g 0 k + g k
  span_next k = rw (span_after 0 k, zero-add k)

  -- fewer numbers
  pub span_so_far : (f j k : ℕ) → j ≤ k → span g f j ≤ span g f k
  span_so_far f j k h =
      let e : k ≡ j + (k - j) = omega arith in
      rw e (omega (arith, span_add g f j (k - j)))

  -- each number counts at most c
  pub span_limit : (c f k : ℕ) → ((i : ℕ) → g i ≤ c) → span g f k ≤ c * k
  unfolding span
  span_limit c f zero h = omega arith
  span_limit c f (suc k) h = omega (arith, h f, span_limit c (suc f) k h)

-- two weights together
pub span_plus : (g h : ℕ → ℕ) (f k : ℕ) → span (λ (i : ℕ). g i + h i) f k ≡ span g f k + span h f k
unfolding span
span_plus g h f zero = refl
span_plus g h f (suc k) = omega (arith, span_plus g h (suc f) k)

-- two weights that agree on the numbers
pub span_agree : (g h : ℕ → ℕ) (k : ℕ) → ((i : ℕ) → i < k → g i ≡ h i) → span g 0 k ≡ span h 0 k
span_agree g h k e = span_agree_from g h 0 k (λ (i : ℕ) (l : 0 ≤ i) (u : i < 0 + k). e i (omega arith))

-- one more number is k, or it is not
pub hit_counts : (n k x : ℕ) → x ≡ k → n + 1 ≡ n + hit k x
hit_counts n k x e = rw (e, hit_same k)

pub miss_counts : (n k x : ℕ) → (x ≡ k → ⊥) → n ≡ n + hit k x
miss_counts n k x h = omega (arith, hit_other k x (λ e. h (sym e)))

-- ---- the list of what belongs to consecutive numbers

module _ {A : Type 0} (g : ℕ → A) where
  pub sum_listing : (f : A → ℕ) (b k : ℕ) → sum f (listing g b k) ≡ span (λ (i : ℕ). f (g i)) b k
  unfolding sum listing span
  sum_listing f b zero = refl
  sum_listing f b (suc k) = omega (arith, sum_listing f (suc b) k)
