-- A bit that is set leaves the others as they are: the arithmetic of one word, over the width, and of a list of words.
use mathlib.Core.Path.{◌≡◌, refl, ap, ◌∙◌}
use mathlib.Core.Bool.{true, false}
use mathlib.Core.List.{List}
use mathlib.Core.Logic.{◌≢◌, by_cases}
use Prim.Native.Nat.{ℕ, suc, ◌+◌, ◌-◌, ◌*◌, ◌/◌, ◌%◌, ◌^◌, ◌≤◌, ◌<◌}
use native.Mathlib.Decide.{ℕ_discrete, dec_lt}
use native.Mathlib.Nat.{one-mul, zero-div, two-pow-succ, add-div_right, add-mul-div_left, div-lt_iff_lt-mul}
use native.Mathlib.Omega.{arith}
use lib.ListN.{length, get_or, set, replicate, length-replicate, get_or-replicate, get_or-eq_default}
use lib.Seq.{get_or-set_same, get_or-set_other}
use lib.Pow.{pow_pos, pow-add, shr-shr, shr_lt, shl_exact}
use Rattle.laws.specs.Sum.{hit}
use Rattle.laws.proofs.Sum.{hit_same, hit_other}
use Rattle.laws.proofs.Decides.{never}
use Rattle.slices.specs.Bits.{bit, Inserts}

-- ---- one word x, whose bit k is 0

module _ (x k : ℕ) (clear : x / 2 ^ k % 2 ≡ 0) where
  -- one more in the quotient
  raised : (x + 2 ^ k) / 2 ^ k ≡ x / 2 ^ k + 1
  raised = add-div_right x (pow_pos k)

  raised_same : (x + 2 ^ k) / 2 ^ k % 2 ≡ 1
  raised_same = rw raised (omega arith)

  raised_above : (d : ℕ) → (x + 2 ^ k) / 2 ^ (k + suc d) % 2 ≡ x / 2 ^ (k + suc d) % 2
  raised_above d =
      let e : k + suc d ≡ k + 1 + d = omega arith in
      let half : (x / 2 ^ k + 1) / 2 ≡ x / 2 ^ k / 2 = omega arith in
      let two : 2 ^ 1 ≡ 2 = refl in
      rw (e, ← shr-shr (x + 2 ^ k) (k + 1) d, ← shr-shr (x + 2 ^ k) k 1, raised, two, half, ← two, shr-shr x k 1, shr-shr x (k + 1) d)

  pub raised_fits : (w : ℕ) → x < 2 ^ w → k < w → x + 2 ^ k < 2 ^ w
  raised_fits w h l =
      let d = w - suc k in
      let e : w ≡ suc d + k = omega arith in
      let low : x / 2 ^ k < 2 ^ suc d = shr_lt (suc d) k (rw e at h) in
      let room : (x + 2 ^ k) / 2 ^ k < 2 ^ suc d = rw raised (omega (arith, two-pow-succ d)) in
      rw (e, pow-add 2 (suc d) k) ((div-lt_iff_lt-mul (pow_pos k)).0 room)

raised_below : (x j d : ℕ) → (x + 2 ^ (j + suc d)) / 2 ^ j % 2 ≡ x / 2 ^ j % 2
raised_below x j d =
    rw (pow-add 2 j (suc d), add-mul-div_left x (2 ^ suc d) (pow_pos j)) (omega (arith, two-pow-succ d))

-- bit k is added to the word, seen at bit j
raised_other : (x k j : ℕ) → x / 2 ^ k % 2 ≡ 0 → j ≢ k → (x + 2 ^ k) / 2 ^ j % 2 ≡ x / 2 ^ j % 2
raised_other x k j clear ne =
    by_cases (dec_lt j k)
    (λ (p : j < k).
    let d = k - suc j in
    let e : k ≡ j + suc d = omega arith in
    rw e (raised_below x j d))
    (λ (p : ¬ (j < k)).
    let d = j - suc k in
    let e : j ≡ k + suc d = omega (arith, ne) in
    rw e (raised_above x k clear d))

-- ---- a list of words

pub bit_low : (ws : List ℕ) (i : ℕ) → bit ws i ≤ 1
unfolding bit
bit_low ws i = omega arith

-- a bit that is not set is 0
pub bit_clear : (ws : List ℕ) (i : ℕ) → (bit ws i ≡ 1 → ⊥) → bit ws i ≡ 0
bit_clear ws i h = by_cases (ℕ_discrete (bit ws i) 1) (λ (p : bit ws i ≡ 1). absurd (h p)) (λ (p : bit ws i ≢ 1). omega (arith, bit_low ws i, p))

module _ (ws : List ℕ) (i : ℕ) where
  bit_inserted : i / 32 < length ws → bit ws i ≡ 0 → (j : ℕ)
      → bit (set ws (i / 32) (get_or ws (i / 32) 0 + 2 ^ (i % 32))) j ≡ bit ws j + hit j i
  unfolding bit
  bit_inserted there clear j =
      by_cases (ℕ_discrete (j / 32) (i / 32))
      (λ (p : j / 32 ≡ i / 32).
      by_cases (ℕ_discrete (j % 32) (i % 32))
      (λ (q : j % 32 ≡ i % 32).
      let e : j ≡ i = omega arith in
      rw (e, get_or-set_same ws (i / 32) _ 0 there, raised_same _ _ clear, hit_same i) (omega (arith, clear)))
      (λ (q : j % 32 ≢ i % 32).
      let ne : j ≢ i = λ (z : j ≡ i). q (ap (λ (t : ℕ). t % 32) z) in
      rw (p, get_or-set_same ws (i / 32) _ 0 there, raised_other _ _ _ clear q, hit_other j i ne) (omega arith)))
      (λ (p : j / 32 ≢ i / 32).
      let ne : j ≢ i = λ (z : j ≡ i). p (ap (λ (t : ℕ). t / 32) z) in
      rw (get_or-set_other ws (i / 32) (j / 32) _ 0 p, hit_other j i ne) (omega arith))

  -- the power that the code adds
  power : 1 * 2 ^ (i % 32) % 4294967296 ≡ 2 ^ (i % 32)
  power = shl_exact {a = 1} 1 (i % 32) 32 (omega arith) (omega arith) ∙ one-mul (2 ^ (i % 32))

  -- ---- the two ways of `insert`, which tests the bit as it is defined

  pub inserts_not : get_or ws (i / 32) 0 / 2 ^ (i % 32) % 2 ≡ 1 → Inserts ws i false ws
  unfolding bit
  inserts_not e = record { fresh = λ z. never z refl; there = λ z. e; same = λ z j. refl }

  module _ (clear : get_or ws (i / 32) 0 / 2 ^ (i % 32) % 2 ≡ 1 → ⊥) where
    is_clear : get_or ws (i / 32) 0 / 2 ^ (i % 32) % 2 ≡ 0
    unfolding bit
    is_clear = bit_clear ws i clear

    pub insert_fits : get_or ws (i / 32) 0 < 2 ^ 32 → get_or ws (i / 32) 0 + 1 * 2 ^ (i % 32) % 4294967296 < 2 ^ 32
    insert_fits h = rw power (raised_fits (get_or ws (i / 32) 0) (i % 32) is_clear 32 h (omega arith))

    pub inserts : i / 32 < length ws → Inserts ws i true (set ws (i / 32) (get_or ws (i / 32) 0 + 1 * 2 ^ (i % 32) % 4294967296))
    unfolding bit
    inserts there = record { fresh = λ z j. rw power (bit_inserted there is_clear j); there = λ z. never refl z; same = λ z. never refl z }

-- ---- the numbers from base on: two of them are the same where they stand at the same bit

pub hit_shift : (x e base : ℕ) → base ≤ x → base ≤ e → hit (x - base) (e - base) ≡ hit x e
hit_shift x e base h q =
    by_cases (ℕ_discrete x e)
    (λ (p : x ≡ e). rw (p, hit_same (e - base), hit_same e))
    (λ (p : x ≢ e). omega (arith, hit_other x e p, hit_other (x - base) (e - base) (λ z. p (omega arith))))

-- ---- no number is in the set of zeros

zero_at : (k i : ℕ) → get_or (replicate {A = ℕ} k 0) i 0 ≡ 0
zero_at k i =
    by_cases (dec_lt i k)
    (λ (p : i < k). get_or-replicate {A = ℕ} k i 0 0 p)
    (λ (p : ¬ (i < k)). get_or-eq_default (replicate k 0) 0 (rw length-replicate (omega arith)))

pub bit_none : (k i : ℕ) → bit (replicate k 0) i ≡ 0
unfolding bit
bit_none k i = rw (zero_at k (i / 32), zero-div (2 ^ (i % 32)))
