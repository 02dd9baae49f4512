-- A bit of the black workers read, set and taken out: the numbers of the ring afterwards.
use mathlib.Core.Path.{◌≡◌, refl, sym, ap, ◌∙◌}
use mathlib.Core.List.{List}
use mathlib.Core.Logic.{◌≢◌}
use Prim.Native.Nat.{ℕ, zero, suc, ◌+◌, ◌-◌, ◌*◌, ◌/◌, ◌%◌, ◌^◌, ◌≤◌, ◌<◌}
use native.Mathlib.Omega.{arith}
use lib.ListN.{length, get_or, set, length-set}
use lib.Pow.{shl_exact, pow_mono}
use Rattle.machine.specs.Ring.{Colour, white, black, shade, colour_of, darkened, fresh_ring, blackened, passed_on, black_set}
use Rattle.theorems.proofs.Colours.{shade_limit, set_at, set_limit, set_none, set_changed}
use Rattle.step.specs.declared.ring.Ring.{Ring as Words}
use Rattle.step.specs.Ringing.{ring_with, ring_of, RingAt}

-- numbers that agree are the same ring's
pub same_ring : {w v : Words} → w.holder ≡ v.holder → w.token ≡ v.token → w.black ≡ v.black → w ≡ v
same_ring h t b = rw (h, t, b) refl

-- a fresh ring's
pub fresh_words : (W : ℕ) → ring_with 0 0 0 ≡ ring_of (fresh_ring W)
fresh_words W = same_ring refl refl (sym (set_none W))

-- worker b turns black, or white
module _ (cs : List Colour) (b : ℕ) (h : b < length cs) where
  black_set_lem : black_set cs + (1 - shade (get_or cs b white)) * 2 ^ b ≡ black_set (set cs b black)
  black_set_lem = by (get_or cs b white) refl (set_changed cs b black h)
    where
      by : (c : Colour) → get_or cs b white ≡ c → black_set (set cs b black) + shade (get_or cs b white) * 2 ^ b ≡ black_set cs + 1 * 2 ^ b
          → black_set cs + (1 - shade (get_or cs b white)) * 2 ^ b ≡ black_set (set cs b black)
      by white e q = rw e (omega (arith, rw e at q))
      by black e q = rw e (omega (arith, rw e at q))

  white_set : black_set cs - shade (get_or cs b white) * 2 ^ b ≡ black_set (set cs b white)
  white_set = omega (arith, set_changed cs b white h)

-- what is shifted is not cut off
shifted : (c b : ℕ) → c ≤ 1 → b < 64 → c * 2 ^ b % 18446744073709551616 ≡ c * 2 ^ b
shifted c b h l = shl_exact {a = c} 1 b 64 (omega arith) (omega arith)

module _ {w : Words} {b : ℕ} (x : RingAt w b) where
  pub shift_low : b < 64
  shift_low = omega (arith, x.low, x.few)

  -- the bit that is read
  pub read : w.black / 2 ^ b % 2 ≡ shade (colour_of x.ring b)
  read = ap (λ (v : Words). v.black / 2 ^ b % 2) x.words_are ∙ set_at x.ring.colours b

  module _ {c : ℕ} (e : c ≡ shade (colour_of x.ring b)) where
    pub low_shade : c ≤ 1
    low_shade = omega (arith, e, shade_limit (colour_of x.ring b))

    -- the numbers of the black workers with b, and without it
    pub with_black : w.black + (1 - c) * 2 ^ b % 18446744073709551616 ≡ black_set (set x.ring.colours b black)
    with_black =
        ap (λ (k : ℕ). w.black + k) (shifted (1 - c) b (omega arith) shift_low)
        ∙ rw (e, x.words_are) (black_set_lem x.ring.colours b x.low)

    pub black_fits : w.black + (1 - c) * 2 ^ b % 18446744073709551616 < 2 ^ 64
    black_fits =
        omega (
          arith,
          with_black,
          set_limit (set x.ring.colours b black),
          pow_mono {i = length (set x.ring.colours b black)} {j = 64} (rw length-set (omega (arith, x.few))),
        )

    pub without_black : w.black - c * 2 ^ b % 18446744073709551616 ≡ black_set (set x.ring.colours b white)
    without_black =
        ap (λ (k : ℕ). w.black - k) (shifted c b low_shade shift_low)
        ∙ rw (e, x.words_are) (white_set x.ring.colours b x.low)

    pub black_there : c * 2 ^ b % 18446744073709551616 ≤ w.black
    black_there =
        omega (
          arith,
          shifted c b low_shade shift_low,
          ap (λ (v : Words). v.black) x.words_are,
          ap (λ (k : ℕ). k * 2 ^ b) e,
          set_changed x.ring.colours b white x.low,
        )

    -- ---- the ring afterwards

    pub blackened_words : ring_with w.holder w.token (w.black + (1 - c) * 2 ^ b % 18446744073709551616) ≡ ring_of (blackened b x.ring)
    blackened_words = same_ring (ap (λ (v : Words). v.holder) x.words_are) (ap (λ (v : Words). v.token) x.words_are) with_black

    -- worker 0 sends the token
    pub sent_words : (W : ℕ) → b ≡ 0 → ring_with (W - 1) 0 (w.black - c * 2 ^ b % 18446744073709551616) ≡ ring_of (passed_on W b x.ring)
    sent_words W z = by b z without_black
      where
        by : (i : ℕ) → i ≡ 0 → {k : ℕ} → k ≡ black_set (set x.ring.colours i white) → ring_with (W - 1) 0 k ≡ ring_of (passed_on W i x.ring)
        by zero z q = same_ring refl refl q
        by (suc i) z q = absurd (omega arith)

    -- any other one passes it
    pub passed_words : (W : ℕ) → b ≢ 0 → {t : ℕ} → t ≡ shade (darkened (colour_of x.ring b) x.ring.token)
        → ring_with (b - 1) t (w.black - c * 2 ^ b % 18446744073709551616) ≡ ring_of (passed_on W b x.ring)
    passed_words W n {t} d = by b n d without_black
      where
        by : (i : ℕ) → i ≢ 0 → t ≡ shade (darkened (colour_of x.ring i) x.ring.token) → {k : ℕ} → k ≡ black_set (set x.ring.colours i white)
            → ring_with (i - 1) t k ≡ ring_of (passed_on W i x.ring)
        by zero z d q = absurd (z refl)
        by (suc i) z d q = same_ring (omega arith) d q

    -- it is black where b is, and else as it was
    pub black_token : c ≡ 1 → 1 ≡ shade (darkened (colour_of x.ring b) x.ring.token)
    black_token o = by (colour_of x.ring b) (omega (arith, e, o))
      where
        by : (d : Colour) → shade d ≡ 1 → 1 ≡ shade (darkened d x.ring.token)
        by white q = absurd (omega arith)
        by black q = refl

    pub same_token : c ≢ 1 → w.token ≡ shade (darkened (colour_of x.ring b) x.ring.token)
    same_token o = ap (λ (v : Words). v.token) x.words_are ∙ by (colour_of x.ring b) (λ q. o (e ∙ q))
      where
        by : (d : Colour) → shade d ≢ 1 → shade x.ring.token ≡ shade (darkened d x.ring.token)
        by white q = refl
        by black q = absurd (q refl)
