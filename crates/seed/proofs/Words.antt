-- A word that a draw moves: by what its first word is, and that a first word other than 0 never becomes 0.
use Rattle.std.proofs.Common.{◌≡◌, Ok, ℕ, zero, suc, ◌-◌, ◌*◌, ◌/◌, ◌^◌, ◌<◌, ◌≢◌, refl, mod-lt, arith}
use lib.Bits.{bit_xor, xor_add_and, and_le_l, and_le_r, xor_lt}
use Rattle.seed.specs.declared.Seed.{Seed}
use Rattle.seed.specs.Draw.{left, right, shifted_once, shifted_twice, xorshifted, moved, next_by, card_of, drawn_by}

-- ---- by the first word

pub next_moves : (n : ℕ) (s : Seed) → n ≢ 0 → next_by n s ≡ moved s
next_moves zero s h = absurd (h refl)
next_moves (suc n) s h = refl

pub drawn_card : (n : ℕ) (s : Seed) → n ≢ 0 → drawn_by n s ≡ Ok (card_of s)
drawn_card zero s h = absurd (h refl)
drawn_card (suc n) s h = refl

-- ---- the xorshift can be undone, so only 0 becomes 0

-- two numbers without a bit that differs are equal
xor_same : (a b : ℕ) → bit_xor a b ≡ 0 → a ≡ b
xor_same a b e = omega (arith, e, xor_add_and a b, and_le_l a b, and_le_r a b)

once_low : (x : ℕ) → x < 2 ^ 32 → shifted_once x < 2 ^ 32
once_low x h = xor_lt 32 x (left 13 x) h (mod-lt (x * 2 ^ 13) (omega arith))

twice_low : (x : ℕ) → x < 2 ^ 32 → shifted_twice x < 2 ^ 32
twice_low x h = let l = once_low x h in xor_lt 32 (shifted_once x) (right 17 (shifted_once x)) l (omega arith)

pub xorshift_low : (x : ℕ) → x < 2 ^ 32 → xorshifted x < 2 ^ 32
unfolding xorshifted
xorshift_low x h = let l = twice_low x h in xor_lt 32 (shifted_twice x) (left 5 (shifted_twice x)) l (mod-lt (shifted_twice x * 2 ^ 5) (omega arith))

multiple_low : (x k : ℕ) → x < 2 ^ 32 → x ≡ 2 ^ 32 * k → x ≡ 0
multiple_low x k h e = omega arith

-- A word that its own shift is equal to is 0. To the left by 13: 8191 times the word is a multiple of 2^32, and so is the word,
-- since 128 · 2^32 is 67117057 · 8191 + 1; by 5 in the same way, since 8 · 2^32 is 1108378657 · 31 + 1.
left_13 : (x : ℕ) → x < 2 ^ 32 → x ≡ left 13 x → x ≡ 0
left_13 x h e =
    let q = x * 2 ^ 13 / 2 ^ 32 in
    multiple_low x (128 * x - 67117057 * q) h (omega arith)

right_17 : (x : ℕ) → x ≡ right 17 x → x ≡ 0
right_17 x e = omega arith

left_5 : (x : ℕ) → x < 2 ^ 32 → x ≡ left 5 x → x ≡ 0
left_5 x h e =
    let q = x * 2 ^ 5 / 2 ^ 32 in
    multiple_low x (8 * x - 1108378657 * q) h (omega arith)

pub xorshift_zero : (x : ℕ) → x < 2 ^ 32 → xorshifted x ≡ 0 → x ≡ 0
unfolding xorshifted
xorshift_zero x h e =
    let c = left_5 (shifted_twice x) (twice_low x h) (xor_same (shifted_twice x) (left 5 (shifted_twice x)) e) in
    let b = right_17 (shifted_once x) (xor_same (shifted_once x) (right 17 (shifted_once x)) c) in
    left_13 x h (xor_same x (left 13 x) b)
