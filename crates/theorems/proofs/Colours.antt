-- Colours as bits of one number: what is read at a bit, what a change of one colour does, and how large the number is.
use mathlib.Core.Path.{◌≡◌, refl}
use mathlib.Core.List.{List, [], ◌∷◌}
use Prim.Native.Nat.{ℕ, zero, suc, ◌+◌, ◌*◌, ◌/◌, ◌%◌, ◌^◌, ◌≤◌, ◌<◌}
use native.Mathlib.Omega.{arith}
use native.Mathlib.Nat.{two-pow-succ, zero-div}
use lib.ListN.{length, get_or, set, replicate}
use lib.Pow.{shr-shr}
use Rattle.machine.specs.Ring.{Colour, white, black, shade, black_set}

pub shade_limit : (c : Colour) → shade c ≤ 1
shade_limit white = omega arith
shade_limit black = omega arith

-- half of it: the first colour is shifted out
half_set : (c : Colour) (x : ℕ) → (shade c + 2 * x) / 2 ≡ x
half_set c x = omega (arith, shade_limit c)

-- bit b is the shade of worker b
pub set_at : (cs : List Colour) (b : ℕ) → black_set cs / 2 ^ b % 2 ≡ shade (get_or cs b white)
unfolding black_set
set_at [] b = rw (zero-div (2 ^ b)) refl
set_at (c ∷ cs) zero = omega (arith, shade_limit c)
set_at (c ∷ cs) (suc b) =
    let one : suc b ≡ 1 + b = omega arith in
    let two : 2 ^ 1 ≡ 2 = refl in
    rw (one, ← shr-shr (shade c + 2 * black_set cs) 1 b, two, half_set c (black_set cs)) (set_at cs b)

-- fewer than so many bits
pub set_limit : (cs : List Colour) → black_set cs < 2 ^ length cs
unfolding black_set
set_limit [] = omega arith
set_limit (c ∷ cs) = omega (arith, shade_limit c, set_limit cs, two-pow-succ (length cs))

-- nobody is black
pub set_none : (k : ℕ) → black_set (replicate k white) ≡ 0
unfolding black_set
set_none zero = refl
set_none (suc k) = omega (arith, set_none k)

-- worker b takes another colour
pub set_changed : (cs : List Colour) (b : ℕ) (c : Colour) → b < length cs
    → black_set (set cs b c) + shade (get_or cs b white) * 2 ^ b ≡ black_set cs + shade c * 2 ^ b
unfolding black_set
set_changed [] b c h = absurd (omega arith)
set_changed (d ∷ cs) zero c h = omega arith
set_changed (d ∷ cs) (suc b) c h = rw (two-pow-succ b) (omega (arith, set_changed cs b c (omega arith)))
