-- Laws of little-endian words.
use mathlib.Core.Path.{◌≡◌, refl}
use mathlib.Core.List.{List, [], ◌∷◌, ◌++◌}
use Prim.Native.Nat.{ℕ, zero, suc, ◌+◌, ◌*◌, ◌/◌, ◌%◌, ◌^◌, ◌≤◌, ◌<◌}
use native.Mathlib.Nat.{pow-succ', mul_assoc, zero-add, add-zero, suc-add}
use native.Mathlib.Omega.{arith}
use lib.ListN.{length, get_or, take, drop, length-drop}
use lib.Seq.{take-add, get_or-drop, drop-drop, drop-nil}
use Rattle.laws.specs.Words.{le, word, Bytes}

-- one element off, and then a more
drop_one : {A : Type 0} (a : ℕ) (b : List A) → drop a (drop 1 b) ≡ drop (suc a) b
drop_one a [] = drop-nil a
drop_one a (x ∷ b) = refl

-- a word of two parts
pub word_add : (a w : ℕ) (b : List ℕ) → word (a + w) b ≡ word a b + 256 ^ a * word w (drop a b)
unfolding word
word_add zero w b = rw zero-add (omega arith)
word_add (suc a) w b =
    let e : 256 ^ suc a * word w (drop (suc a) b) ≡ 256 * (256 ^ a * word w (drop (suc a) b)) = rw (pow-succ', mul_assoc) in
    rw suc-add (omega (arith, rw drop_one at (word_add a w (drop 1 b)), e))

-- a word of two halves, at a place
pub word_double : (w at : ℕ) (b : List ℕ) → word (w + w) (drop at b) ≡ word w (drop at b) + 256 ^ w * word w (drop (at + w) b)
word_double w at b = rw (word_add, drop-drop)

-- a word of two bytes, at a place
pub word_two : (at : ℕ) (b : List ℕ) → word 2 (drop at b) ≡ get_or b at 0 + 256 * get_or b (at + 1) 0
unfolding word
word_two at b = rw (drop-drop, get_or-drop at b 0, get_or-drop (at + 1) b 0, add-zero at, add-zero (at + 1)) (omega arith)

pub bytes_drop : (n : ℕ) (b : List ℕ) → Bytes b → Bytes (drop n b)
bytes_drop n b h i = rw get_or-drop (h (n + i))

-- the bytes of a value that fits hold that value
pub word_le : (w v : ℕ) (b : List ℕ) → v < 256 ^ w → word w (le w v ++ b) ≡ v
unfolding word le
word_le zero v b h = omega arith
word_le (suc w) v b h =
    let q : v / 256 < 256 ^ w = let p : v < 256 * 256 ^ w = rw pow-succ' at h in omega arith in
    rw (word_le w (v / 256) b q) (omega arith)

-- the bytes of a word are the bytes it was read from
pub le_word : (w : ℕ) (b : List ℕ) → Bytes b → w ≤ length b → le w (word w b) ≡ take w b
unfolding word le
le_word zero b h l = refl
le_word (suc w) [] h l = absurd (omega arith)
le_word (suc w) (x ∷ b) h l =
    let r : (x + 256 * word w b) % 256 ≡ x = omega (arith, h 0) in
    let q : (x + 256 * word w b) / 256 ≡ word w b = omega (arith, h 0) in
    rw (r, q, le_word w b (λ i. h (suc i)) (omega arith))

-- the bytes of the word at a place
pub le_field : (w at : ℕ) (b : List ℕ) → Bytes b → at + w ≤ length b → le w (word w (drop at b)) ≡ take w (drop at b)
le_field w at b h l = le_word w (drop at b) (bytes_drop at b h) (rw length-drop (omega arith))

-- two parts of a list that stand one behind the other
pub take_join : (at w v : ℕ) (b : List ℕ) → take w (drop at b) ++ take v (drop (at + w) b) ≡ take (w + v) (drop at b)
take_join at w v b = rw (take-add w v (drop at b), drop-drop)
