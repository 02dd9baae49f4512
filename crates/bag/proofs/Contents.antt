-- The contents of a bag, slot by slot. What carries the argument: a pennant in slot k has 2^k objects whatever the links say, so the slots
-- with a pennant are the binary digits of the size; and slots read the links of their own objects only.
use mathlib.Core.Path.{◌≡◌, refl, sym, ap, ◌∙◌}
use mathlib.Core.List.{List, [], ◌∷◌, ◌++◌, map, append_assoc, append-nil}
use Prim.Native.Nat.{ℕ, zero, suc, ◌+◌, ◌*◌, ◌^◌, ◌/◌, ◌%◌, ◌≤◌, ◌<◌}
use native.Mathlib.Omega.{arith}
use lib.ListN.{length, get_or, take, drop, take-append-drop, replicate, drop_of_length-le, length-append}
use lib.Seq.{drop-cons, take-suc, length-take-le}
use Rattle.std.specs.Prelude.{Option, None, Some}
use Rattle.laws.specs.Sum.{hit}
use Rattle.laws.proofs.Sum.{sum_append}
use Rattle.bag.specs.Bag.{times, slot_of, contents_from, filled, digits, Same}
use Rattle.bag.proofs.Trees.{pennant_length, pennant_frame}

-- ---- how often an object stands there

pub times_slots : (v k : ℕ) (L : List ℕ) (s : Option ℕ) (slots : List (Option ℕ))
    → times v (contents_from k L (s ∷ slots)) ≡ times v (slot_of k L s) + times v (contents_from (suc k) L slots)
unfolding contents_from
times_slots v k L s slots = sum_append (hit v) (slot_of k L s) (contents_from (suc k) L slots)

pub length_slots : (k : ℕ) (L : List ℕ) (s : Option ℕ) (slots : List (Option ℕ))
    → length (contents_from k L (s ∷ slots)) ≡ length (slot_of k L s) + length (contents_from (suc k) L slots)
unfolding contents_from
length_slots k L s slots = length-append (slot_of k L s) (contents_from (suc k) L slots)

-- ---- one slot after the other

contents_at : (k : ℕ) (L : List ℕ) (S : List (Option ℕ)) → k < length S
    → contents_from k L (drop k S) ≡ slot_of k L (get_or S k None) ++ contents_from (suc k) L (drop (suc k) S)
unfolding contents_from
contents_at k L S h = rw (drop-cons S k None h)

pub times_at : (v k : ℕ) (L : List ℕ) (S : List (Option ℕ)) → k < length S
    → times v (contents_from k L (drop k S)) ≡ times v (slot_of k L (get_or S k None)) + times v (contents_from (suc k) L (drop (suc k) S))
times_at v k L S h = rw (contents_at k L S h) (sum_append (hit v) (slot_of k L (get_or S k None)) (contents_from (suc k) L (drop (suc k) S)))

pub length_at : (k : ℕ) (L : List ℕ) (S : List (Option ℕ)) → k < length S
    → length (contents_from k L (drop k S)) ≡ length (slot_of k L (get_or S k None)) + length (contents_from (suc k) L (drop (suc k) S))
length_at k L S h = rw (contents_at k L S h) (length-append (slot_of k L (get_or S k None)) (contents_from (suc k) L (drop (suc k) S)))

pub contents_append : (k : ℕ) (L : List ℕ) (xs ys : List (Option ℕ)) → contents_from k L (xs ++ ys) ≡ contents_from k L xs ++ contents_from (length xs + k) L ys
unfolding contents_from
contents_append k L [] ys = let z : 0 + k ≡ k = omega arith in rw z
contents_append k L (x ∷ xs) ys =
    let z : suc (length xs) + k ≡ length xs + suc k = omega arith in
    rw (contents_append (suc k) L xs ys, z) (sym (append_assoc (slot_of k L x) (contents_from (suc k) L xs) (contents_from (length xs + suc k) L ys)))

-- the slots in front, and the others
pub contents_split : (k : ℕ) (L : List ℕ) (S : List (Option ℕ)) → k ≤ length S → contents_from 0 L S ≡ contents_from 0 L (take k S) ++ contents_from k L (drop k S)
contents_split k L S h =
    let n : length (take k S) + 0 ≡ k = omega (arith, length-take-le k S h) in
    ap (contents_from 0 L) (sym (take-append-drop k S)) ∙ (contents_append 0 L (take k S) (drop k S) ∙ rw n)

-- one slot more in front
pub contents_take : (k : ℕ) (L : List ℕ) (S : List (Option ℕ)) → k < length S → contents_from 0 L (take (suc k) S) ≡ contents_from 0 L (take k S) ++ slot_of k L (get_or S k None)
unfolding contents_from
contents_take k L S h =
    let n : length (take k S) + 0 ≡ k = omega (arith, length-take-le k S (omega arith)) in
    rw (take-suc S k None h) (contents_append 0 L (take k S) (get_or S k None ∷ []) ∙ rw n (rw (append-nil (slot_of k L (get_or S k None)))))

pub contents_none : (k j : ℕ) (L : List ℕ) → contents_from k L (replicate j None) ≡ []
unfolding contents_from
contents_none k zero L = refl
contents_none k (suc j) L = contents_none (suc k) j L

-- ---- links written elsewhere

slot_frame : (k : ℕ) (L L' : List ℕ) (s : Option ℕ) → ((v : ℕ) → 0 < times v (slot_of k L s) → Same L L' v) → slot_of k L' s ≡ slot_of k L s
slot_frame k L L' None f = refl
slot_frame k L L' (Some x) f = pennant_frame k L L' x f

pub contents_frame : (k : ℕ) (L L' : List ℕ) (S : List (Option ℕ)) → ((v : ℕ) → 0 < times v (contents_from k L S) → Same L L' v)
    → contents_from k L' S ≡ contents_from k L S
unfolding contents_from
contents_frame k L L' [] f = refl
contents_frame k L L' (s ∷ S) f =
    let a = slot_frame k L L' s (λ v p. f v (omega (arith, times_slots v k L s S))) in
    let b = contents_frame (suc k) L L' S (λ v p. f v (omega (arith, times_slots v k L s S))) in
    rw (a, b)

-- ---- sizes

-- the number with these digits, the lowest first
unfoldable pub value : List ℕ → ℕ
value [] = 0
value (d ∷ ds) = d + 2 * value ds

slot_length : (k : ℕ) (L : List ℕ) (s : Option ℕ) → length (slot_of k L s) ≡ filled s * 2 ^ k
slot_length k L None = omega arith
slot_length k L (Some x) = omega (arith, pennant_length k L x)

pub contents_length : (k : ℕ) (L : List ℕ) (S : List (Option ℕ)) → length (contents_from k L S) ≡ 2 ^ k * value (map filled S)
unfolding contents_from value
contents_length k L [] = omega arith
contents_length k L (s ∷ S) =
    let double : 2 ^ suc k ≡ 2 * 2 ^ k = omega arith in
    omega (arith, length-append (slot_of k L s) (contents_from (suc k) L S), slot_length k L s, rw double at (contents_length (suc k) L S))

digits_value : (S : List (Option ℕ)) → digits (length S) (value (map filled S)) ≡ map filled S
unfolding digits value
digits_value [] = refl
digits_value (None ∷ S) =
    let a : (0 + 2 * value (map filled S)) % 2 ≡ 0 = omega arith in
    let b : (0 + 2 * value (map filled S)) / 2 ≡ value (map filled S) = omega arith in
    rw (a, b, digits_value S)
digits_value (Some x ∷ S) =
    let a : (1 + 2 * value (map filled S)) % 2 ≡ 1 = omega arith in
    let b : (1 + 2 * value (map filled S)) / 2 ≡ value (map filled S) = omega arith in
    rw (a, b, digits_value S)

-- the slots with a pennant are the binary digits of the size
pub binary_slots : (L : List ℕ) (S : List (Option ℕ)) → map filled S ≡ digits (length S) (length (contents_from 0 L S))
binary_slots L S =
    let e : length (contents_from 0 L S) ≡ value (map filled S) = omega (arith, contents_length 0 L S) in
    rw e (sym (digits_value S))

-- ---- what is left of the digits

pub value_at : (k : ℕ) (S : List (Option ℕ)) → k < length S → value (map filled (drop k S)) ≡ filled (get_or S k None) + 2 * value (map filled (drop (suc k) S))
unfolding value
value_at k S h = rw (drop-cons S k None h)

pub value_end : (k : ℕ) (S : List (Option ℕ)) → length S ≤ k → value (map filled (drop k S)) ≡ 0
unfolding value
value_end k S h = rw (drop_of_length-le S h)

-- digits that are all 0 are those of empty slots
pub value_none : (S : List (Option ℕ)) → value (map filled S) ≡ 0 → S ≡ replicate (length S) None
unfolding value
value_none [] h = refl
value_none (None ∷ S) h = rw (← value_none S (omega arith))
value_none (Some x ∷ S) h = absurd (omega arith)

pub none_left : (k : ℕ) (L : List ℕ) (S : List (Option ℕ)) → value (map filled S) ≡ 0 → contents_from k L S ≡ []
none_left k L S h = rw (value_none S h) (contents_none k (length S) L)

pub filled_low : (s : Option ℕ) → filled s ≤ 1
filled_low None = omega arith
filled_low (Some x) = omega arith
