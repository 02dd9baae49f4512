-- Digits are made from the last to the first: what is left of the number gives the digits in front of those made.
use mathlib.Core.Path.{◌≡◌, ap, ◌∙◌}
use mathlib.Core.List.{List, ◌∷◌, ◌++◌, append_assoc}
use Prim.Native.Nat.{ℕ, suc, ◌+◌, ◌/◌, ◌%◌, ◌≤◌, ◌<◌}
use native.Mathlib.Omega.{arith}
use native.Mathlib.Nat.{mod-eq_of_lt}
use lib.ListN.{length, drop, set, length-set}
use lib.Seq.{drop-cons, get_or-set_same, drop-set-lt}
use borrow.Author.Tests.{lt-ltb, le-ltb}
use Rattle.text.specs.Text.{digits_in}

module _ (i j v : ℕ) (l : List ℕ) (e : j ≡ suc i) (q : i < length l) where
  -- the store of one more digit in front
  drop_before : (x : ℕ) → drop i (set l i x) ≡ x ∷ drop j l
  drop_before x =
      let p : i < length (set l i x) = rw length-set q in
      rw (e, drop-cons (set l i x) i 0 p, get_or-set_same l i x 0 q, drop-set-lt (suc i) l i x (omega arith))

  -- the last digit of all
  pub digit_last : v < 10 → drop i (set l i (48 + v % 10)) ≡ digits_in j v ++ drop j l
  unfolding digits_in
  digit_last p = drop_before (48 + v % 10) ∙ rw (e, lt-ltb v 10 p, mod-eq_of_lt p)

  -- one digit, and more in front of it
  pub digit_more : 10 ≤ v → digits_in i (v / 10) ++ drop i (set l i (48 + v % 10)) ≡ digits_in j v ++ drop j l
  unfolding digits_in
  digit_more p = ap (λ (t : List ℕ). digits_in i (v / 10) ++ t) (drop_before (48 + v % 10)) ∙ rw (e, le-ltb v 10 p, append_assoc)

-- no digit allowed, and none made
pub none_left : (i v : ℕ) (l : List ℕ) → i ≡ 0 → l ≡ digits_in i v ++ drop i l
unfolding digits_in
none_left i v l e = rw e
