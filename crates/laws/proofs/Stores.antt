-- Stores and reads in a list that is cut at a known place, and stores in a row.
use mathlib.Core.Path.{◌≡◌, ap, ◌∙◌}
use mathlib.Core.List.{List, [], ◌∷◌, ◌++◌, append-nil}
use Prim.Native.Nat.{ℕ, ◌+◌}
use native.Mathlib.Nat.{zero-add, suc-add}
use native.Mathlib.Omega.{arith}
use lib.ListN.{length, get_or, set}
use lib.Seq.{get_or-append-add, drop-length, sets, sets-eq}

module _ {A : Type 0} where
  -- a store behind the seam
  pub set_append_add : (p q : List A) (i : ℕ) (a : A) → set (p ++ q) (length p + i) a ≡ p ++ set q i a
  set_append_add [] q i a = rw zero-add
  set_append_add (x ∷ p) q i a = rw suc-add (ap (λ (r : List A). x ∷ r) (set_append_add p q i a))

  -- the same, where the seam's place is known by an equation
  pub set_past : (p q : List A) (n i : ℕ) (a : A) → length p ≡ n → set (p ++ q) (n + i) a ≡ p ++ set q i a
  set_past p q n i a e = rw (← e) (set_append_add p q i a)

  pub get_or_past : (p q : List A) (n i : ℕ) (d : A) → length p ≡ n → get_or (p ++ q) (n + i) d ≡ get_or q i d
  get_or_past p q n i d e = rw (← e) (get_or-append-add p q i d)

  -- as many stores as a list has places, one behind the other, leave just what was stored
  pub sets_all : (vs l : List A) → length l ≡ length vs → sets l 0 vs ≡ vs
  sets_all vs l e = sets-eq vs l 0 (omega (arith, e)) ∙ rw (zero-add, ← e, drop-length l) (append-nil vs)
