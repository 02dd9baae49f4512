-- The marker's result words: a first one is stored, and the part behind it is lent, and comes back with those behind it.
use mathlib.Core.Path.{◌≡◌, ap}
use mathlib.Core.List.{List, [], ◌∷◌, ◌++◌, append-nil}
use Prim.Native.Nat.{ℕ, ◌-◌, ◌<◌}
use native.Mathlib.Nat.{suc-sub-suc, sub-zero}
use native.Mathlib.Omega.{arith}
use lib.ListN.{length, set, take, drop}
use lib.Seq.{drop-length}

pub first_and_rest : (l q : List ℕ) (a : ℕ) → 0 < length l
    → take 1 (set l 0 a) ++ (q ++ drop (length (set l 0 a) - 1) (drop 1 (set l 0 a))) ≡ a ∷ q
first_and_rest [] q a h = absurd (omega arith)
first_and_rest (x ∷ l) q a h = ap (λ (r : List ℕ). a ∷ r) (rw (suc-sub-suc, sub-zero, drop-length l) (append-nil q))
