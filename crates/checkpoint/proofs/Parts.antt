-- Parts of the saved words that are lent to be read.
use mathlib.Core.Path.{◌≡◌, ap}
use mathlib.Core.List.{List}
use Prim.Native.Nat.{ℕ, ◌+◌, ◌-◌}
use native.Mathlib.Omega.{arith}
use lib.ListN.{length, take, drop, length-drop}
use lib.Seq.{take_all}
use Rattle.checkpoint.specs.Restoring.{part_of}

-- k words from a on
pub part_lent : (l : List ℕ) (a k : ℕ) → take (a + k - a) (drop a l) ≡ part_of a k l
part_lent l a k = let e : a + k - a ≡ k = omega arith in ap (λ (m : ℕ). take m (drop a l)) e

-- all from a on
pub rest_lent : (l : List ℕ) (a : ℕ) → take (length l - a) (drop a l) ≡ drop a l
rest_lent l a = take_all (length l - a) (drop a l) (rw length-drop (omega arith))
