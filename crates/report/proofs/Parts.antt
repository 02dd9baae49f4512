-- Parts of the program's own memory, which is zeros.
use mathlib.Core.Path.{◌≡◌}
use Prim.Native.Nat.{ℕ, ◌≤◌}
use native.Mathlib.Omega.{arith}
use lib.ListN.{length, take, replicate, length-replicate}
use lib.Seq.{length-take-le}

-- a part of n zeros has n elements
pub part_long : (n most : ℕ) → n ≤ most → length (take {A = ℕ} n (replicate most 0)) ≡ n
part_long n most h = length-take-le n (replicate most 0) (omega (arith, length-replicate {A = ℕ} most 0))
