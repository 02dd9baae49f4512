-- The full adder: nothing is lost, the slot and the carry hold the objects of all three.
use mathlib.Core.Path.{◌≡◌, refl, ap}
use mathlib.Core.List.{List}
use Prim.Native.Nat.{ℕ, suc, ◌+◌, ◌≤◌}
use native.Mathlib.Omega.{arith}
use lib.ListN.{length, length-set}
use Rattle.std.specs.Prelude.{Option, None, Some}
use Rattle.laws.specs.Sum.{sum}
use Rattle.bag.specs.Bag.{times, pennant_of, slot_of, Same, united}
use Rattle.bag.specs.Adder.{Unitable, sum_of, carry_of, links_of}
use Rattle.bag.proofs.Trees.{pennant_length, pennant_frame, united_holds, united_same}

-- ---- nothing is lost

-- the slot and the carry hold what the three slots of size 2^k held, and other objects' links stay
pub record Keeps (k : ℕ) (L : List ℕ) (x y z here carry : Option ℕ) (L' : List ℕ) : Type 0 where
  pub holds : (v : ℕ) → times v (slot_of k L' here) + times v (slot_of (suc k) L' carry)
      ≡ times v (slot_of k L x) + times v (slot_of k L y) + times v (slot_of k L z)
  pub sized : length (slot_of k L' here) + length (slot_of (suc k) L' carry) ≡ length (slot_of k L x) + length (slot_of k L y) + length (slot_of k L z)
  pub same : (v : ℕ) → times v (slot_of k L x) + times v (slot_of k L y) + times v (slot_of k L z) ≡ 0 → Same L L' v
  pub long : length L' ≡ length L

united_long : (L : List ℕ) (x y : ℕ) → length (united L x y) ≡ length L
united_long L x y = simp length-set

pub united_sized : (k : ℕ) (L : List ℕ) (x y : ℕ) → length (pennant_of (suc k) (united L x y) x) ≡ length (pennant_of k L x) + length (pennant_of k L y)
united_sized k L x y = omega (arith, pennant_length (suc k) (united L x y) x, pennant_length k L x, pennant_length k L y)

pub keeps : (k : ℕ) (L : List ℕ) (x y z : Option ℕ) → Unitable L x y z
    → ((v : ℕ) → times v (slot_of k L x) + times v (slot_of k L y) + times v (slot_of k L z) ≤ 1)
    → Keeps k L x y z (sum_of x y z) (carry_of x y z) (links_of L x y z)
unfolding sum_of carry_of links_of sum
keeps k L None None z u once = record { holds = λ v. omega arith; sized = omega arith; same = λ v h. (refl, refl); long = refl }
keeps k L None (Some y) None u once = record { holds = λ v. omega arith; sized = omega arith; same = λ v h. (refl, refl); long = refl }
keeps k L (Some x) None None u once = record { holds = λ v. omega arith; sized = omega arith; same = λ v h. (refl, refl); long = refl }
keeps k L None (Some y) (Some z) u once =
    let one : (v : ℕ) → times v (pennant_of k L y) + times v (pennant_of k L z) ≤ 1 = λ v. omega (arith, once v) in
    record {
      holds = λ v. omega (arith, united_holds k L y z one u.second u.third v);
      sized = omega (arith, united_sized k L y z);
      same = λ v h. united_same k L y z v (omega arith);
      long = united_long L y z;
    }
keeps k L (Some x) None (Some z) u once =
    let one : (v : ℕ) → times v (pennant_of k L x) + times v (pennant_of k L z) ≤ 1 = λ v. omega (arith, once v) in
    record {
      holds = λ v. omega (arith, united_holds k L x z one u.first u.third v);
      sized = omega (arith, united_sized k L x z);
      same = λ v h. united_same k L x z v (omega arith);
      long = united_long L x z;
    }
keeps k L (Some x) (Some y) None u once =
    let one : (v : ℕ) → times v (pennant_of k L x) + times v (pennant_of k L y) ≤ 1 = λ v. omega (arith, once v) in
    record {
      holds = λ v. omega (arith, united_holds k L x y one u.first u.second v);
      sized = omega (arith, united_sized k L x y);
      same = λ v h. united_same k L x y v (omega arith);
      long = united_long L x y;
    }
keeps k L (Some x) (Some y) (Some z) u once =
    let one : (v : ℕ) → times v (pennant_of k L y) + times v (pennant_of k L z) ≤ 1 = λ v. omega (arith, once v) in
    let stays : pennant_of k (united L y z) x ≡ pennant_of k L x = pennant_frame k L (united L y z) x (λ v p. united_same k L y z v (omega (arith, once v))) in
    record {
      holds = λ v. omega (arith, united_holds k L y z one u.second u.third v, ap (times v) stays);
      sized = omega (arith, united_sized k L y z, pennant_length k L x, pennant_length k (united L y z) x);
      same = λ v h. united_same k L y z v (omega arith);
      long = united_long L y z;
    }
