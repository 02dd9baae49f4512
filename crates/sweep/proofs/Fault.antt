-- The checks in their order: which number each gives.
use mathlib.Core.Path.{◌≡◌}
use mathlib.Core.Bool.{true, false}
use mathlib.Core.List.{List}
use Prim.Native.Nat.{ℕ, suc}
use lib.ListN.{length}
use borrow.Author.Tests.{eq-eqb, ne_eqb}
use Rattle.graph.specs.Limits.{most_objects}
use Rattle.desk.specs.Checks.{outside}
use Rattle.sweep.specs.Sweep.{all_fit, fault, refused_row, sweeping, list_after}

module _ (marks sizes list : List ℕ) where
  -- a fault is returned by its number, and leaves the list
  pub refusing : (k : ℕ) → fault marks sizes list ≡ suc k
      → (refused_row (suc k) ≡ sweeping marks sizes list) × (list ≡ list_after marks sizes list)
  refusing k e = (rw e, rw e)

  pub fault_count : outside most_objects (length sizes) ≡ true → fault marks sizes list ≡ 4
  unfolding fault
  fault_count e = rw e

  module _ (n : outside most_objects (length sizes) ≡ false) where
    pub fault_marks : (length marks ≡ length sizes → ⊥) → fault marks sizes list ≡ 7
    unfolding fault
    fault_marks h = rw (n, ne_eqb (length marks) (length sizes) h)

    module _ (m : length marks ≡ length sizes) where
      pub fault_list : (length list ≡ length sizes → ⊥) → fault marks sizes list ≡ 7
      unfolding fault
      fault_list h = rw (n, eq-eqb (length marks) (length sizes) m, ne_eqb (length list) (length sizes) h)

      module _ (l : length list ≡ length sizes) where
        pub fault_size : all_fit sizes ≡ false → fault marks sizes list ≡ 6
        unfolding fault
        fault_size h = rw (n, eq-eqb (length marks) (length sizes) m, eq-eqb (length list) (length sizes) l, h)

        pub fault_free : all_fit sizes ≡ true → fault marks sizes list ≡ 0
        unfolding fault
        fault_free h = rw (n, eq-eqb (length marks) (length sizes) m, eq-eqb (length list) (length sizes) l, h)
