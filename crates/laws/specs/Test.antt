-- Tests that are computed: of all elements of a list, of all numbers below a bound, of some such number, of two lists.
use Rattle.std.specs.Prelude.{ℕ, zero, suc, Bool, true, false, List, [], ◌∷◌, eqb}
use Rattle.laws.specs.Choice.{both, either}

-- p holds of every element
unfoldable pub all : {A : Type 0} → (A → Bool) → List A → Bool
all p [] = true
all p (x ∷ l) = both (p x) (all p l)

-- p holds of every number below n; of some number below n
unfoldable pub all_up_to : ℕ → (ℕ → Bool) → Bool
all_up_to zero p = true
all_up_to (suc n) p = both (all_up_to n p) (p n)

unfoldable pub some_up_to : ℕ → (ℕ → Bool) → Bool
some_up_to zero p = false
some_up_to (suc n) p = either (some_up_to n p) (p n)

-- the lists are the same
unfoldable pub same : List ℕ → List ℕ → Bool
same [] [] = true
same [] (y ∷ l) = false
same (x ∷ k) [] = false
same (x ∷ k) (y ∷ l) = both (eqb x y) (same k l)
