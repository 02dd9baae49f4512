-- Laws of what holds of every element of a list.
use mathlib.Core.List.{List, [], ◌∷◌, ◌++◌}
use Prim.Native.Nat.{ℕ, zero, suc, ◌<◌}
use native.Mathlib.Omega.{arith}
use lib.ListN.{length, get_or}
use Rattle.laws.specs.Every.{Every}

module _ {A : Type 0} (P : A → Type 0) where
  -- it holds of each element
  pub every_at : (l : List A) (i : ℕ) (d : A) → Every P l → i < length l → P (get_or l i d)
  every_at [] i d h g = absurd (omega arith)
  every_at (x ∷ l) zero d h g = h.0
  every_at (x ∷ l) (suc i) d h g = every_at l i d h.1 (omega arith)

  pub at_every : (l : List A) (d : A) → ((i : ℕ) → i < length l → P (get_or l i d)) → Every P l
  at_every [] d h = tt
  at_every (x ∷ l) d h = (h 0 (omega arith), at_every l d (λ i g. h (suc i) (omega (arith, g))))

  -- and of two lists' elements where it holds of each list's
  pub every_append : (s t : List A) → Every P s → Every P t → Every P (s ++ t)
  every_append [] t h g = g
  every_append (x ∷ s) t h g = (h.0, every_append s t h.1 g)

  -- what follows from it holds as well
  pub every_map : (Q : A → Type 0) (l : List A) → ((x : A) → P x → Q x) → Every P l → Every Q l
  every_map Q [] f h = tt
  every_map Q (x ∷ l) f h = (f x h.0, every_map Q l f h.1)
