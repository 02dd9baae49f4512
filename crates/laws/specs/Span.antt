-- Sums and lists over consecutive numbers.
use Rattle.std.specs.Prelude.{List, [], ◌∷◌, ℕ, zero, suc, ◌+◌}

-- the sum of g over the k numbers from f on
unfoldable pub span : (ℕ → ℕ) → ℕ → ℕ → ℕ
span g f zero = 0
span g f (suc k) = g f + span g (suc f) k

-- g of the k numbers from f on
unfoldable pub listing : {A : Type 0} → (ℕ → A) → ℕ → ℕ → List A
listing g f zero = []
listing g f (suc k) = g f ∷ listing g (suc f) k
