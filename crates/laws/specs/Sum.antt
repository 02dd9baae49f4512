-- Sums and counts over lists.
use Rattle.std.specs.Prelude.{List, [], ◌∷◌, ℕ, zero, suc, ◌+◌}

-- the sum of f over a list
unfoldable pub sum : {A : Type 0} → (A → ℕ) → List A → ℕ
sum f [] = 0
sum f (x ∷ xs) = f x + sum f xs

-- 1 where the two numbers are equal, else 0; `sum (hit e) l` is how often e stands in l
unfoldable pub hit : ℕ → ℕ → ℕ
hit zero zero = 1
hit zero (suc j) = 0
hit (suc i) zero = 0
hit (suc i) (suc j) = hit i j
