-- The references that leave objects: those that leave reachable ones, and sums over them.
use Rattle.std.specs.Prelude.{◌≡◌, ℕ, zero, suc, ◌≤◌, ◌<◌, List, map, ◌↔◌, length}
use Rattle.laws.specs.Sum.{sum, hit}
use Rattle.laws.specs.Span.{span}
use Rattle.graph.specs.Graph.{Graph, Leaves, first, degree}
use Rattle.graph.specs.Chain.{Reach, over_marked}

-- R is what it is said to be: just the references that leave reachable objects, each once, are so many
pub record ReachedReferences (G : Graph) (starts : List ℕ) (R : ℕ) : Type 0 where
  pub numbers : List ℕ
  pub once : (e : ℕ) → sum (hit e) numbers ≤ 1
  pub exactly : (e : ℕ) → (0 < sum (hit e) numbers) ↔ ((v : ℕ) × Reach G starts v × Leaves G e v)
  pub many : length numbers ≡ R

-- the sum of f over the reference numbers that leave object v
abbrev pub leaving_sum : Graph → (ℕ → ℕ) → ℕ → ℕ
leaving_sum G f v = span f (first G v) (degree G v)

-- 1 for a mark that is not set, else 0
abbrev pub unset? : ℕ → ℕ
unset? zero = 1
unset? (suc k) = 0

-- how many references leave unmarked objects
abbrev pub leaving_unmarked : Graph → List ℕ → ℕ
leaving_unmarked G ms = over_marked (degree G) 0 (map unset? ms)
