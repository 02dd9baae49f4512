-- Numbers in a row that are taken into a set.
use Rattle.std.specs.Prelude.{◌≡◌, Bool, true, List, ℕ, ◌+◌, ◌≤◌, ◌<◌}
use Rattle.laws.specs.Span.{span}
use Rattle.laws.specs.Sum.{hit}
use Rattle.slices.specs.Bits.{bit}

-- k numbers from f on are in the set now, besides those that were; or one of them was in it
pub record Row (ws : List ℕ) (f k : ℕ) (r : Bool) (ws' : List ℕ) : Type 0 where
  pub fresh : r ≡ true → (j : ℕ) → bit ws' j ≡ bit ws j + span (hit j) f k
  pub known : ((j : ℕ) → f ≤ j → j < f + k → bit ws j ≡ 0) → r ≡ true
