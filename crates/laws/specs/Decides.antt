-- An answer that decides a fact.
use Rattle.std.specs.Prelude.{◌≡◌, Bool, true}

-- the answer is true exactly where the fact holds
pub record Decides (r : Bool) (P : Type 0) : Type 0 where
  pub right : r ≡ true → P
  pub known : P → r ≡ true
