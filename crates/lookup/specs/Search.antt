-- The search for a window among ascending names.
use Rattle.std.specs.Prelude.{◌≡◌, ℕ, ◌*◌, ◌<◌, List, length, ◌≢◌, Option, MatchOption}
use Rattle.std.specs.declared.cmp.Ordering.TheVariants.{Less}
use Rattle.names.specs.Names.{window, order}
use Rattle.names.specs.Call.{work_word_count}

-- name i is below every later one
abbrev pub Ascends : List ℕ → ℕ → ℕ → Type 0
Ascends names w count = (i j : ℕ) → i < j → j < count → order (window w names (i * w)) (window w names (j * w)) ≡ Less

pub record Searchable (names : List ℕ) (w count : ℕ) (index bytes : List ℕ) : Type 0 where
  pub long : length names ≡ w * count
  pub ascends : Ascends names w count
  pub index_long : length index ≡ work_word_count
  pub fits : length bytes ≡ w

-- the number of the name that the bytes are
abbrev pub FoundIs : List ℕ → ℕ → ℕ → List ℕ → Option ℕ → Type 0
FoundIs names w count bytes r =
    MatchOption r ((k : ℕ) → k < count → bytes ≢ window w names (k * w)) (λ k. (k < count) × (bytes ≡ window w names (k * w)))
