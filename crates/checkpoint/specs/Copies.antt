-- What is copied between the lent buffers and the saved words.
use Rattle.std.specs.Prelude.{ℕ, ◌*◌, ◌<◌, ◌≡◌, List, length, get_or}
use Rattle.laws.specs.Span.{listing}
use Rattle.saved.specs.Layout.{number_at}

-- k numbers of which the words are two each
abbrev pub numbers_of : List ℕ → ℕ → List ℕ
numbers_of w k = listing (λ (i : ℕ). number_at w (2 * i)) 0 k

-- each word is a byte
abbrev pub Bytes : List ℕ → Type 0
Bytes w = (i : ℕ) → get_or w i 0 < 256

-- a list as long as another begins with its first k elements
pub record Prefix (words : List ℕ) (k : ℕ) (out : List ℕ) : Type 0 where
  pub long : length out ≡ length words
  pub each : (i : ℕ) → i < k → get_or out i 0 ≡ get_or words i 0
