-- Little-endian words, over the width in bytes.
use Rattle.std.specs.Prelude.{List, [], ◌∷◌, ℕ, zero, suc, ◌+◌, ◌*◌, ◌/◌, ◌%◌, ◌<◌, get_or, drop}

-- a value as bytes, the lowest first
unfoldable pub le : ℕ → ℕ → List ℕ
le zero v = []
le (suc w) v = v % 256 ∷ le w (v / 256)

-- the value of the first bytes of a list; what the list lacks counts as 0
unfoldable pub word : ℕ → List ℕ → ℕ
word zero b = 0
word (suc w) b = get_or b 0 0 + 256 * word w (drop 1 b)

-- each element is a byte
abbrev pub Bytes : List ℕ → Type 0
Bytes b = (i : ℕ) → get_or b i 0 < 256
