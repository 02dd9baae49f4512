-- Text as lists of ASCII codes: words, decimal numbers, lines.
use Rattle.std.specs.Prelude.{◌≡◌, List, [], ◌∷◌, ◌++◌, ℕ, zero, suc, ◌+◌, ◌/◌, ◌%◌, ◌≤◌, length, drop, ltb}
use Prim.Native.Char.{code}
use Prim.Native.String.{String, [] as []ˢ, ◌∷◌ as ◌∷ˢ◌}
use Rattle.laws.specs.Choice.{pick}

-- the codes of a text's characters
abbrev pub codes : String → List ℕ
codes []ˢ = []
codes (c ∷ˢ s) = code c ∷ codes s

-- a number in decimal digits, without leading zeros, in at most k of them
unfoldable pub digits_in : ℕ → ℕ → List ℕ
digits_in zero n = []
digits_in (suc k) n = pick (ltb n 10) ((48 + n) ∷ []) (digits_in k (n / 10) ++ ((48 + n % 10) ∷ []))

-- a number in decimal digits: 20 hold every number below 2 ^ 64
unfoldable pub decimal : ℕ → List ℕ
unfolding digits_in
decimal n = digits_in 20 n

-- a space and a number
abbrev pub spaced : ℕ → List ℕ
spaced n = codes " " ++ decimal n

-- a line ends in a line feed
abbrev pub line : List ℕ → List ℕ
line t = t ++ codes "\n"

-- the digits of v at the end of 20 bytes, beginning at `from`
pub record Aligned (v : ℕ) (bytes : List ℕ) (from : ℕ) : Type 0 where
  pub long : length bytes ≡ 20
  pub inside : from ≤ 20
  pub digits : drop from bytes ≡ decimal v
