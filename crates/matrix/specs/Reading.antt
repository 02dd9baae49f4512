-- SPECIFICATION 13.1 as a computed test: the same form, read from the front. `proofs/Forms` shows that the texts that pass are
-- those of `Layout`.
use Rattle.std.specs.Prelude.{Bool, true, false, not, List, [], ◌∷◌, ℕ, zero, suc, length, get_or, drop, leb, ltb, eqb}
use Rattle.laws.specs.Choice.{pick, both}
use Rattle.records.specs.Store.{Pair}
use Rattle.matrix.specs.Layout.{banner, space, feed, percent, most_digits, value}

-- the text begins with these bytes
unfoldable pub begins : List ℕ → List ℕ → Bool
begins [] t = true
begins (p ∷ ps) [] = false
begins (p ∷ ps) (b ∷ t) = both (eqb b p) (begins ps t)

-- what stands behind all lines at its beginning that begin with %; the test says whether the text begins within such a line
unfoldable pub skip : Bool → List ℕ → List ℕ
skip within [] = []
skip true (b ∷ t) = skip (not (eqb b feed)) t
skip false (b ∷ t) = pick (eqb b percent) (skip true t) (b ∷ t)

-- ---- a number and the byte behind it

-- a digit?
abbrev pub is_digit : ℕ → Bool
is_digit b = both (leb 48 b) (leb b 57)

-- the digits that the text begins with, at most k of them
unfoldable pub digits : ℕ → List ℕ → List ℕ
digits zero t = []
digits (suc k) [] = []
digits (suc k) (b ∷ t) = pick (is_digit b) (b ∷ digits k t) []

abbrev pub lead : List ℕ → List ℕ
lead t = digits most_digits t

-- the number they stand for
abbrev pub number : List ℕ → ℕ
number t = value (lead t)

-- one digit or more, and this byte behind them
abbrev pub stops : ℕ → List ℕ → Bool
stops stop t = both (ltb 0 (length (lead t))) (eqb (get_or t (length (lead t)) 0) stop)

-- what stands behind that byte
abbrev pub behind : List ℕ → List ℕ
behind t = drop (suc (length (lead t))) t

-- ---- the lines of the pairs

-- a number, a space, a number, a line feed
abbrev pub is_line : List ℕ → Bool
is_line t = both (stops space t) (stops feed (behind t))

abbrev pub line_behind : List ℕ → List ℕ
line_behind t = behind (behind t)

abbrev pub pair_of : List ℕ → Pair
pair_of t = record { from = number t; to = number (behind t) }

-- so many such lines, and nothing behind them
unfoldable pub are_lines : ℕ → List ℕ → Bool
are_lines zero t = eqb (length t) 0
are_lines (suc k) t = both (is_line t) (are_lines k (line_behind t))

-- their pairs, counted from 1 as they are written
unfoldable pub pairs_in : ℕ → List ℕ → List Pair
pairs_in zero t = []
pairs_in (suc k) t = pair_of t ∷ pairs_in k (line_behind t)

-- ---- the whole text

-- where the counts stand: behind the first line and those that begin with %
abbrev pub counts_in : List ℕ → List ℕ
counts_in t = skip false (drop (length banner) t)

abbrev pub rows : List ℕ → ℕ
rows t = number (counts_in t)

abbrev pub columns : List ℕ → ℕ
columns t = number (behind (counts_in t))

abbrev pub entries : List ℕ → ℕ
entries t = number (behind (behind (counts_in t)))

-- where the pairs stand
abbrev pub lines_in : List ℕ → List ℕ
lines_in t = behind (behind (behind (counts_in t)))

-- three numbers with their spaces and line feed
abbrev pub are_counts : List ℕ → Bool
are_counts c = both (stops space c) (both (stops space (behind c)) (stops feed (behind (behind c))))

-- the first line, the counts, and as many rows as columns
unfoldable pub is_head : List ℕ → Bool
unfolding begins skip digits
is_head t = both (begins banner t) (both (are_counts (counts_in t)) (eqb (rows t) (columns t)))

-- all of it
unfoldable pub is_text : List ℕ → Bool
is_text t = both (is_head t) (are_lines (entries t) (lines_in t))

-- its pairs
unfoldable pub pairs : List ℕ → List Pair
pairs t = pairs_in (entries t) (lines_in t)
