-- SPECIFICATION 13.1: a Matrix Market file of a graph, as it is written: the first line, lines that begin with %, a line of
-- three counts, and a line for each pair.
use Rattle.std.specs.Prelude.{◌≡◌, List, [], ◌∷◌, ◌++◌, ◌≢◌, ℕ, ◌+◌, ◌-◌, ◌*◌, ◌≤◌, ◌<◌, length}
use Rattle.laws.specs.Blocks.{laid}
use Rattle.laws.specs.Every.{Every}
use Rattle.text.specs.Text.{codes, line}

-- the first line, with its line feed
abbrev pub banner : List ℕ
banner = codes "%%MatrixMarket matrix coordinate pattern general\n"

-- the codes of the bytes that part numbers and lines, and of the one that begins a line to be skipped
abbrev pub space : ℕ
space = 32

abbrev pub feed : ℕ
feed = 10

abbrev pub percent : ℕ
percent = 37

-- a decimal digit
pub record Digit (b : ℕ) : Type 0 where
  pub low : 48 ≤ b
  pub high : b ≤ 57

-- a number: one to ten decimal digits
abbrev pub most_digits : ℕ
most_digits = 10

pub record Numeral (d : List ℕ) : Type 0 where
  pub some : 0 < length d
  pub few : length d ≤ most_digits
  pub digits : Every Digit d

-- the number that digits stand for, with those of v in front
unfoldable pub value_from : ℕ → List ℕ → ℕ
value_from v [] = v
value_from v (b ∷ d) = value_from (v * 10 + (b - 48)) d

abbrev pub value : List ℕ → ℕ
value d = value_from 0 d

-- digits, and the byte behind them
abbrev pub stopped : List ℕ → ℕ → List ℕ
stopped d stop = d ++ (stop ∷ [])

-- a pair as its line has it: two numbers parted by one space
pub record Written : Type 0 where
  pub from : List ℕ
  pub to : List ℕ

abbrev pub pair_line : Written → List ℕ
pair_line p = stopped p.from space ++ stopped p.to feed

pub record Numerals (p : Written) : Type 0 where
  pub from_is : Numeral p.from
  pub to_is : Numeral p.to

-- a line that begins with %, and has no line feed before its end
abbrev pub percent_line : List ℕ → List ℕ
percent_line t = percent ∷ line t

abbrev pub OneLine : List ℕ → Type 0
OneLine t = Every (λ (b : ℕ). b ≢ feed) t

-- a file: what stands behind the % of each such line, the three counts, and the pairs
pub record File : Type 0 where
  pub remarks : List (List ℕ)
  pub rows : List ℕ
  pub columns : List ℕ
  pub entries : List ℕ
  pub pairs : List Written

-- its text
unfoldable pub text_of : File → List ℕ
unfolding laid
text_of f =
    banner
    ++ (laid percent_line f.remarks
    ++ (stopped f.rows space ++ (stopped f.columns space ++ (stopped f.entries feed ++ laid pair_line f.pairs))))

-- numbers where numbers stand, as many rows as columns, and as many pairs as the third count says
pub record Proper (f : File) : Type 0 where
  pub remarks_are : Every OneLine f.remarks
  pub rows_is : Numeral f.rows
  pub columns_is : Numeral f.columns
  pub entries_is : Numeral f.entries
  pub pairs_are : Every Numerals f.pairs
  pub square : value f.rows ≡ value f.columns
  pub counted : value f.entries ≡ length f.pairs
