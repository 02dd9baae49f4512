-- A set of numbers as bits: number i is bit i % 32 of word i / 32.
use Rattle.std.specs.Prelude.{◌≡◌, Bool, true, false, List, ℕ, ◌+◌, ◌/◌, ◌%◌, ◌^◌, get_or}
use Rattle.laws.specs.Sum.{hit}

-- the bits of a word
abbrev pub word_bits : ℕ
word_bits = 32

-- the words of a large set
abbrev pub many_words : ℕ
many_words = 6144

-- bit i: 1 where i is in the set, else 0
unfoldable pub bit : List ℕ → ℕ → ℕ
bit ws i = get_or ws (i / word_bits) 0 / 2 ^ (i % word_bits) % 2

-- what `insert` says and leaves: i was not in the set and is now, besides those that were; or it was, and nothing changes
pub record Inserts (ws : List ℕ) (i : ℕ) (r : Bool) (ws' : List ℕ) : Type 0 where
  pub fresh : r ≡ true → (j : ℕ) → bit ws' j ≡ bit ws j + hit j i
  pub there : r ≡ false → bit ws i ≡ 1
  pub same : r ≡ false → (j : ℕ) → bit ws' j ≡ bit ws j
