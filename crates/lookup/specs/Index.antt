-- The index of names: a set of the values that the last eight bytes of names have, and behind it hints for the search, of which nothing is
-- asked. And the number that the first eight bytes of a name are.
use Rattle.std.specs.Prelude.{◌≡◌, ℕ, ◌+◌, ◌-◌, ◌*◌, ◌/◌, ◌%◌, ◌<◌, ◌≤◌, List, length, take, nat_lt, slice_index}
use Rattle.std.specs.Int.{from_be_bytes, w64}
use Rattle.laws.specs.Choice.{pick}
use Rattle.slices.specs.Bits.{bit}
use Rattle.names.specs.Call.{work_word_count}

-- how many bytes
abbrev pub tail_bytes : ℕ
tail_bytes = 8

-- how many values they have: one bit for each
abbrev pub tail_values : ℕ
tail_values = 4194304

-- the value of the eight bytes from place p on: each takes it on by three bits
unfoldable pub tail_at : List ℕ → ℕ → ℕ
tail_at bytes p =
    (32768 * (64 * slice_index bytes p + 8 * slice_index bytes (p + 1) + slice_index bytes (p + 2))
    + 64 * (64 * slice_index bytes (p + 3) + 8 * slice_index bytes (p + 4) + slice_index bytes (p + 5))
    + 8 * slice_index bytes (p + 6)
    + slice_index bytes (p + 7))
    % tail_values

-- the tail of each of so many names is in the set, where names have so many bytes
pub record Indexed (names : List ℕ) (w count : ℕ) (index : List ℕ) : Type 0 where
  pub long : length index ≡ work_word_count
  pub kept : tail_bytes ≤ w → (k : ℕ) → k < count → bit index (tail_at names (k * w + w - tail_bytes)) ≡ 1

-- what is written behind the set changes nothing in it
pub record KeepsSet (index index' : List ℕ) : Type 0 where
  pub long : length index' ≡ length index
  pub same : (v : ℕ) → v < tail_values → bit index' v ≡ bit index v

-- a digit's value; some number below 16 for any other byte
abbrev pub nibble : ℕ → ℕ
nibble b = (b % 16 + 9 * (b / 64)) % 16

-- the first eight bytes of a name as one number, and 0 where names have fewer
unfoldable pub lead_of : List ℕ → ℕ
lead_of name = pick (nat_lt (length name) 8) 0 (from_be_bytes w64 (take 8 name))
