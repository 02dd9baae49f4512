-- The places of a text that may hold a name: w digits, of which the last eight are in the index.
use Rattle.std.specs.Prelude.{◌≡◌, ℕ, ◌+◌, ◌-◌, ◌<◌, ◌≤◌, true, false, List, length, slice_index, Option, MatchOption, Result, MatchResult, ⊤}
use Rattle.slices.specs.Bits.{bit}
use Rattle.names.specs.Names.{is_digit}
use Rattle.lookup.specs.Index.{tail_bytes, tail_at}

pub record Candidate (w : ℕ) (index text : List ℕ) (p : ℕ) : Type 0 where
  pub inside : p + w ≤ length text
  pub digits : (q : ℕ) → p ≤ q → q < p + w → is_digit (slice_index text q) ≡ true
  pub kept : tail_bytes ≤ w → bit index (tail_at text (p + w - tail_bytes)) ≡ 1

-- no place from one up to another may hold a name
abbrev pub Barren : ℕ → List ℕ → List ℕ → ℕ → ℕ → Type 0
Barren w index text a b = (p : ℕ) → a ≤ p → p < b → Candidate w index text p → ⊥

-- a byte that is no digit, between two places
pub record Other (text : List ℕ) (low high i : ℕ) : Type 0 where
  pub above : low ≤ i
  pub below : i < high
  pub other : is_digit (slice_index text i) ≡ false

abbrev pub LastOther : List ℕ → ℕ → ℕ → Option ℕ → Type 0
LastOther text low high r = MatchOption r ⊤ (Other text low high)

-- the first place from one on that may hold a name: a window's
pub record Next (w : ℕ) (index text : List ℕ) (from at : ℕ) : Type 0 where
  pub barren : Barren w index text from at
  pub low : from ≤ at
  pub fits : at + w ≤ length text

-- none before a place further on
pub record Further (w : ℕ) (index text : List ℕ) (from at : ℕ) : Type 0 where
  pub barren : Barren w index text from at
  pub moves : from < at
  pub inside : at ≤ length text

-- sliding along a text from a place: the next, or where to go on
abbrev pub Slides : ℕ → List ℕ → List ℕ → ℕ → Result ℕ ℕ → Type 0
Slides w index text from r = MatchResult r (Next w index text from) (Further w index text from)

-- the next place, or none up to the end
abbrev pub NextPlace : ℕ → List ℕ → List ℕ → ℕ → Option ℕ → Type 0
NextPlace w index text from r = MatchOption r (Barren w index text from (length text)) (Next w index text from)
