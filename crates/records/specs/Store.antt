-- SPECIFICATION 1: what a catalogue says, and the words that the reader makes of it.
use Rattle.std.specs.Prelude.{List, ◌∷◌, ◌++◌, map, ℕ, ◌-◌, ◌≤◌, ◌<◌, length, replicate}
use Rattle.laws.specs.Every.{Every}
use Rattle.graph.specs.Limits.{most_objects, most_references, most_starts, largest_size}
use Rattle.laws.specs.Grouping.{grouped, starts}

-- a reference leads from one object to another
pub record Pair : Type 0 where
  pub from : ℕ
  pub to : ℕ

-- what stands among the references: an object refers to another, or names another as its subject
pub data Link : Type 0 where
  refers names : Pair → Link

-- the reference that is stored: for a subject, the one from the named subject to the naming object
abbrev pub stored : Link → Pair
stored (refers p) = p
stored (names p) = record { from = p.to; to = p.from }

-- the index object, the size of each object, the references and subjects in catalogue order, and the objects with a lease
pub record Store : Type 0 where
  pub index : ℕ
  pub sizes : List ℕ
  pub links : List Link
  pub leases : List ℕ

-- n and m; a subject counts in m
abbrev pub objects : Store → ℕ
objects s = length s.sizes

abbrev pub references : Store → ℕ
references s = length s.links

-- the stored references, in catalogue order
abbrev pub pairs : Store → List Pair
pairs s = map stored s.links

-- both ends of a reference are objects
pub record Ends (n : ℕ) (p : Pair) : Type 0 where
  pub from_below : p.from < n
  pub to_below : p.to < n

-- the most leases
abbrev pub most_leases : ℕ
most_leases = 256

-- n is 1 to 65,536, m is 0 to 1,048,576, a size is 0 to 1,099,511,627,776; every object number is below n
pub record InRange (s : Store) : Type 0 where
  pub some : 1 ≤ objects s
  pub few : objects s ≤ most_objects
  pub few_references : references s ≤ most_references
  pub index_below : s.index < objects s
  pub sizes_small : Every (λ (x : ℕ). x ≤ largest_size) s.sizes
  pub ends_below : Every (Ends (objects s)) (pairs s)
  pub few_leases : length s.leases ≤ most_leases
  pub leases_below : Every (λ (x : ℕ). x < objects s) s.leases

-- the n + 1 offsets: offset v says where v's references begin among the targets
abbrev pub offsets_of : Store → List ℕ
offsets_of s = starts (λ (p : Pair). p.from) (objects s) (pairs s)

-- the m targets: the references of object 0, of object 1, .., each object's in catalogue order
abbrev pub targets_of : Store → List ℕ
targets_of s = map (λ (p : Pair). p.to) (grouped (λ (p : Pair). p.from) (objects s) (pairs s))

-- the starts: the index, then the leases in catalogue order
abbrev pub starts_of : Store → List ℕ
starts_of s = s.index ∷ s.leases

-- the words of the start buffer: the index and the most leases
abbrev pub start_words : ℕ
start_words = most_starts

-- so many starts in the buffer, with zeros behind them
abbrev pub padded : List ℕ → List ℕ
padded starts = starts ++ replicate (start_words - length starts) 0
