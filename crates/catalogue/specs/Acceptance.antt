-- SPECIFICATION 1: the reader accepts bytes exactly when they are the layout of a store within the ranges, and then returns
-- that store. It is in the contract of `catalogue::read`, for any lent bytes.
use Rattle.std.specs.Prelude.{◌≡◌, List, ◌⊎◌, ◌↔◌, ℕ, length}
use Rattle.graph.specs.Graph.{graph}
use Rattle.records.specs.Store.{Store, InRange, objects, references, offsets_of, targets_of, starts_of, padded}
use Rattle.records.specs.Layout.{layout}
use Rattle.catalogue.specs.Answer.{ReadRow}
use Rattle.records.specs.ReadGraph.{ReadGraph}
use Rattle.records.specs.Subject.{Follows}

-- the number of a call that finds no fault in the catalogue: 0, or 7 where only a lent length is wrong
abbrev pub Faultless : ℕ → Type 0
Faultless k = (k ≡ 0) ⊎ (k ≡ 7)

-- the bytes are the layout of this store, which is within the ranges
pub record Lays (b : List ℕ) (s : Store) : Type 0 where
  pub in_range : InRange s
  pub bytes_are : b ≡ layout s

-- the values returned and the buffers filled in are this store's
pub record Returned (s : Store) (r : ReadRow) (offsets targets sizes starts : List ℕ) : Type 0 where
  pub n_is : r.n ≡ objects s
  pub m_is : r.m ≡ references s
  pub index_is : r.index ≡ s.index
  pub count_is : r.starts ≡ length (starts_of s)
  pub offsets_are : offsets ≡ offsets_of s
  pub targets_are : targets ≡ targets_of s
  pub sizes_are : sizes ≡ s.sizes
  pub starts_are : starts ≡ padded (starts_of s)
  pub graph_is : ReadGraph s (graph offsets targets)
  -- an object that names a live subject lives, and one that has only its subjects dies with them
  pub follows : Follows s (starts_of s)

-- a call on the bytes b that answered the row r and left these buffers
pub record Acceptance (b : List ℕ) (r : ReadRow) (offsets targets sizes starts : List ℕ) : Type 0 where
  -- no fault 1 to 6 or 13 exactly where some store lies in the bytes
  pub exactly : Faultless r.refusal ↔ ((s : Store) × Lays b s)
  -- and an accepted call returns the store that lies in them
  pub that_store : r.refusal ≡ 0 → (s : Store) → Lays b s → Returned s r offsets targets sizes starts
