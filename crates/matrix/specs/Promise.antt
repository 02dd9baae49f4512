-- What import promises beyond its answer: it accepts exactly the texts of `Layout`, and reads from each what its file says; and a
-- text that export writes is read as the same offsets and targets.
use Rattle.std.specs.Prelude.{◌≡◌, List, map, ◌≢◌, ℕ}
use Rattle.records.specs.Store.{Pair, offsets_of, targets_of}
use Rattle.catalogue.specs.Answer.{Row}
use Rattle.graph.specs.Graph.{graph}
use Rattle.matrix.specs.Layout.{File, Written, Proper, value, text_of}
use Rattle.matrix.specs.Reading.{rows, entries, pairs}
use Rattle.matrix.specs.Import.{store_of, fault}
use Rattle.matrix.specs.Export.{exported}

-- a pair's numbers
abbrev pub values_of : Written → Pair
values_of p = record { from = value p.from; to = value p.to }

-- a text is that of the file, and is read as it
pub record Says (f : File) (t : List ℕ) : Type 0 where
  pub proper : Proper f
  pub text_is : text_of f ≡ t
  pub rows_are : rows t ≡ value f.rows
  pub entries_are : entries t ≡ value f.entries
  pub pairs_are : pairs t ≡ map values_of f.pairs

-- by what import answers: what is not refused by 18 is the text of a file, and such a text is not
pub record Accepts (t : List ℕ) (r : Row) : Type 0 where
  pub only : r.refusal ≢ 18 → (f : File) × Says f t
  pub all : (f : File) → Proper f → text_of f ≡ t → (r.refusal ≢ 18) × Says f t

-- offsets and targets that export takes are those of the text it writes, which import takes
pub record Returns (os ts : List ℕ) : Type 0 where
  pub accepted : fault (exported (graph os ts)) ≡ 0
  pub offsets_are : offsets_of (store_of (exported (graph os ts))) ≡ os
  pub targets_are : targets_of (store_of (exported (graph os ts))) ≡ ts
