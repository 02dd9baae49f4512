-- Offsets of which an index can be made.
use Rattle.std.specs.Prelude.{List, ℕ, suc, ◌≤◌, ◌<◌, length, get_or}
use Rattle.graph.specs.Limits.{most_objects, most_references}

-- the blocks of an index
abbrev pub index_blocks : ℕ
index_blocks = 8193

pub record Indexable (os : List ℕ) : Type 0 where
  pub some : 1 < length os
  pub few : length os ≤ suc most_objects
  pub low : (v : ℕ) → v < length os → get_or os v 0 ≤ most_references
