-- From the bytes of the two files to the text: a finished collection prints as dead exactly the objects to which no chain of
-- the catalogue's own references leads from one of its starts, the index and the leases. It is in the contract of
-- `report::answer`, for any two files.
use Rattle.std.specs.Prelude.{◌≡◌, true, false, List, ◌++◌, ◌⊎◌, ◌↔◌, ℕ, ◌+◌, ◌<◌}
use Rattle.laws.specs.Sum.{sum, hit}
use Rattle.records.specs.Store.{Store, objects, starts_of}
use Rattle.catalogue.specs.Acceptance.{Lays}
use Rattle.records.specs.ReadGraph.{read_graph}
use Rattle.records.specs.Chain.{Chain}
use Rattle.machine.specs.declared.Counts.{Counts}
use Rattle.machine.specs.Tally.{Tally}
use Rattle.machine.specs.Sound.{distinct_starts}
use Rattle.sweep.specs.Sweep.{sizes_of}
use Rattle.sweep.specs.Collection.{UpwardsFrom}
use Rattle.lines.specs.Lines.{refusal_line, count_lines, tally_lines, dead_lines, freed_line}
use Rattle.program.specs.Program.{Files, program_fault}

-- what the printed numbers of this store's collection add up to
pub record AddUp (s : Store) (c : Counts) (ts : List Tally) : Type 0 where
  pub followed_total : sum (λ (t : Tally). t.followed) ts ≡ c.followed
  pub handed_total : sum (λ (t : Tally). t.handed) ts ≡ c.handed
  pub won_total : sum (λ (t : Tally). t.won) ts + distinct_starts (read_graph s) (starts_of s) ≡ c.live

-- a finished collection of this store: the dead upwards, each with its size, and the sum of these sizes
pub record FinishedText (s : Store) (text : List ℕ) : Type 0 where
  pub counts : Counts
  pub tallies : List Tally
  pub add_up : AddUp s counts tallies
  pub numbers : List ℕ
  pub upwards : UpwardsFrom 0 numbers
  pub exactly : (v : ℕ) → (0 < sum (hit v) numbers) ↔ ((v < objects s) × (Chain s (starts_of s) v → ⊥))
  pub lines_are : text ≡ count_lines true counts ++ tally_lines 0 tallies ++ (dead_lines s.sizes numbers ++ freed_line (sizes_of s.sizes numbers))

-- an unfinished one: the counts, the workers' tallies and nothing more
pub record UnfinishedText (s : Store) (text : List ℕ) : Type 0 where
  pub counts : Counts
  pub tallies : List Tally
  pub add_up : AddUp s counts tallies
  pub lines_are : text ≡ count_lines false counts ++ tally_lines 0 tallies

-- what is printed for these files
pub record Promise (f : Files) (text : List ℕ) : Type 0 where
  -- a refusal is one line
  pub refused : 0 < program_fault f → text ≡ refusal_line (program_fault f)
  -- accepted: `store.cat` is the layout of a store within the ranges,
  pub a_store : program_fault f ≡ 0 → (s : Store) × Lays f.store s
  -- and the text is that of a collection of this store
  pub collected : program_fault f ≡ 0 → (s : Store) → Lays f.store s → FinishedText s text ⊎ UnfinishedText s text
