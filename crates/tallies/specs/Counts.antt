-- The counts and the tallies, and what the functions on them say.
use Rattle.std.specs.Prelude.{◌≡◌, List, ℕ, ◌+◌, ◌*◌, ◌≤◌, ◌<◌, length}
use Rattle.laws.specs.Span.{span}
use Rattle.graph.specs.Limits.{most_references}
use Rattle.desk.specs.Limits.{most_workers, most_setting}
use Rattle.desk.specs.Lengths.{marks_place}
use Rattle.machine.specs.declared.Counts.{Counts}
use Rattle.machine.specs.Demand3.{moved_bound, handed_bound}
use Rattle.saved.specs.Layout.{tally_number, counts_in}
use Rattle.tallies.specs.declared.Sums.{Sums}

-- the counts and the tallies of W workers are there
pub record TalliesThere (W : ℕ) (w : List ℕ) : Type 0 where
  pub low : W ≤ most_workers
  pub long : marks_place W ≤ length w

-- number k of the first j tallies
abbrev pub tally_sum : ℕ → List ℕ → ℕ → ℕ → ℕ
tally_sum W w k j = span (λ (b : ℕ). tally_number W w b k) 0 j

-- no worker won and lost more claims than it followed references
abbrev pub ClaimsSound : ℕ → List ℕ → Type 0
ClaimsSound W w = (b : ℕ) → b < W → tally_number W w b 1 + tally_number W w b 2 ≤ tally_number W w b 0

-- the tallies add up to the counts
pub record TalliesSound (W : ℕ) (w : List ℕ) (c : Counts) (distinct : ℕ) : Type 0 where
  pub followed : tally_sum W w 0 W ≡ c.followed
  pub won : tally_sum W w 1 W + distinct ≡ c.live
  pub handed : tally_sum W w 3 W ≡ c.handed
  pub claims : ClaimsSound W w

-- the counts are those of the marks and the workers, of m references
pub record CountsRight (m : ℕ) (c : Counts) (s : Sums) : Type 0 where
  pub live_is : c.live ≡ s.live
  pub carrying_is : c.carrying ≡ s.carrying
  pub total : c.followed + s.carried + s.leaving ≡ m
  pub stopped_empty : 0 < s.ended → s.carried ≡ 0

-- they are within their bounds, with W workers and cutoff K
pub record CountsLow (m W K : ℕ) (c : Counts) (since : ℕ) : Type 0 where
  pub moved_limit : c.moved ≤ moved_bound m W
  pub handed_limit : c.handed * K ≤ handed_bound m
  pub since_followed : since ≤ c.followed
  pub refused_moved : c.refused ≤ c.moved

-- a store and a setting in their ranges
pub record RangesLow (m W K : ℕ) : Type 0 where
  pub references_limit : m ≤ most_references
  pub workers_limit : W ≤ most_workers
  pub some_cutoff : 1 ≤ K
  pub cutoff_limit : K ≤ most_setting

-- sums that fit
pub record SumsLow (s : Sums) : Type 0 where
  pub carried_low : s.carried ≤ 1152921504606846976
  pub leaving_low : s.leaving ≤ most_references

-- all of it
pub record Agree (m W K : ℕ) (w : List ℕ) (s : Sums) : Type 0 where
  pub right : CountsRight m (counts_in w) s
  pub low : CountsLow m W K (counts_in w) s.since
  pub tallies : TalliesSound W w (counts_in w) s.distinct
