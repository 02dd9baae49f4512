-- How far a collection is, by value: what the tallies do not tell of its counts, how many workers have not ended, and the ring.
use Rattle.std.specs.Prelude.{ℕ, ◌+◌, ◌-◌, ◌≤◌, ◌<◌, ◌^◌, ◌≡◌, List, length, get_or}
use Rattle.laws.specs.Sum.{sum}
use Rattle.desk.specs.Limits.{most_workers}
use Rattle.desk.specs.Lengths.{tally_word_count}
use Rattle.machine.specs.declared.Counts.{Counts}
use Rattle.machine.specs.Tally.{Tally, tally_words, tallies_words}
use Rattle.machine.specs.Machine.{Worker, idle, asking, denied, ended, given, busy}
use Rattle.step.specs.declared.Progress.{Progress}
use Rattle.step.specs.declared.ring.Ring.{Ring as Words}
use Rattle.step.specs.Ringing.{ring_with}

-- 1 for a worker that has not ended
abbrev pub running? : Worker → ℕ
running? idle = 1
running? asking = 1
running? denied = 1
running? ended = 0
running? (given rs) = 1
running? (busy c n p rs) = 1

-- ---- the counts that a progress and the tallies make

-- word number k of a tally
abbrev pub tally_word : ℕ → Tally → ℕ
tally_word k t = get_or (tally_words t) k 0

abbrev pub counts_of : Progress → List Tally → Counts
counts_of p ts =
    record {
      live = p.starts + sum (λ (t : Tally). t.won) ts;
      followed = sum (λ (t : Tally). t.followed) ts;
      handed = sum (λ (t : Tally). t.handed) ts;
      refused = p.refused;
      moved = p.moved;
      carrying = p.carrying;
    }

-- the words of W tallies, whose words number k add up to what a word holds
pub record Summable (ws : List ℕ) (W k : ℕ) : Type 0 where
  pub tallies : List Tally
  pub words_are : ws ≡ tallies_words tallies
  pub count : length tallies ≡ W
  pub few : W ≤ most_workers
  pub low : k < tally_word_count
  pub fits : sum (tally_word k) tallies < 2 ^ 64

-- the words of W tallies, with which each count is what a word holds
pub record Countable (ws : List ℕ) (W : ℕ) (p : Progress) : Type 0 where
  pub tallies : List Tally
  pub words_are : ws ≡ tallies_words tallies
  pub count : length tallies ≡ W
  pub few : W ≤ most_workers
  pub live_fits : (counts_of p tallies).live < 2 ^ 64
  pub followed_fits : (counts_of p tallies).followed < 2 ^ 64
  pub handed_fits : (counts_of p tallies).handed < 2 ^ 64

-- ---- what turns leave of a progress

-- before the first turn, with so many starts, and workers that carry references
abbrev pub fresh_progress : ℕ → ℕ → ℕ → Progress
fresh_progress starts carrying running = record { starts = starts; refused = 0; moved = 0; carrying = carrying; running = running; ring = ring_with 0 0 0 }

-- none of the numbers that turns raise is at its end
pub record Roomy (p : Progress) : Type 0 where
  pub refused : p.refused + 1 < 2 ^ 64
  pub moved : p.moved + 1 < 2 ^ 64
  pub carrying : p.carrying + 1 < 2 ^ 64

-- after a turn that follows nothing and leaves as many running
abbrev pub moved_on : Progress → ℕ → ℕ → Progress
moved_on p handed⁺ refused⁺ =
    record {
      starts = p.starts;
      refused = p.refused + refused⁺;
      moved = p.moved + 1;
      carrying = p.carrying + handed⁺;
      running = p.running;
      ring = p.ring;
    }

-- after a worker has ended
abbrev pub ended_one : Progress → Progress
ended_one p =
    record {
      starts = p.starts;
      refused = p.refused;
      moved = p.moved + 1;
      carrying = p.carrying;
      running = p.running - 1;
      ring = p.ring;
    }

-- after following: so many more refused, and so many workers left with nothing
abbrev pub followed_on : Progress → ℕ → ℕ → Progress
followed_on p refused⁺ emptied =
    record {
      starts = p.starts;
      refused = p.refused + refused⁺;
      moved = p.moved + 1;
      carrying = p.carrying - emptied;
      running = p.running;
      ring = p.ring;
    }

-- with another ring
abbrev pub with_ring : Progress → Words → Progress
with_ring p r =
    record {
      starts = p.starts;
      refused = p.refused;
      moved = p.moved;
      carrying = p.carrying;
      running = p.running;
      ring = r;
    }
