-- The workers' own words, and what the functions on them say.
use Rattle.std.specs.Prelude.{◌≡◌, Option, MatchOption, List, ℕ, suc, ◌≤◌, ◌<◌, length}
use Rattle.laws.specs.Span.{span}
use Rattle.laws.specs.Sum.{hit}
use Rattle.desk.specs.Limits.{most_workers}
use Rattle.desk.specs.Lengths.{tallies_place}
use Rattle.worker.specs.Registers.{status_asking, status_ended, status_given, status_poll, status_claim}
use Rattle.saved.specs.Layout.{worker_word}
use Rattle.protocol.specs.declared.heads.Heads.{Heads}

-- status, cell, since and batch of a worker, of which the words hold no more than the worker has: one that is not busy has no
-- cell and no batch, and one that is owed a hand-over no since
pub record Head (W D status cell since batch : ℕ) : Type 0 where
  pub known : status ≤ status_claim
  pub cell_known : cell ≤ W
  pub batch_limit : batch ≤ D
  pub batch_some : status_poll < status → 0 < batch
  pub batch_none : status ≤ status_poll → batch ≡ 0
  pub cell_none : status < status_poll → cell ≡ 0
  pub since_none : status ≡ status_given → since ≡ 0

-- those of W workers
abbrev pub HeadsSound : ℕ → ℕ → List ℕ → Type 0
HeadsSound W D w = (b : ℕ) → b < W → Head W D (worker_word w b 0) (worker_word w b 1) (worker_word w b 2) (worker_word w b 3)

-- the words of W workers are there
pub record WorkersThere (W : ℕ) (w : List ℕ) : Type 0 where
  pub low : W ≤ most_workers
  pub long : tallies_place W ≤ length w

-- how many of the first k workers have ended, and the sum of their sinces
abbrev pub ended_words : List ℕ → ℕ → ℕ
ended_words w k = span (λ (b : ℕ). hit status_ended (worker_word w b 0)) 0 k

abbrev pub since_words : List ℕ → ℕ → ℕ
since_words w k = span (λ (b : ℕ). worker_word w b 2) 0 k

-- what sound words of W workers come to
pub record HeadsCounted (W D : ℕ) (w : List ℕ) (r : Heads) : Type 0 where
  pub right : HeadsSound W D w
  pub ended : r.ended ≡ ended_words w W
  pub since : r.since ≡ since_words w W

-- what `check_heads` says: nothing exactly where they are not sound
abbrev pub HeadsFound : ℕ → ℕ → List ℕ → Option Heads → Type 0
HeadsFound W D w r = MatchOption r (¬ HeadsSound W D w) (HeadsCounted W D w)

-- in how many of the first k cells asker a is
abbrev pub holders : List ℕ → ℕ → ℕ → ℕ
holders w a k = span (λ (b : ℕ). hit (suc a) (worker_word w b 1)) 0 k

-- each worker that is asking without a reply is in one cell, and no other is in any
abbrev pub CellsSound : ℕ → List ℕ → Type 0
CellsSound W w = (a : ℕ) → a < W → holders w a W ≡ hit status_asking (worker_word w a 0)
