-- The words of the token ring, and what the functions on them say.
use Rattle.std.specs.Prelude.{◌≡◌, List, ℕ, suc, ◌+◌, ◌/◌, ◌%◌, ◌^◌, ◌≤◌, ◌<◌, get_or}
use Rattle.laws.specs.Span.{span}
use Rattle.desk.specs.Lengths.{ring_place}
use Rattle.worker.specs.Registers.{status_given, status_ended}
use Rattle.saved.specs.Layout.{worker_word}
use Rattle.protocol.specs.Heads.{CellsSound, ended_words}

-- holder, token and black workers
abbrev pub ring_word : List ℕ → ℕ → ℕ
ring_word w k = get_or w (ring_place + k) 0

-- how many of the lowest k bits are set
abbrev pub black_bits : ℕ → ℕ → ℕ
black_bits black k = span (λ (i : ℕ). black / 2 ^ i % 2) 0 k

-- every worker above the holder has a status of those that carry nothing
abbrev pub ClearAbove : ℕ → List ℕ → ℕ → Type 0
ClearAbove W w holder = (b : ℕ) → b < W → holder < b → worker_word w b 0 < status_given

-- where some have ended, worker 0 has, and holds the token
abbrev pub FirstEnded : ℕ → ℕ → ℕ → Type 0
FirstEnded status holder ended = 0 < ended → (status ≡ status_ended) × (holder ≡ 0)

pub record RingSound (W : ℕ) (w : List ℕ) : Type 0 where
  pub holder_below : ring_word w 0 < W
  pub token_known : ring_word w 1 ≤ 1
  pub black_known : ring_word w 2 < 2 ^ W
  pub first_ended : FirstEnded (worker_word w 0 0) (ring_word w 0) (ended_words w W)
  pub above : ring_word w 1 + black_bits (ring_word w 2) (suc (ring_word w 0)) ≡ 0 → ClearAbove W w (ring_word w 0)

-- the cells and the ring
pub record LinksSound (W : ℕ) (w : List ℕ) : Type 0 where
  pub cells : CellsSound W w
  pub ring : RingSound W w
