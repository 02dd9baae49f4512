-- The registers: a block of nine words for each worker, laid end to end.
use Rattle.std.specs.Prelude.{ℕ, ◌+◌, ◌*◌, ◌≤◌, ◌<◌, ◌≡◌, ◌≢◌, List, [], ◌∷◌, length, get_or, set}
use Rattle.std.proofs.lemmas.List.Edits.{sets}
use Rattle.desk.specs.Limits.{most_workers}
use Rattle.worker.specs.declared.registers.Block.{Block}

-- how many words a block has
abbrev pub block_words : ℕ
block_words = 9

-- the registers of the most workers
abbrev pub register_words : ℕ
register_words = block_words * most_workers

-- ---- a worker's status; from given on it carries references, from poll on it is busy

abbrev pub status_idle : ℕ
status_idle = 0

abbrev pub status_asking : ℕ
status_asking = 1

abbrev pub status_denied : ℕ
status_denied = 2

abbrev pub status_ended : ℕ
status_ended = 3

abbrev pub status_given : ℕ
status_given = 4

abbrev pub status_poll : ℕ
status_poll = 5

abbrev pub status_look : ℕ
status_look = 6

abbrev pub status_claim : ℕ
status_claim = 7

-- ---- blocks

-- there is a block for worker b
pub record Room (regs : List ℕ) (b : ℕ) : Type 0 where
  pub low : b < most_workers
  pub long : block_words * b + block_words ≤ length regs

-- worker b's block
abbrev pub block_at : List ℕ → ℕ → Block
block_at regs b =
    record {
      status = get_or regs (block_words * b) 0;
      batch = get_or regs (block_words * b + 1) 0;
      cell = get_or regs (block_words * b + 2) 0;
      since = get_or regs (block_words * b + 3) 0;
      carried = get_or regs (block_words * b + 4) 0;
      used = get_or regs (block_words * b + 5) 0;
      first = get_or regs (block_words * b + 6) 0;
      end = get_or regs (block_words * b + 7) 0;
      target = get_or regs (block_words * b + 8) 0;
    }

-- the words of a block
abbrev pub words : Block → List ℕ
words r =
    r.status
    ∷ r.batch
    ∷ r.cell
    ∷ r.since
    ∷ r.carried
    ∷ r.used
    ∷ r.first
    ∷ r.end
    ∷ r.target
    ∷ []

-- worker b's block written anew
abbrev pub store_at : List ℕ → ℕ → Block → List ℕ
store_at regs b r = sets regs (block_words * b) (words r)

-- one word of it
abbrev pub put_at : List ℕ → ℕ → ℕ → ℕ → List ℕ
put_at regs b i x = set regs (block_words * b + i) x

-- ---- some words of it, one after the other

-- a word and what it becomes
pub record Word : Type 0 where
  pub place : ℕ
  pub value : ℕ

abbrev pub word : ℕ → ℕ → Word
word i x = record { place = i; value = x }

abbrev pub puts_at : List ℕ → ℕ → List Word → List ℕ
puts_at regs b [] = regs
puts_at regs b (w ∷ ws) = puts_at (put_at regs b w.place w.value) b ws

-- the next reference of a run
abbrev pub step_words : ℕ → ℕ → ℕ → ℕ → List Word
step_words status batch first target = word 0 status ∷ word 1 batch ∷ word 6 first ∷ word 8 target ∷ []

-- a batch begins
abbrev pub begin_words : ℕ → ℕ → ℕ → List Word
begin_words batch since carried = word 0 status_look ∷ word 1 batch ∷ word 3 since ∷ word 4 carried ∷ []

-- registers in which only worker b's block has changed, to r
pub record Stored (regs : List ℕ) (b : ℕ) (r : Block) (regs' : List ℕ) : Type 0 where
  pub long : length regs' ≡ length regs
  pub here : block_at regs' b ≡ r
  pub others : (a : ℕ) → a ≢ b → block_at regs' a ≡ block_at regs a
