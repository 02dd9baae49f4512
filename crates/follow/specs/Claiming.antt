-- What a claim finds and leaves, in words, and the blocks that following and taking up write.
use Rattle.std.specs.Prelude.{ℕ, zero, suc, ◌+◌, ◌-◌, ◌≤◌, ◌<◌, ◌^◌, ◌≡◌, Bool, true, false, Result, Ok, Err, List, length, get_or, set, ltb, eqb}
use Rattle.laws.specs.Choice.{pick}
use Rattle.machine.specs.Tally.{Tally, tally}
use Rattle.machine.specs.Machine.{claim_mark}
use Rattle.machine.specs.Owners.{ClaimRow, claim_tells}
use Rattle.worker.specs.Registers.{status_idle, status_denied, status_poll, status_look, Room, block_at, put_at, Stored}
use Rattle.worker.specs.Stretch.{Nextable, goes_on, next_top, next_words}
use Rattle.worker.specs.declared.registers.Block.{Block}
use Rattle.worker.specs.declared.stretch.Top.{Top}
use Rattle.step.specs.Held.{top_of}
use Rattle.follow.specs.declared.Opened.{Opened}

abbrev pub opened_with : ℕ → ℕ → Opened
opened_with first end = record { first = first; end = end }

-- nothing opens
abbrev pub opened_none : Opened
opened_none = opened_with 0 0

-- each answer of a claim as a row
abbrev pub claim_row : Result ℕ ℕ → ClaimRow
claim_row (Ok owner) = record { won = true; owner = owner }
claim_row (Err owner) = record { won = false; owner = owner }

-- what opens, by whether the claim is won
abbrev pub opened_by : Bool → List ℕ → ℕ → Opened
opened_by true offsets t = opened_with (get_or offsets t 0) (get_or offsets (t + 1) 0)
opened_by false offsets t = opened_none

abbrev pub opened_at : List ℕ → List ℕ → ℕ → ℕ → Opened
opened_at offsets marks b t = opened_by (claim_tells (get_or marks t 0) b).won offsets t

-- what the tally of its worker counts, by whether the claim is won: the reference followed, and the claim won or lost
abbrev pub claim_tally : Bool → Tally
claim_tally true = tally 1 1 0 0
claim_tally false = tally 1 0 1 0

abbrev pub tally_at_claim : List ℕ → ℕ → ℕ → Tally
tally_at_claim marks b t = claim_tally (claim_tells (get_or marks t 0) b).won

-- the marks afterwards
abbrev pub marks_by : ℕ → List ℕ → ℕ → ℕ → List ℕ
marks_by zero marks b t = set marks t (claim_mark b)
marks_by (suc x) marks b t = marks

abbrev pub claimed_marks : List ℕ → ℕ → ℕ → List ℕ
claimed_marks marks b t = marks_by (get_or marks t 0) marks b t

-- what worker b's claim of t tells and leaves; the owner is the mark that stands there afterwards
pub record Claims (marks : List ℕ) (b t : ℕ) (r : Result ℕ ℕ) (marks' : List ℕ) : Type 0 where
  pub row_is : claim_row r ≡ claim_tells (get_or marks t 0) b
  pub marks_are : marks' ≡ claimed_marks marks b t
  pub owner_stands : (claim_row r).owner ≡ get_or marks' t 0

-- a busy worker's status by its batch
abbrev pub next_word : ℕ → ℕ
next_word zero = status_poll
next_word (suc k) = status_look

-- the block of a worker that goes on: what is carried beyond the batch grows by what opens
abbrev pub advanced_block : Block → ℕ → ℕ → Top → ℕ → Block
advanced_block r f g t target =
    record {
      status = next_word (r.batch - 1);
      cell = r.cell;
      since = r.since;
      batch = r.batch - 1;
      carried = pick (ltb f g) (r.carried + (g - f)) r.carried;
      used = t.used;
      first = t.first;
      end = t.end;
      target = target;
    }

-- a busy worker's block and stretch let it follow a reference, and the next one has a target
pub record Advanceable (targets s regs : List ℕ) (b : ℕ) (r : Block) (f g : ℕ) : Type 0 where
  pub is : r ≡ block_at regs b
  pub room : Room regs b
  pub next : Nextable s (top_of r)
  pub batch_some : 1 ≤ r.batch
  pub carried_small : r.carried + (g - f) < 2 ^ 32
  pub goes_on : r.first + 1 < r.end → r.first + 1 < length targets
  pub opens : f < g → f < length targets
  pub comes_up : 2 ≤ r.used → get_or s (r.used - 2) 0 < length targets

-- what following leaves of them
pub record Advanced (targets s regs : List ℕ) (b : ℕ) (r : Block) (f g : ℕ) (s' regs' : List ℕ) (t : Bool) : Type 0 where
  pub says : t ≡ goes_on (top_of r) f g
  pub words : s' ≡ next_words s (top_of r) f g
  pub onward : t ≡ true
      → Stored regs b (advanced_block r f g (next_top s (top_of r) f g) (get_or targets (next_top s (top_of r) f g).first 0)) regs'
  pub nothing : t ≡ false → regs' ≡ regs

-- a worker that is left with nothing, by its cell: the askers that are refused, and the registers
abbrev pub stopped_count : ℕ → ℕ
stopped_count cell = pick (eqb cell 0) 0 1

abbrev pub stopped_at : List ℕ → ℕ → ℕ → List ℕ
stopped_at regs b cell =
    pick (eqb cell 0) (put_at regs b 0 status_idle) (put_at (put_at regs b 0 status_idle) (cell - 1) 0 status_denied)

-- the block of a worker that takes up a hand-over
abbrev pub taken_block : Block → ℕ → Block
taken_block r target =
    record {
      status = status_poll;
      cell = 0;
      since = 0;
      batch = 0;
      carried = r.carried;
      used = r.used;
      first = r.first;
      end = r.end;
      target = target;
    }
