-- From a state that the memories hold to its saved words.
use mathlib.Core.Path.{◌≡◌, refl, ap, ◌∙◌}
use mathlib.Core.List.{List}
use Prim.Native.Nat.{ℕ, suc, ◌-◌, ◌≤◌}
use native.Mathlib.Omega.{arith}
use lib.ListN.{length, get_or}
use Rattle.graph.specs.Graph.{Graph, objects}
use Rattle.graph.specs.Limits.{most_objects}
use Rattle.desk.specs.Lengths.{saved_length}
use Rattle.machine.specs.Machine.{State, Worker, idle, asking, denied, ended, given, busy, poll, look, claim}
use Rattle.machine.specs.Accepted.{Accepted}
use Rattle.machine.specs.Sound.{Sound}
use Rattle.worker.specs.declared.registers.Block.{Block}
use Rattle.worker.specs.Registers.{block_at, status_poll}
use Rattle.step.specs.declared.Setup.{Setup}
use Rattle.step.specs.Counting.{counts_of}
use Rattle.step.specs.Held.{Memory, setting_of, BlockIs, RestIs}
use Rattle.marker.specs.Stages.{Leaves}
use Rattle.saved.specs.Layout.{worker_words, saved_words}
use Rattle.saved_theorems.proofs.Kept.{shaped}
use Rattle.checkpoint.specs.Saving.{Savable, Saves}
use Rattle.checkpoint.specs.Workers.{words_of, listed, Recorded}

-- ---- one worker

-- what a block says of a worker's saved words
block_words_are : (G : Graph) (v : Worker) (n : ℕ) (r : Block) (s : List ℕ) → BlockIs G v r s → RestIs v n r
    → listed (words_of r) ≡ worker_words v n
block_words_are G idle n r s h e = rw (h, e) refl
block_words_are G asking n r s h e = rw (h, e) refl
block_words_are G denied n r s h e = rw (h, e) refl
block_words_are G ended n r s h e = rw (h, e) refl
block_words_are G (given rs) n r s h e = rw (h.0, e) refl
block_words_are G (busy c k poll rs) n r s h e = rw (h.status, h.cell, h.batch, left) refl
  where
    left : r.since - 0 ≡ k
    left = omega (arith, h.since)
block_words_are G (busy c k (look i) rs) n r s h e = rw (h.status, h.cell, h.batch, left) refl
  where
    left : r.since - suc i ≡ k
    left = omega (arith, h.since)
block_words_are G (busy c k (claim i) rs) n r s h e = rw (h.status, h.cell, h.batch, left) refl
  where
    left : r.since - suc i ≡ k
    left = omega (arith, h.since)

-- a busy worker's since is ahead by its batch
block_order : (G : Graph) (v : Worker) (r : Block) (s : List ℕ) → BlockIs G v r s → status_poll ≤ r.status → r.batch ≤ r.since
block_order G idle r s h l = absurd (omega (arith, h))
block_order G asking r s h l = absurd (omega (arith, h))
block_order G denied r s h l = absurd (omega (arith, h))
block_order G ended r s h l = absurd (omega (arith, h))
block_order G (given rs) r s h l = absurd (omega (arith, h.0))
block_order G (busy c k p rs) r s h l = omega (arith, h.since, h.batch)

-- ---- a state that is left

module _ {G : Graph} {starts : List ℕ} {g : Setup} {s : State} {μ : Memory} (A : Accepted G starts g.workers (setting_of g))
    (S : Sound G starts g.workers (setting_of g) s) (l : Leaves G g s μ) where
  recorded : Recorded μ.regs g.workers
  recorded =
      record {
        workers = s.workers;
        rested = s.rested;
        count = S.sized.workers_length;
        few = A.workers_limit;
        regs_long = l.held.regs_long;
        order = λ b h. block_order G (get_or s.workers b ended) (block_at μ.regs b) _ (l.held.each b h);
        each = λ b h. block_words_are G (get_or s.workers b ended) (get_or s.rested b 0) (block_at μ.regs b) _ (l.held.each b h) (l.held.rests b h);
      }

  module _ {w : List ℕ} (small : objects G ≤ most_objects) (long : length w ≡ saved_length (objects G) g.workers) where
    pub save_ready : Savable g.workers μ w
    unfolding recorded
    save_ready =
        record {
          objects = objects G;
          state = s;
          few = A.workers_limit;
          objects_limit = small;
          shaped = shaped A S;
          long = long;
          marks_are = l.held.marks_are;
          work_is = l.work_is;
          tallies_are = l.held.tallies_are;
          countable = l.countable;
          counts_are = ap (counts_of μ.progress) l.counted ∙ l.held.counts_are;
          ring_is = l.held.ring_is;
          holder_low = S.holder_below;
          recorded = recorded;
          workers_are = refl;
          rested_are = refl;
        }

    -- its words are what is saved
    pub state_saved : {w' : List ℕ} → Saves g.workers μ w w' → w' ≡ saved_words (objects G) s
    unfolding save_ready
    state_saved v = v save_ready
