-- What a state that is held gives the code: bounds, room, and what the kept numbers say.
use mathlib.Core.Path.{refl, ap}
use Prim.Native.Nat.{ℕ, ◌+◌, ◌*◌, ◌≤◌, ◌<◌}
use native.Mathlib.Nat.{mul-le-mul_right, suc-mul}
use native.Mathlib.Omega.{arith}
use lib.ListN.{length}
use Rattle.laws.proofs.Sum.{sum_share}
use Rattle.graph.specs.Graph.{Graph}
use Rattle.machine.specs.Machine.{State, ended, worker}
use Rattle.machine.specs.declared.Counts.{Counts}
use Rattle.theorems.proofs.Facts.{carrying_limit}
use Rattle.worker.specs.Registers.{Room}
use Rattle.step.specs.declared.Setup.{Setup}
use Rattle.step.specs.Counting.{running?, Roomy}
use Rattle.step.specs.Held.{Memory, Holds, Scene}
use Rattle.step.specs.Ringing.{RingAt}

module _ {G : Graph} {g : Setup} {s : State} (c : Scene G g s) where
  pub workers_limit : g.workers ≤ 16
  workers_limit = c.accepted.workers_limit

  pub stretch_limit : g.stretch ≤ 131076
  stretch_limit = omega (arith, c.stretch_is, c.objects_limit)

  module _ {μ : Memory} (h : Holds G g s μ) where
    -- worker b's stretch and block are there
    pub stretch_room : (b : ℕ) → b < g.workers → b * g.stretch + g.stretch ≤ length μ.work
    stretch_room b low = rw (h.work_long, ← suc-mul) (mul-le-mul_right g.stretch low)

    pub block_room : (b : ℕ) → b < g.workers → Room μ.regs b
    block_room b low = record { low = omega (arith, workers_limit); long = omega (arith, h.regs_long) }

    -- no number that is kept by value is at its end
    pub roomy : Roomy μ.progress
    roomy =
        let n = c.sound in
        record {
          refused = omega (arith, ap (λ (k : Counts). k.refused) h.counts_are, n.refused_moved, c.moved_room);
          moved = omega (arith, ap (λ (k : Counts). k.moved) h.counts_are, c.moved_room);
          carrying = omega (arith, ap (λ (k : Counts). k.carrying) h.counts_are, carrying_limit c.accepted n, workers_limit);
        }

    -- a worker that has not ended counts as running
    pub running_at : (b : ℕ) → running? (worker s b) ≤ μ.progress.running
    running_at b = omega (arith, h.running_is, sum_share running? ended refl s.workers b)

    -- the ring is that of a worker below W
    abbrev pub ring_at : (b : ℕ) → b < g.workers → RingAt μ.progress.ring b
    ring_at b low =
        let n = c.sound in
        record {
          ring = s.ring;
          words_are = h.ring_is;
          low = omega (arith, n.sized.colours_length);
          few = omega (arith, n.sized.colours_length, workers_limit);
        }
