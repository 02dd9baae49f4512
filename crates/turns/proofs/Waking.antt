-- A refused asker wakes.
use mathlib.Core.Path.{◌≡◌, refl}
use mathlib.Core.List.{List}
use Prim.Native.Nat.{ℕ}
use native.Mathlib.Omega.{arith}
use Rattle.graph.specs.Graph.{Graph}
use Rattle.machine.specs.Machine.{State, idle, denied, worker}
use Rattle.theorems.proofs.Facts.{below_workers}
use Rattle.worker.specs.Registers.{put_at}
use Rattle.worker.proofs.Blocks.{put_stored}
use Rattle.step.specs.declared.Setup.{Setup}
use Rattle.step.specs.declared.Progress.{Progress}
use Rattle.step.specs.Counting.{moved_on}
use Rattle.step.specs.Held.{memory, Holds, Scene}
use Rattle.step.specs.Turned.{turned}
use Rattle.step.proofs.Bounds.{block_room}
use Rattle.step.proofs.Counting.{moved_counts}
use Rattle.step.proofs.Each.{all_same, hold_one}
use Rattle.step.proofs.Turned.{turn_as}

pub holds_woken : {G : Graph} {g : Setup} {s : State} {marks work tallies regs : List ℕ} {p : Progress} (c : Scene G g s)
    (h : Holds G g s (memory marks work tallies regs p)) (b v : ℕ) → worker s b ≡ denied
    → Holds G g (turned g b v G s) (memory marks work tallies (put_at regs b 0 0) (moved_on p 0 0))
holds_woken {G} {g} {s} {marks} {work} {tallies} {regs} {p} c h b v e =
    let low = below_workers c.accepted c.sound b (rw e (omega arith)) in
    rw (turn_as g b v G s e)
    (hold_one h c.sound.sized.workers_length b low e idle work (put_stored regs b (block_room c h b low).long 0 0 (omega arith)) refl
    (all_same g.workers g.stretch b work) refl refl refl
    h.marks_are
    h.tallies_are
    (moved_counts h 0)
    h.ring_is
    (λ i k. refl)
    (rw e at (h.rests b low)))
