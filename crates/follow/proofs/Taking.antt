-- A hand-over is taken up.
use mathlib.Core.Path.{◌≡◌, refl, ap, ◌∙◌}
use mathlib.Core.List.{List, [], ◌∷◌}
use Prim.Native.Nat.{ℕ, ◌<◌}
use native.Mathlib.Omega.{arith}
use lib.ListN.{length}
use Rattle.laws.specs.Every.{Every}
use Rattle.graph.specs.Graph.{Graph, references, target}
use Rattle.machine.specs.Run.{Run, run}
use Rattle.machine.specs.Machine.{State, given, busy, empty, poll, worker}
use Rattle.machine.specs.Sound.{InTargets}
use Rattle.theorems.proofs.Facts.{given_below, given_sound, given_runs_limit}
use Rattle.worker.specs.declared.stretch.Top.{Top}
use Rattle.worker.specs.Stretch.{TopIs}
use Rattle.worker.specs.Registers.{block_at, store_at}
use Rattle.worker.proofs.Blocks.{store_stored}
use Rattle.step.specs.declared.Setup.{Setup}
use Rattle.step.specs.declared.Progress.{Progress}
use Rattle.step.specs.Counting.{moved_on}
use Rattle.step.specs.Held.{memory, stretch_at, next_target, top_of, Carrying, Holds, Scene}
use Rattle.step.specs.Turned.{turned}
use Rattle.step.proofs.Bounds.{block_room}
use Rattle.step.proofs.Counting.{moved_counts}
use Rattle.step.proofs.Each.{all_same, hold_one}
use Rattle.step.proofs.Turned.{turn_as}
use Rattle.follow.specs.Claiming.{taken_block}

-- the first reference of runs, as their top tells it: it is there, and where it leads
pub first_told : (G : Graph) (rs : List Run) (t : Top) → 0 < length rs → Every (InTargets G) rs → TopIs rs t
    → (t.first < references G) × (target G t.first ≡ next_target G rs)
first_told G [] t some l e = absurd (omega arith)
first_told G (run f j ∷ rs) t some l e =
    let q : t.first ≡ f = ap (λ (x : Top). x.first) e in
    (omega (arith, q, l.0), ap (λ (i : ℕ). target G i) q)

module _ {G : Graph} {g : Setup} {s : State} {marks work tallies regs : List ℕ} {p : Progress} (c : Scene G g s)
    (h : Holds G g s (memory marks work tallies regs p)) (b : ℕ) {rs : List Run} (e : worker s b ≡ given rs) where
  pub given_low : b < g.workers
  given_low = given_below c.accepted c.sound b e

  given_is : ((block_at regs b).status ≡ 4) × Carrying 0 rs (block_at regs b) (stretch_at g.stretch b work)
  given_is = rw e at (h.each b given_low)

  -- the first reference is there, and where it leads
  pub first_given : ((block_at regs b).first < references G) × (target G (block_at regs b).first ≡ next_target G rs)
  first_given =
      first_told G rs (top_of (block_at regs b)) (given_sound c.accepted c.sound b e).supplied
      (given_runs_limit c.accepted c.sound b e) given_is.1.told.top

  pub holds_taken : (v t : ℕ) → t ≡ target G (block_at regs b).first
      → Holds G g (turned g b v G s) (memory marks work tallies (store_at regs b (taken_block (block_at regs b) t)) (moved_on p 0 0))
  holds_taken v t q =
      rw (turn_as g b v G s e)
      (hold_one h c.sound.sized.workers_length b given_low e (busy empty 0 poll rs) work
      (store_stored regs b (block_room c h b given_low).long (taken_block (block_at regs b) t)) refl (all_same g.workers g.stretch b work)
      (record {
        status = refl;
        cell = refl;
        since = refl;
        batch = refl;
        carrying = record { number = given_is.1.number; told = given_is.1.told };
        target = q ∙ first_given.1;
      })
      refl
      refl
      h.marks_are
      h.tallies_are
      (moved_counts h 0)
      h.ring_is
      (λ i k. refl)
      tt)
