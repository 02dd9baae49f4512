-- Demand 2 holds of the result and the marks of every accepted call.
use mathlib.Core.Path.{◌≡◌, ap, ◌∙◌}
use mathlib.Core.Bool.{true}
use mathlib.Core.List.{List}
use mathlib.Core.Logic.{◌↔◌}
use Prim.Native.Nat.{ℕ}
use lib.ListN.{length, take}
use Rattle.laws.specs.Sum.{sum, hit}
use Rattle.laws.proofs.Sum.{sum_zero_each}
use Rattle.graph.specs.Graph.{Graph}
use Rattle.graph.specs.Chain.{Reach, here, on}
use Rattle.machine.specs.Machine.{Setting, State, Entry, ended, all_ended, result}
use Rattle.machine.specs.Accepted.{Accepted}
use Rattle.machine.specs.Sound.{Marked, runs_sum, held_sum, Sound}
use Rattle.machine.specs.Demand2.{outcome, FinishedMarks, LiveMarks, Demand2}
use Rattle.theorems.proofs.Ended.{ended_at}
use Rattle.theorems.proofs.Start.{sound, fresh}

module _ {G : Graph} {starts : List ℕ} {W : ℕ} {g : Setting} {s : State} (S : Sound G starts W g s)
    (done : all_ended s.workers ≡ true) where
  -- nothing is held
  pub none_held : (f : ℕ → ℕ) → sum (held_sum f) s.workers ≡ 0
  unfolding runs_sum sum
  none_held f = sum_zero_each (held_sum f) ended s.workers (λ (i : ℕ). ap (held_sum f) (ended_at s.workers done i))

  -- every reachable object is marked: nobody carries the references to it any more, so their targets are marked
  pub all_marked_lem : {v : ℕ} → Reach G starts v → Marked s.marks v
  all_marked_lem (here {v = v} h) = S.starts_marked v h
  all_marked_lem (on {u = u} e r l) = S.targets_marked e u l (all_marked_lem r) (none_held (hit e))

-- demand 2
pub demand2 : {G : Graph} {starts : List ℕ} {W : ℕ} {g : Setting} → Accepted G starts W g → (xs : List Entry)
    → Demand2 G starts W g xs (result (outcome G starts W g xs)) (outcome G starts W g xs).marks
demand2 A xs =
    record {
      marked_exactly = λ done v. ((fresh A xs).only_reached v, λ r. all_marked_lem (sound A xs) done r);
      marked_only = (fresh A xs).only_reached;
      live_marks = (sound A xs).live_is;
      sums = λ k. (sound A (take k xs)).total;
    }

-- of the marks that a finished collection leaves
pub marked_is : {G : Graph} {starts marks : List ℕ} (m : FinishedMarks G starts marks) (v : ℕ) → Marked marks v ↔ Reach G starts v
marked_is m v = rw m.marks_are ((demand2 m.accepted m.turns).marked_exactly m.finished v)

pub finished_live : {G : Graph} {starts marks : List ℕ} → FinishedMarks G starts marks → LiveMarks G starts marks
finished_live m =
    record { long = ap length m.marks_are ∙ (sound m.accepted m.turns).sized.marks_length; exactly = marked_is m }
