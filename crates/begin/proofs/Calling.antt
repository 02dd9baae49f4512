-- From what the checks find to the promise of the call that begins; answers of a call that saves.
use mathlib.Core.Path.{◌≡◌, refl, sym, ap}
use mathlib.Core.List.{List}
use Prim.Native.Nat.{ℕ, zero, suc}
use native.Mathlib.Omega.{arith}
use lib.ListN.{length}
use borrow.Author.Tests.{eqb-true, not-false}
use Rattle.refusal.specs.declared.Refusal.{Refusal}
use Rattle.std.specs.Prelude.{Ok, Err}
use Rattle.refusal.specs.Number.{number}
use Rattle.refusal.proofs.Numbers.{numbered}
use Rattle.graph.specs.Graph.{objects}
use Rattle.desk.specs.Lengths.{saved_length}
use Rattle.machine.specs.Row.{refused_row}
use Rattle.machine.specs.Machine.{State, entries}
use Rattle.machine.specs.Call.{Call, graph_of, final}
use Rattle.machine.specs.Checked.{Checked}
use Rattle.theorems.proofs.Start.{sound, sound_start}
use Rattle.step.specs.declared.Setup.{Setup}
use Rattle.step.specs.declared.Progress.{Progress}
use Rattle.step.specs.Counting.{Countable}
use Rattle.step.specs.Held.{Memory, memory}
use Rattle.marker.specs.declared.Marked.{Marked}
use Rattle.marker.specs.Answer.{row, Finds}
use Rattle.marker.specs.Stages.{Leaves, Runs, setup_of, row_of}
use Rattle.marker.proofs.Stages.{passed, row_left}
use Rattle.saved.specs.Layout.{saved_words}
use Rattle.saved.specs.Calls.{saving_lengths}
use Rattle.saved_theorems.proofs.Joined.{afresh, joined}
use Rattle.begin.specs.Answer.{Answers, Begun}
use Rattle.checkpoint.specs.Saving.{Savable, Saves}
use Rattle.begin.proofs.Finishing.{save_ready, state_saved}

-- ---- what the checks establish

-- as many saved words as there must be
pub long : {c : Call} {marks work tallies saved : ℕ} → Checked c (saving_lengths marks work tallies saved)
    → saved ≡ saved_length (objects (graph_of c)) c.workers
long x = eqb-true _ _ (not-false _ x.saved_exact)

-- ---- answers

module _ {c : Call} {s : State} {marks work tallies w : List ℕ} where
  -- a state that is reached
  pub answers_fine : {k : ℕ} {g : Setup} {marks' work' tallies' regs' : List ℕ} {p : Progress} {w' : List ℕ} → k ≡ 0
      → Leaves (graph_of c) g s (memory marks' work' tallies' regs' p) → w' ≡ saved_words (objects (graph_of c)) s
      → {r : Marked} → ((x : Countable tallies' g.workers p) → row (Ok r) ≡ row_of p x.tallies)
      → Answers c k s marks work tallies w (Ok r) marks' work' tallies' w'
  answers_fine e l d {r} f =
      rw e
      (record { row_is = row_left l r f; marks_are = l.held.marks_are; work_is = l.work_is; tallies_are = l.held.tallies_are; saved_is = d })

  -- a refusal
  pub answers_refused : (cause : Refusal) (k : ℕ) → number cause ≡ k → Answers c k s marks work tallies w (Err cause) marks work tallies w
  answers_refused cause zero e = absurd (omega (arith, numbered cause))
  answers_refused cause (suc k) e = record { row_is = ap refused_row e; marks_are = refl; work_is = refl; tallies_are = refl; saved_is = refl }

-- ---- the call that begins

-- a run that has ended can be saved
module _ {c : Call} {marks work tallies : ℕ} {w : List ℕ} (x : Checked c (saving_lengths marks work tallies (length w))) {μ : Memory} (l : Runs c μ) where
  pub begin_savable : Savable c.workers μ w
  begin_savable = save_ready x.accepted (sound x.accepted (entries c.schedule)) l x.objects_limit (long x)

  begin_saved : {w' : List ℕ} → Saves c.workers μ w w' → w' ≡ saved_words (objects (graph_of c)) (final c)
  begin_saved v = state_saved x.accepted (sound x.accepted (entries c.schedule)) l x.objects_limit (long x) v

module _ {A : Type 0} {c : Call} {marks work tallies w : List ℕ} where
  pub begun_refused : {cause : Refusal} → Finds {A = A} (Err cause) c (saving_lengths (length marks) (length work) (length tallies) (length w))
      → Begun c marks work tallies w (Err cause) marks work tallies w
  begun_refused {cause} found =
      let k = found.number_is in
      record {
        answers = answers_refused cause _ k;
        afresh = λ z. absurd (omega (arith, numbered cause, k, z));
        joined = λ z. absurd (omega (arith, numbered cause, k, z));
      }

  pub begun_fine : {a : A} → Finds (Ok a) c (saving_lengths (length marks) (length work) (length tallies) (length w))
      → {marks' work' tallies' regs' : List ℕ} {p : Progress} → Runs c (memory marks' work' tallies' regs' p)
      → {g : Setup} → g ≡ setup_of c → {w' : List ℕ} → Saves g.workers (memory marks' work' tallies' regs' p) w w'
      → {r : Marked} → ((x : Countable tallies' g.workers p) → row (Ok r) ≡ row_of p x.tallies)
      → Begun c marks work tallies w (Ok r) marks' work' tallies' w'
  begun_fine found l is v {r} f =
      let x = passed found in
      let saved = begin_saved x l (rw is at v) in
      let left = rw is at f in
      record {
        answers = answers_fine (sym found.number_is) l saved left;
        afresh = λ z.
            rw (row_left l r left, l.held.marks_are, l.work_is, l.held.tallies_are, saved) (afresh c (entries c.schedule) x.accepted);
        joined = λ z. joined c x.accepted (sound_start x.accepted) x.schedule_fitting;
      }
