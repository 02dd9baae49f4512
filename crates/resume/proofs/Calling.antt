-- From what the checks and the test of the saved words find to the promise of the call.
use mathlib.Core.Path.{◌≡◌, refl, ap, sym, ◌∙◌, subst}
use mathlib.Core.Bool.{Bool, true, false}
use mathlib.Core.List.{List, ◌++◌}
use mathlib.Core.Logic.{⊎_elim}
use Prim.Native.Nat.{ℕ, ◌*◌}
use native.Mathlib.Omega.{arith}
use lib.ListN.{length, take, replicate}
use borrow.Author.Tests.{not-false}
use Rattle.laws.specs.Decides.{Decides}
use Rattle.laws.proofs.Test.{tested}
use Rattle.refusal.specs.declared.Refusal.{Refusal}
use Rattle.std.specs.Prelude.{Result, Ok, Err}
use Rattle.refusal.proofs.None.{raise_none}
use Rattle.refusal.proofs.Numbers.{numbered, first_found}
use Rattle.graph.specs.Graph.{objects, references}
use Rattle.machine.specs.declared.Counts.{Counts}
use Rattle.machine.specs.Row.{Row}
use Rattle.machine.specs.Machine.{State, Entry, entries}
use Rattle.machine.specs.Accepted.{Accepted}
use Rattle.machine.specs.Demand2.{outcome}
use Rattle.desk.specs.Checks.{schedule_fits}
use Rattle.machine.specs.Call.{Call, graph_of, setting_of}
use Rattle.machine.specs.Checked.{Checked}
use Rattle.theorems.proofs.Start.{sound_turns}
use Rattle.worker.specs.Registers.{block_words, register_words}
use Rattle.step.specs.declared.Setup.{Setup}
use Rattle.step.specs.Held.{Memory}
use Rattle.marker.specs.declared.Marked.{Marked}
use Rattle.marker.specs.Answer.{Finds, row}
use Rattle.marker.specs.Stages.{scheduled, setup_of, Leaves}
use Rattle.marker.proofs.Stages.{registers_long, passed}
use Rattle.saved.specs.Layout.{saved_words, state_of}
use Rattle.saved.specs.Sound.{SavedSound, SavedRun}
use Rattle.saved.specs.Test.{saved?}
use Rattle.saved.specs.Calls.{saving_lengths, saved_fault, resume_fault, resumed}
use Rattle.saved_theorems.proofs.Kept.{from_saved, to_saved, fresh_run, saved_waits, shaped, told_back}
use Rattle.saved_theorems.proofs.RoundTrip.{saved_length_lem}
use Rattle.saved_theorems.proofs.Joined.{afresh, joined, resumed_afresh, sound_finished}
use Rattle.validate.specs.Checked as validated
use Rattle.begin.specs.Answer.{Answers}
use Rattle.begin.proofs.Calling.{long, answers_refused}
use Rattle.resume.specs.Answer.{Continued, Low}
use Rattle.checkpoint.specs.Restoring.{Resumable}
use Rattle.checkpoint.specs.Saving.{Savable, Saves}
use Rattle.begin.proofs.Finishing.{save_ready, state_saved}

-- two answers that decide the same fact are the same
decided_as : (a b : Bool) {P : Type 0} → Decides a P → (P → b ≡ true) → (b ≡ true → P) → a ≡ b
decided_as true b d f g = sym (f (d.right refl))
decided_as false true d f g = d.known (g refl)
decided_as false false d f g = refl

pub testable : {c : Call} {marks work tallies : ℕ} (w : List ℕ) → Checked c (saving_lengths marks work tallies (length w))
    → validated.Checked (graph_of c) c.starts c.workers (setting_of c) w
testable w x =
    record {
      accepted = x.accepted;
      objects_limit = x.objects_limit;
      references_limit = x.references_limit;
      starts_limit = x.starts_few;
      long = long x;
    }

module _ {c : Call} {marks work tallies : ℕ} {w : List ℕ} (x : Checked c (saving_lengths marks work tallies (length w))) where
  -- the test of the saved words
  pub test_right : SavedRun (graph_of c) c.starts c.workers (setting_of c) w (state_of (objects (graph_of c)) c.workers w) → saved_fault c w ≡ 0
  test_right X = rw (to_saved x.accepted X) refl

  pub test_wrong : {r : Bool}
      → Decides r (SavedRun (graph_of c) c.starts c.workers (setting_of c) w (state_of (objects (graph_of c)) c.workers w))
      → r ≡ false → 14 ≡ saved_fault c w
  test_wrong d e =
      ⊎_elim
      (λ (t : saved? (graph_of c) c.starts c.workers (setting_of c) w ≡ true).
      let z : true ≡ false = sym (d.known (from_saved x.accepted w (long x) t)) ∙ e in
      let y : ◌≡◌ {A = ℕ} 0 1 = cc in absurd (omega arith))
      (λ (t : saved? (graph_of c) c.starts c.workers (setting_of c) w ≡ false). rw t refl)
      (tested (saved? (graph_of c) c.starts c.workers (setting_of c) w))

  module _ (X : SavedRun (graph_of c) c.starts c.workers (setting_of c) w (state_of (objects (graph_of c)) c.workers w))
      {g : Setup} (is : g ≡ setup_of c) where
    pub resume_fits : schedule_fits g.workers c.schedule ≡ true
    resume_fits = rw is x.schedule_fitting

    -- the state after the turns is the call's
    pub resume_leaves : {μ : Memory} → Leaves (graph_of c) g (scheduled g c.schedule (graph_of c) (state_of (objects (graph_of c)) c.workers w)) μ
        → Leaves (graph_of c) (setup_of c) (resumed c w) μ
    resume_leaves l = rw is at l

  -- and that state can be saved
  module _ (X : SavedRun (graph_of c) c.starts c.workers (setting_of c) w (state_of (objects (graph_of c)) c.workers w)) {μ : Memory}
      (l : Leaves (graph_of c) (setup_of c) (resumed c w) μ) where
    pub resume_savable : Savable c.workers μ w
    resume_savable = save_ready x.accepted (sound_turns x.accepted X.saved.sound (entries c.schedule)) l x.objects_limit (long x)

    pub resume_saved : {w' : List ℕ} → Saves c.workers μ w w' → w' ≡ saved_words (objects (graph_of c)) (resumed c w)
    resume_saved v = state_saved x.accepted (sound_turns x.accepted X.saved.sound (entries c.schedule)) l x.objects_limit (long x) v

-- words that pass it can be taken up, with the call's setup
module _ {c : Call} {marks work tallies w : List ℕ} (x : Checked c (saving_lengths (length marks) (length work) (length tallies) (length w)))
    (X : SavedRun (graph_of c) c.starts c.workers (setting_of c) w (state_of (objects (graph_of c)) c.workers w)) {g : Setup} (is : g ≡ setup_of c) where
  unfoldable pub resumable : Resumable c.targets g w marks work tallies (take (block_words * g.workers) (replicate register_words 0))
  resumable =
      record {
        graph = graph_of c;
        starts = c.starts;
        state = state_of (objects (graph_of c)) c.workers w;
        accepted = rw is x.accepted;
        run = rw is X;
        targets_are = refl;
        objects_limit = x.objects_limit;
        references_limit = x.references_limit;
        stretch_is = ap (λ (h : Setup). h.stretch) is;
        marks_long = x.marks_exact;
        work_long = rw is x.work_exact;
        tallies_long = rw is x.tallies_exact;
        regs_long = sym (registers_long is x);
      }

module _ {A : Type 0} {c : Call} {marks work tallies w : List ℕ} where
  pub continued_refused : {cause : Refusal} → Finds {A = A} (Err cause) c (saving_lengths (length marks) (length work) (length tallies) (length w))
      → Continued c marks work tallies w (Err cause) false marks work tallies w
  unfolding resume_fault
  continued_refused {cause} found =
      let k = found.number_is in
      let i = first_found cause _ (saved_fault c w) k in
      record {
        answers = answers_refused cause _ i;
        exactly = λ z. absurd (omega (arith, numbered cause, k, z));
        tells = λ z. absurd (omega (arith, numbered cause, i, z));
        all_marked = λ z. absurd (omega (arith, numbered cause, i, z));
        waits = λ z. absurd (omega (arith, numbered cause, i, z));
        joined = λ z. absurd (omega (arith, numbered cause, i, z));
        afresh = λ xs q z. absurd (omega (arith, numbered cause, k, z));
      }

  module _ {a : A} (found : Finds (Ok a) c (saving_lengths (length marks) (length work) (length tallies) (length w)))
      {r : Result Marked Refusal} {marks' work' tallies' w' : List ℕ}
      (d : Answers c (saved_fault c w) (resumed c w) marks work tallies w r marks' work' tallies' w') {sound : Bool}
      (low : saved_fault c w ≡ 0 → Decides sound (Low (references (graph_of c)) c.workers c.cutoff (row r).counts)) where
    abbrev N : Accepted (graph_of c) c.starts c.workers (setting_of c)
    N = (passed found).accepted

    same_fault : resume_fault c (length marks) (length work) (length tallies) w ≡ saved_fault c w
    unfolding resume_fault
    same_fault = rw (sym found.number_is) refl

    passes : saved_fault c w ≡ 0 → saved? (graph_of c) c.starts c.workers (setting_of c) w ≡ true
    passes z = not-false (saved? (graph_of c) c.starts c.workers (setting_of c) w) (raise_none _ 13 0 z).0

    run_of : saved_fault c w ≡ 0 → SavedRun (graph_of c) c.starts c.workers (setting_of c) w (state_of (objects (graph_of c)) c.workers w)
    run_of z = from_saved N w (long (passed found)) (passes z)

    no_fault : (s : State) → SavedRun (graph_of c) c.starts c.workers (setting_of c) w s → saved_fault c w ≡ 0
    no_fault s X = rw (to_saved N X) refl

    -- without a fault the state is reached
    reached : saved_fault c w ≡ 0 → Answers c 0 (resumed c w) marks work tallies w r marks' work' tallies' w'
    reached f = subst (λ (k : ℕ). Answers c k (resumed c w) marks work tallies w r marks' work' tallies' w') f d

    abbrev so_far : List Entry → State
    so_far xs = outcome (graph_of c) c.starts c.workers (setting_of c) xs

    -- the state that is saved keeps all conditions but for the bounds of moved and handed, so these decide
    sound_tells : saved_fault c w ≡ 0 → sound ≡ saved? (graph_of c) c.starts c.workers (setting_of c) w'
    sound_tells f =
        let a = reached f in
        let S = sound_turns N (run_of f).saved.sound (entries c.schedule) in
        let counts : (row r).counts ≡ (resumed c w).counts = ap (λ (t : Row). t.counts) a.row_is in
        let limits = subst (λ (t : Counts). Decides sound (Low (references (graph_of c)) c.workers c.cutoff t)) counts (low f) in
        rw a.saved_is
        (decided_as sound _ limits
        (λ (x : Low (references (graph_of c)) c.workers c.cutoff (resumed c w).counts).
        to_saved N (record { words_are = refl; saved = record { sound = S; moved_limit = x.moved_limit; handed_limit = x.handed_limit } }))
        (λ (t : saved? (graph_of c) c.starts c.workers (setting_of c) (saved_words (objects (graph_of c)) (resumed c w)) ≡ true).
        let X = from_saved N (saved_words (objects (graph_of c)) (resumed c w)) (saved_length_lem (shaped N S)) t in
        let Y = subst (λ (s : State). SavedSound (graph_of c) c.starts c.workers (setting_of c) s) (told_back N S) X.saved in
        record { moved_limit = Y.moved_limit; handed_limit = Y.handed_limit }))

    pub continued_fine : Continued c marks work tallies w r sound marks' work' tallies' w'
    continued_fine =
        record {
          answers = rw same_fault d;
          exactly = λ z. rw same_fault ((λ f. (state_of (objects (graph_of c)) c.workers w, run_of f)), λ y. no_fault y.0 y.1);
          tells = λ z. sound_tells (sym same_fault ∙ z);
          all_marked = λ z done v reach.
              let f = sym same_fault ∙ z in
              let a = reached f in
              let ended = sym (ap (λ (t : Row). t.finished) a.row_is) ∙ done in
              rw a.marks_are (sound_finished c N (run_of f) (entries c.schedule) ended reach);
          waits = λ z k.
              saved_waits N (run_of (sym same_fault ∙ z)) (take k (entries c.schedule));
          joined = λ z. joined c N (run_of (sym same_fault ∙ z)).saved.sound (passed found).schedule_fitting;
          afresh = λ xs q z.
              let X = subst (λ (l : List ℕ). SavedRun (graph_of c) c.starts c.workers (setting_of c) l (so_far xs)) (sym q) (fresh_run N xs) in
              let a = reached (no_fault (so_far xs) X) in
              let e = ap (resumed c) q ∙ resumed_afresh c N xs in
              rw (a.row_is, a.marks_are, a.work_is, a.tallies_are, a.saved_is, e) (afresh c (xs ++ entries c.schedule) N);
        }
