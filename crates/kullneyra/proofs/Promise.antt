-- From what a call that saves promises to what its exported function promises: the answer is the row's number, and without a fault the
-- result words are the row's.
use mathlib.Core.Path.{◌≡◌, refl, sym, ◌∙◌, ap}
use mathlib.Core.Bool.{Bool, true}
use mathlib.Core.List.{List}
use mathlib.Core.Logic.{◌↔◌}
use Prim.Native.Nat.{ℕ, zero, suc}
use lib.ListN.{length}
use Rattle.refusal.proofs.None.{first_none}
use Rattle.desk.specs.Kept.{unless_refused}
use Rattle.machine.specs.Row.{Row}
use Rattle.machine.specs.Machine.{State}
use Rattle.machine.specs.Call.{Call, graph_of, setting_of, final}
use Rattle.std.specs.Prelude.{Result}
use Rattle.refusal.specs.declared.Refusal.{Refusal}
use Rattle.marker.specs.declared.Marked.{Marked}
use Rattle.marker.specs.Answer.{row}
use Rattle.saved.specs.Sound.{SavedRun}
use Rattle.saved.specs.Calls.{begin_fault, resume_fault, resumed, row_for}
use Rattle.begin.specs.Answer.{Begun}
use Rattle.resume.specs.Answer.{Continued}
use Rattle.kullneyra.specs.Calls.{stop_words}
use Rattle.kullneyra.specs.Promise.{BeginPromise, ResumePromise}

-- the result words of a call without a fault
words_told : {k answer : ℕ} {after : List ℕ} (words before : List ℕ) → answer ≡ k → after ≡ unless_refused k words before → answer ≡ 0 → after ≡ words
words_told words before e w z = rw (sym e ∙ z) at w

-- the row of a call that saves has the number of its fault
saved_number : (s : State) (k : ℕ) → (row_for k s).number ≡ k
saved_number s zero = refl
saved_number s (suc k) = refl

-- so the answer is it
answer_is : {answer k : ℕ} {r t : Row} → answer ≡ r.number → r ≡ t → t.number ≡ k → answer ≡ k
answer_is e i n = e ∙ ap (λ (t : Row). t.number) i ∙ n

-- the calls that save
module _ (result : List ℕ) {result' : List ℕ} (r : Result Marked Refusal) {sound : Bool} {answer : ℕ}
    (e : answer ≡ (row r).number) (w : result' ≡ unless_refused (row r).number (stop_words (row r) sound) result)
    {c : Call} {marks work tallies marks' work' tallies' saved saved' : List ℕ} where
  pub begin_promise : Begun c marks work tallies saved r marks' work' tallies' saved' → sound ≡ true → answer ≡ 0
      → BeginPromise c marks' work' tallies' saved' result'
  begin_promise a t z =
      let k = begin_fault c (length marks) (length work) (length tallies) (length saved) in
      let none : k ≡ 0 = sym (answer_is e a.answers.row_is (saved_number (final c) k)) ∙ z in
      record {
        row = row r;
        sound = sound;
        told = words_told (stop_words (row r) sound) result e w z;
        sound_is = t ∙ sym (a.afresh none).sound;
        afresh = a.afresh none;
        joined = a.joined none;
      }

  module _ (a : Continued c marks work tallies saved r sound marks' work' tallies' saved') where
    resume_number : answer ≡ resume_fault c (length marks) (length work) (length tallies) saved
    resume_number =
        let k = resume_fault c (length marks) (length work) (length tallies) saved in
        answer_is e a.answers.row_is (saved_number (resumed c saved) k)

    pub resume_exactly : begin_fault c (length marks) (length work) (length tallies) (length saved) ≡ 0
        → (answer ≡ 0) ↔ ((s : State) × SavedRun (graph_of c) c.starts c.workers (setting_of c) saved s)
    resume_exactly b = (λ z. (a.exactly b).0 (sym resume_number ∙ z), λ x. resume_number ∙ (a.exactly b).1 x)

    pub resume_promise : answer ≡ 0 → ResumePromise c saved marks' work' tallies' saved' result'
    unfolding resume_fault
    resume_promise z =
        let none = sym resume_number ∙ z in
        record {
          row = row r;
          sound = sound;
          told = words_told (stop_words (row r) sound) result e w z;
          sound_is = a.tells none;
          all_marked = a.all_marked none;
          waits = a.waits none;
          joined = a.joined none;
          afresh = λ xs q. a.afresh xs q (first_none _ _ none).0;
        }
