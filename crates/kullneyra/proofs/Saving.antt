-- The calls that save, by the length of the result words: with another one nothing is made, and with the right one what the call promises is told.
use mathlib.Core.Path.{◌≡◌, refl, sym, ap, ◌∙◌}
use mathlib.Core.Bool.{Bool, true}
use mathlib.Core.List.{List}
use Prim.Native.Nat.{ℕ, zero, suc}
use lib.ListN.{length}
use lib.Dec.{eqb}
use Rattle.graph.specs.Graph.{objects}
use Rattle.desk.specs.Kept.{unless_refused}
use Rattle.machine.specs.Row.{Row}
use Rattle.machine.specs.Machine.{State}
use Rattle.machine.specs.Call.{Call, graph_of, setting_of}
use Rattle.std.specs.Prelude.{Result}
use Rattle.refusal.specs.declared.Refusal.{Refusal}
use Rattle.marker.specs.declared.Marked.{Marked}
use Rattle.marker.specs.Answer.{row}
use Rattle.saved.specs.Layout.{saved_words}
use Rattle.saved.specs.Test.{saved?}
use Rattle.saved.specs.Calls.{row_for}
use Rattle.begin.specs.Answer.{Answers, Begun}
use Rattle.resume.specs.Answer.{Continued}
use Rattle.kullneyra.specs.Calls.{stop_word_count, stop_words, SavesIn, BeginsIn, ResumesIn}

-- the result words by the row of the call, where the flag is told of a call without a fault
words_by : (k : ℕ) (s : State) (result : List ℕ) {t : Row} {sound b : Bool} {result' : List ℕ} → t ≡ row_for k s → (k ≡ 0 → sound ≡ b)
    → result' ≡ unless_refused t.number (stop_words t sound) result
    → result' ≡ unless_refused (row_for k s).number (stop_words (row_for k s) b) result
words_by zero s result {t} {sound} h l w =
    w ∙ ap (λ (x : Row). unless_refused x.number (stop_words x sound) result) h ∙ ap (stop_words (row_for 0 s)) (l refl)
words_by (suc k) s result {t} {sound} h l w = w ∙ ap (λ (x : Row). unless_refused x.number (stop_words x sound) result) h

module _ {c : Call} {k : ℕ} {s : State} {marks work tallies w result : List ℕ} where
  made : {r : Result Marked Refusal} {sound : Bool} {marks' work' tallies' w' result' : List ℕ} {answer : ℕ}
      → eqb (length result) stop_word_count ≡ true
      → Answers c k s marks work tallies w r marks' work' tallies' w'
      → (k ≡ 0 → sound ≡ saved? (graph_of c) c.starts c.workers (setting_of c) w')
      → answer ≡ (row r).number → result' ≡ unless_refused (row r).number (stop_words (row r) sound) result
      → SavesIn c k s marks work tallies w result marks' work' tallies' w' result' answer
  made f a tells number words =
      let h = a.row_is in
      record {
        answers = rw (f, ← h) number;
        fills_marks = rw f a.marks_are;
        fills_work = rw f a.work_is;
        fills_tallies = rw f a.tallies_are;
        fills_saved = rw f a.saved_is;
        fills_result =
            rw f
            (words_by k s result h
            (λ z. tells z
            ∙ ap (saved? (graph_of c) c.starts c.workers (setting_of c))
            (a.saved_is ∙ ap (λ (j : ℕ). unless_refused j (saved_words (objects (graph_of c)) s) w) z))
            words);
      }

-- of the two calls
module _ {c : Call} {marks work tallies w result marks' work' tallies' w' result' : List ℕ} {r : Result Marked Refusal} {sound : Bool} {answer : ℕ}
    (f : eqb (length result) stop_word_count ≡ true) (number : answer ≡ (row r).number)
    (words : result' ≡ unless_refused (row r).number (stop_words (row r) sound) result) where
  pub begins_in : Begun c marks work tallies w r marks' work' tallies' w' → sound ≡ true
      → BeginsIn c marks work tallies w result marks' work' tallies' w' result' answer
  begins_in a t = made f a.answers (λ z. t ∙ sym (a.afresh z).sound) number words

  pub resumes_in : Continued c marks work tallies w r sound marks' work' tallies' w'
      → ResumesIn c marks work tallies w result marks' work' tallies' w' result' answer
  resumes_in a = made f a.answers a.tells number words
