-- What is printed for each answer of a call in which the marker can find no fault but in its schedule.
use mathlib.Core.Path.{◌≡◌, refl, sym, ap, ◌∙◌}
use mathlib.Core.Bool.{false}
use mathlib.Core.List.{List, ◌++◌, append-nil}
use Prim.Native.Nat.{ℕ, zero, suc, ◌*◌, ◌/◌, ◌<◌}
use native.Mathlib.Omega.{arith}
use lib.ListN.{length}
use Rattle.std.specs.Prelude.{Result, Ok, Err}
use Rattle.refusal.specs.declared.Refusal.{Refusal}
use Rattle.refusal.specs.Number.{number}
use Rattle.refusal.proofs.Numbers.{numbered}
use Rattle.desk.specs.declared.Settings.{Settings}
use Rattle.desk.specs.Lengths.{tally_word_count, stretch_length}
use Rattle.desk.specs.Checks.{setting_fault, schedule_fault}
use Rattle.desk.specs.Kept.{unless_refused}
use Rattle.machine.specs.Row.{Row, refused_row}
use Rattle.machine.specs.Tally.{tallies_words}
use Rattle.machine.specs.Machine.{result}
use Rattle.machine.specs.Call.{Call, fault, answer_for, final}
use Rattle.marker.specs.declared.Marked.{Marked}
use Rattle.marker.specs.declared.Marked.TheVariants.{Finished, Unfinished}
use Rattle.marker.specs.Answer.{row, Answered}
use Rattle.sweep.specs.Sweep.{dead}
use Rattle.lines.specs.Lines.{count_lines, word_lines}
use Rattle.program.specs.Program.{Contents, call_of, dead_text, printed}
use Rattle.program.specs.Passing.{Passing}
use Rattle.program.proofs.Printed.{beside}
use Rattle.program.proofs.Passing.{passing_fault}
use Rattle.report.specs.Ready.{answer_text, collection_text}
use Rattle.lines.proofs.Tallying.{lines_are}

module _ (s : Contents) (o : Settings) (schedule : List ℕ) where
  -- the result, the words of the tallies and the marks of the collection
  printed_result : {f : ℕ} (r : Row) (words marks : List ℕ) → f ≡ 0 → r ≡ result (final (call_of s o schedule))
      → words ≡ tallies_words (final (call_of s o schedule)).tallies → marks ≡ (final (call_of s o schedule)).marks
      → count_lines r.finished r.counts ++ word_lines words (length words / 4) ++ dead_text r.finished s.sizes (dead marks)
      ≡ printed f s o schedule
  printed_result r words marks z e t m = rw (z, e, m, lines_are (final (call_of s o schedule)).tallies words t)

-- a refusal's row: its number is the fault's
refused_row_lem : (k f : ℕ) (c : Call) → 0 < k → refused_row k ≡ answer_for f c → k ≡ f
refused_row_lem k zero c h e = let z = ap (λ (r : Row). r.number) e in absurd (omega arith)
refused_row_lem k (suc f) c h e = ap (λ (r : Row). r.number) e

-- any other row: there is no fault, and it is the result of the turns
result_row : (r : Row) (f : ℕ) (c : Call) → r.number ≡ 0 → r ≡ answer_for f c → (f ≡ 0) × (r ≡ result (final c))
result_row r zero c z e = (refl, e)
result_row r (suc f) c z e = let q = ap (λ (x : Row). x.number) e in absurd (omega arith)

-- a call in which the marker can find no fault but in its schedule
pub record Markable (s : Contents) (o : Settings) (marks work tallies : List ℕ) : Type 0 where
  pub passing : Passing s
  pub settings : setting_fault o.workers o.batch o.cutoff ≡ 0
  pub all_marks : length marks ≡ length s.sizes
  pub all_work : length work ≡ o.workers * stretch_length (length s.sizes)
  pub all_tallies : length tallies ≡ o.workers * tally_word_count

module _ {s : Contents} {o : Settings} {marks work tallies : List ℕ} (ready : Markable s o marks work tallies) (schedule : List ℕ) where
  abbrev call : Call
  call = call_of s o schedule

  only_schedule : fault (call_of s o schedule) (length marks) (length work) (length tallies) ≡ schedule_fault o.workers schedule
  only_schedule = passing_fault o ready.passing ready.settings ready.all_marks ready.all_work ready.all_tallies schedule

  module _ {m : Result Marked Refusal} {marks' work' tallies' : List ℕ} (done : Answered (call_of s o schedule) marks work tallies m marks' work' tallies') where
    answered : row m ≡ answer_for (schedule_fault o.workers schedule) (call_of s o schedule)
    answered = done.row_is ∙ ap (λ (f : ℕ). answer_for f call) only_schedule

    -- a row that is no refusal's is the result of the turns, and so are the tallies
    found : (row m).number ≡ 0 → (schedule_fault o.workers schedule ≡ 0) × (row m ≡ result (final (call_of s o schedule)))
        × (tallies' ≡ tallies_words (final (call_of s o schedule)).tallies)
    found z =
        let q = result_row (row m) (schedule_fault o.workers schedule) call z answered in
        (q.0, q.1, done.tallies_are ∙ ap (λ (f : ℕ). unless_refused f (tallies_words (final call).tallies) tallies) (only_schedule ∙ q.0))

  -- what an answer's lines say
  pub answer_text_lem : (m : Result Marked Refusal) {marks' work' tallies' : List ℕ} → Answered (call_of s o schedule) marks work tallies m marks' work' tallies'
      → answer_text m s.sizes marks' tallies' ≡ collection_text s o schedule
  answer_text_lem (Err k) done =
      beside s o schedule (number k) (schedule_fault o.workers schedule) (numbered k)
      (refused_row_lem (number k) (schedule_fault o.workers schedule) call (numbered k) (answered done))
  answer_text_lem (Ok (Unfinished t)) {tallies' = tallies'} done =
      let q = found done refl in
      sym (append-nil (count_lines false t ++ word_lines tallies' (length tallies' / 4)))
      ∙ printed_result s o schedule (row (Ok (Unfinished t))) tallies' (final call).marks q.0 q.1 q.2 refl
  answer_text_lem (Ok (Finished t)) {marks'} {tallies' = tallies'} done =
      let q = found done refl in
      printed_result s o schedule (row (Ok (Finished t))) tallies' marks' q.0 q.1 q.2
      (done.marks_are ∙ ap (λ (f : ℕ). unless_refused f (final call).marks marks) (only_schedule ∙ q.0))
