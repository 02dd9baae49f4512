-- The calls as numbers and slices: the number that a call answers, and its result words. Nothing is decided here but
-- the length of the result words, which is looked at first.
use Rattle.std.specs.Prelude.{◌≡◌, ℕ, suc, Bool, true, false, List, [], ◌∷◌, ◌++◌, length, get_or, replicate, eqb}
use Rattle.laws.specs.Choice.{pick}
use Rattle.graph.specs.Graph.{graph, objects, part_start, part_length}
use Rattle.desk.specs.declared.Settings.{Settings}
use Rattle.desk.specs.Lengths.{counts_number}
use Rattle.desk.specs.Kept.{unless_refused}
use Rattle.desk.specs.Length.{LengthRow}
use Rattle.hands.specs.Hand.{turns_of}
use Rattle.catalogue.specs.Answer.{Row, ReadRow, header_row, taken, read_row, offsets_after, targets_after, sizes_after, starts_after}
use Rattle.records.specs.Reading.{Reading, refused}
use Rattle.machine.specs.declared.Counts.{Counts}
use Rattle.machine.specs.Row.{Row as MarkRow, count_words}
use Rattle.machine.specs.Tally.{tallies_words}
use Rattle.machine.specs.Machine.{State, memory}
use Rattle.machine.specs.Call.{Call, graph_of, setting_of, final, marking, marks_after, work_after, tallies_after}
use Rattle.sweep.specs.Sweep.{Row as SweepRow, sweeping, list_after}
use Rattle.saved.specs.Layout.{saved_words}
use Rattle.saved.specs.Test.{saved?}
use Rattle.saved.specs.Calls.{begin_fault, resume_fault, resumed, row_for}
use Rattle.seed.specs.declared.Seed.{Seed}
use Rattle.seed.specs.Draw.{next, drawn, draw_row}
use Rattle.seed.specs.Deal.{after_draws, hand_of, fault}
use Rattle.matrix.specs.Import.{head_row, taken as import_taken, answer_of}
use Rattle.layers.specs.Hops.{HopsOf, LinksLeft}
use Rattle.hops.specs.Call.{fault as hop_fault}
use Rattle.changes.specs.Pairs.{paired}
use Rattle.changes.specs.Stores.{added, completed, removed, marks_afresh}
use Rattle.changes.specs.Marking.{ListLeft}
use Rattle.changes.specs.Promise.{AddPromise, RemovePromise}
use Rattle.updates.specs.Call.{lengths, add_fault, remove_fault}
use Rattle.names.specs.Names.{Names}
use Rattle.names.specs.Call.{Texts, blank, scan_fault, from_after, to_after}

-- 7 where the result words are not as many as the call has results, else what the call answers
abbrev pub answer_in : ℕ → List ℕ → ℕ → ℕ
answer_in k result number = pick (eqb (length result) k) number 7

-- ---- header: n, m, index

abbrev pub header_answer : List ℕ → List ℕ → ℕ
header_answer bytes result = answer_in 3 result (header_row bytes).refusal

abbrev pub header_words : Row → List ℕ
header_words r = r.n ∷ r.m ∷ r.index ∷ []

-- ---- read: n, m, index, starts

abbrev pub read_words : ReadRow → List ℕ
read_words r = r.n ∷ r.m ∷ r.index ∷ r.starts ∷ []

-- what the reader makes of the bytes; no reading where the result words are too few or too many
abbrev pub read_in : List ℕ → List ℕ → List ℕ → List ℕ → List ℕ → List ℕ → Reading
read_in bytes offsets targets sizes starts result =
    pick (eqb (length result) 4) (taken bytes offsets targets sizes starts) (refused 7)

-- the number answered and every lent word afterwards, by that reading
pub record ReadsIn (bytes offsets targets sizes starts result offsets' targets' sizes' starts' result' : List ℕ) (answer : ℕ) : Type 0 where
  pub answers : answer ≡ (read_row (read_in bytes offsets targets sizes starts result)).refusal
  pub fills_offsets : offsets' ≡ offsets_after (read_in bytes offsets targets sizes starts result) offsets
  pub fills_targets : targets' ≡ targets_after (read_in bytes offsets targets sizes starts result) targets
  pub fills_sizes : sizes' ≡ sizes_after (read_in bytes offsets targets sizes starts result) sizes
  pub fills_starts : starts' ≡ starts_after (read_in bytes offsets targets sizes starts result) starts
  pub fills_result :
      result'
      ≡ unless_refused (read_row (read_in bytes offsets targets sizes starts result)).refusal
      (read_words (read_row (read_in bytes offsets targets sizes starts result)))
      result

-- ---- references: start, length

abbrev pub part_answer : List ℕ → ℕ
part_answer result = answer_in 2 result 0

abbrev pub part_words : List ℕ → List ℕ → ℕ → List ℕ
part_words offsets targets v = part_start (graph offsets targets) v ∷ part_length (graph offsets targets) v ∷ []

-- ---- sweep: count, freed

abbrev pub sweep_answer : List ℕ → List ℕ → List ℕ → List ℕ → ℕ
sweep_answer marks sizes list result = answer_in 2 result (sweeping marks sizes list).number

abbrev pub swept_words : SweepRow → List ℕ
swept_words r = r.count ∷ r.freed ∷ []

abbrev pub sweep_words : List ℕ → List ℕ → List ℕ → List ℕ
sweep_words marks sizes list = swept_words (sweeping marks sizes list)

-- the list afterwards
abbrev pub sweep_list : List ℕ → List ℕ → List ℕ → List ℕ → List ℕ
sweep_list marks sizes list result = pick (eqb (length result) 2) (list_after marks sizes list) list

-- ---- mark: finished (1 or 0), then the counts in their order

-- W, D and K as the calls below take them
abbrev pub settings : ℕ → ℕ → ℕ → Settings
settings W D K = record { workers = W; batch = D; cutoff = K }

abbrev pub mark_word_count : ℕ
mark_word_count = suc counts_number

abbrev pub flag : Bool → ℕ
flag true = 1
flag false = 0

abbrev pub result_words : ℕ → Counts → List ℕ
result_words f c = f ∷ count_words c

abbrev pub mark_words : MarkRow → List ℕ
mark_words r = result_words (flag r.finished) r.counts

-- the number answered and every lent byte and word afterwards
pub record MarksIn (c : Call) (marks work tallies result marks' work' tallies' result' : List ℕ) (answer : ℕ) : Type 0 where
  pub answers : answer ≡ answer_in mark_word_count result (marking c marks work tallies).number
  pub fills_marks : marks' ≡ pick (eqb (length result) mark_word_count) (marks_after c marks work tallies) marks
  pub fills_work : work' ≡ pick (eqb (length result) mark_word_count) (work_after c marks work tallies) work
  pub fills_tallies : tallies' ≡ pick (eqb (length result) mark_word_count) (tallies_after c marks work tallies) tallies
  pub fills_result : result' ≡ unless_refused (answer_in mark_word_count result (marking c marks work tallies).number) (mark_words (marking c marks work tallies)) result

-- ---- saved_words, schedule_length, hop_words, update_words, export_length, scan_length: the length

-- the number answered and the result word afterwards, of a call that answers this row
pub record LengthIn (r : LengthRow) (result result' : List ℕ) (answer : ℕ) : Type 0 where
  pub answers : answer ≡ answer_in 1 result r.number
  pub fills_result : result' ≡ unless_refused (answer_in 1 result r.number) (r.long ∷ []) result

-- ---- begin and resume: the words of mark, whether what is saved is sound, and the saved words

abbrev pub stop_word_count : ℕ
stop_word_count = suc mark_word_count

abbrev pub stop_words : MarkRow → Bool → List ℕ
stop_words r sound = mark_words r ++ (flag sound ∷ [])

-- whether these words of a state are sound, by the test of the next call
abbrev pub sound_for : Call → State → Bool
sound_for c s = saved? (graph_of c) c.starts c.workers (setting_of c) (saved_words (objects (graph_of c)) s)

-- the number answered and every lent byte and word afterwards, where k is the number of the call's fault and s the state that it reaches
pub record SavesIn (c : Call) (k : ℕ) (s : State) (marks work tallies w result marks' work' tallies' w' result' : List ℕ) (answer : ℕ) : Type 0 where
  pub answers : answer ≡ answer_in stop_word_count result (row_for k s).number
  pub fills_marks : marks' ≡ pick (eqb (length result) stop_word_count) (unless_refused k s.marks marks) marks
  pub fills_work : work' ≡ pick (eqb (length result) stop_word_count) (unless_refused k (memory (objects (graph_of c)) s.workers) work) work
  pub fills_tallies : tallies' ≡ pick (eqb (length result) stop_word_count) (unless_refused k (tallies_words s.tallies) tallies) tallies
  pub fills_saved : w' ≡ pick (eqb (length result) stop_word_count) (unless_refused k (saved_words (objects (graph_of c)) s) w) w
  pub fills_result : result' ≡ unless_refused (answer_in stop_word_count result (row_for k s).number) (stop_words (row_for k s) (sound_for c s)) result

-- a collection begun, and one taken up from its saved words
abbrev pub BeginsIn : Call → List ℕ → List ℕ → List ℕ → List ℕ → List ℕ → List ℕ → List ℕ → List ℕ → List ℕ → List ℕ → ℕ → Type 0
BeginsIn c marks work tallies w result =
    SavesIn c (begin_fault c (length marks) (length work) (length tallies) (length w)) (final c) marks work tallies w result

abbrev pub ResumesIn : Call → List ℕ → List ℕ → List ℕ → List ℕ → List ℕ → List ℕ → List ℕ → List ℕ → List ℕ → List ℕ → ℕ → Type 0
ResumesIn c marks work tallies w result =
    SavesIn c (resume_fault c (length marks) (length work) (length tallies) w) (resumed c w) marks work tallies w result

-- ---- draw: the card; deal_seed: no results. The seed is two lent words.

abbrev pub seed_of : List ℕ → Seed
seed_of words = record { first = get_or words 0 0; second = get_or words 1 0 }

abbrev pub seed_words : Seed → List ℕ
seed_words s = s.first ∷ s.second ∷ []

-- 7 where the seed is not two words, or the result words are not one
abbrev pub draw_answer : List ℕ → List ℕ → ℕ
draw_answer seed result = pick (eqb (length seed) 2) (answer_in 1 result (draw_row (drawn (seed_of seed))).number) 7

pub record DrawsIn (seed result seed' result' : List ℕ) (answer : ℕ) : Type 0 where
  pub answers : answer ≡ draw_answer seed result
  pub moves : seed' ≡ unless_refused (draw_answer seed result) (seed_words (next (seed_of seed))) seed
  pub fills_result : result' ≡ unless_refused (draw_answer seed result) ((draw_row (drawn (seed_of seed))).card ∷ []) result

abbrev pub deal_answer : List ℕ → ℕ → ℕ → ℕ → ℕ
deal_answer seed k W long = pick (eqb (length seed) 2) (fault (seed_of seed) k W long) 7

pub record DealsIn (seed : List ℕ) (k W : ℕ) (schedule seed' schedule' : List ℕ) (answer : ℕ) : Type 0 where
  pub answers : answer ≡ deal_answer seed k W (length schedule)
  pub moves : seed' ≡ unless_refused (deal_answer seed k W (length schedule)) (seed_words (after_draws k (seed_of seed))) seed
  pub fills_schedule : schedule' ≡ unless_refused (deal_answer seed k W (length schedule)) (turns_of W (hand_of k (seed_of seed))) schedule

-- ---- hops: no results

-- the answer is the first fault; without one the hop counts are those of the graph, and the work words of an object without a count are as they
-- were; beside a refusal every lent word is as it was
pub record HopsIn (offsets targets starts hops work hops' work' : List ℕ) (answer : ℕ) : Type 0 where
  pub answers : answer ≡ hop_fault offsets targets starts (length hops) (length work)
  pub counted : answer ≡ 0 → HopsOf (graph offsets targets) starts hops'
  pub work_left : answer ≡ 0 → LinksLeft hops' work work'
  pub unchanged : (k : ℕ) → answer ≡ suc k → (hops' ≡ hops) × (work' ≡ work)

-- ---- add, remove: no results

-- the answer is the first fault; without one the store and the marks are the definitions', and each work word is as it was or one of the first, as
-- many as there are objects newly marked, and names one of these; beside a refusal every lent word is as it was
pub record AddsIn (offsets targets from to bounds places marks work bounds' places' marks' work' : List ℕ) (answer : ℕ) : Type 0 where
  pub answers : answer ≡ add_fault offsets targets from to marks (lengths bounds places marks work)
  pub store_is : answer ≡ 0 → graph bounds' places' ≡ added (graph offsets targets) (paired from to)
  pub marks_are : answer ≡ 0 → marks' ≡ completed (added (graph offsets targets) (paired from to)) marks
  pub promise : answer ≡ 0 → AddPromise (graph offsets targets) (paired from to) marks marks'
  pub work_left : answer ≡ 0 → ListLeft 0 marks work marks' work'
  pub unchanged : (k : ℕ) → answer ≡ suc k → (bounds' ≡ bounds) × (places' ≡ places) × (marks' ≡ marks) × (work' ≡ work)

pub record RemovesIn (offsets targets numbers starts bounds places marks work bounds' places' marks' work' : List ℕ) (answer : ℕ) : Type 0 where
  pub answers : answer ≡ remove_fault offsets targets numbers starts (lengths bounds places marks work)
  pub store_is : answer ≡ 0 → graph bounds' places' ≡ removed (graph offsets targets) numbers
  pub marks_are : answer ≡ 0 → marks' ≡ marks_afresh (removed (graph offsets targets) numbers) starts
  pub promise : answer ≡ 0 → RemovePromise (removed (graph offsets targets) numbers) starts marks'
  -- nothing was marked before
  pub work_left : answer ≡ 0 → ListLeft 0 (replicate (length marks) 0) work marks' work'
  pub unchanged : (k : ℕ) → answer ≡ suc k → (bounds' ≡ bounds) × (places' ≡ places) × (marks' ≡ marks) × (work' ≡ work)

-- ---- market_header: n, m, index

abbrev pub market_answer : List ℕ → List ℕ → ℕ
market_answer text result = answer_in 3 result (head_row text).refusal

-- ---- import: n, m, index

-- what import makes of the text; no reading where the result words are too few or too many
abbrev pub import_in : List ℕ → List ℕ → List ℕ → List ℕ → List ℕ → Reading
import_in text offsets targets sizes result = pick (eqb (length result) 3) (import_taken text offsets targets sizes) (refused 7)

-- the number answered and every lent word afterwards, by that reading
pub record ImportsIn (text offsets targets sizes result offsets' targets' sizes' result' : List ℕ) (answer : ℕ) : Type 0 where
  pub answers : answer ≡ (answer_of (import_in text offsets targets sizes result)).refusal
  pub fills_offsets : offsets' ≡ offsets_after (import_in text offsets targets sizes result) offsets
  pub fills_targets : targets' ≡ targets_after (import_in text offsets targets sizes result) targets
  pub fills_sizes : sizes' ≡ sizes_after (import_in text offsets targets sizes result) sizes
  pub fills_result : result' ≡ unless_refused (answer_of (import_in text offsets targets sizes result)).refusal
      (header_words (answer_of (import_in text offsets targets sizes result))) result

-- ---- scan: no results

-- the answer is the first fault; without one the lists are the mentions, and beside a refusal they are as they were; so are the work words always
pub record ScansIn (n : ℕ) (N : Names) (T : Texts) (work from to work' from' to' : List ℕ) (answer : ℕ) : Type 0 where
  pub answers : answer ≡ scan_fault n N T (blank work) (length from) (length to)
  pub keeps_work : work' ≡ work
  pub fills_from : from' ≡ from_after n N T (blank work) from to
  pub fills_to : to' ≡ to_after n N T (blank work) from to
