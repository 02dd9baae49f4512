-- Calls in a row are one call: a schedule that is cut into parts and taken call by call leads to what the whole schedule leads to.
use mathlib.Core.Path.{◌≡◌, refl, ap, sym, ◌∙◌}
use mathlib.Core.Bool.{true}
use mathlib.Core.List.{List, [], ◌∷◌, ◌++◌}
use Prim.Native.Nat.{ℕ}
use native.Mathlib.Omega.{arith}
use lib.Dec.{ltb}
use Rattle.laws.proofs.Test.{both_true}
use Rattle.graph.specs.Graph.{objects}
use Rattle.graph.specs.Chain.{Reach}
use Rattle.machine.specs.Tally.{tallies_words}
use Rattle.machine.specs.Machine.{State, Entry, turns, entries, all_ended, result, memory}
use Rattle.machine.specs.Accepted.{Accepted}
use Rattle.machine.specs.Sound.{Marked, Sound}
use Rattle.desk.specs.Checks.{schedule_fits}
use Rattle.machine.specs.Call.{Call, graph_of, setting_of}
use Rattle.machine.specs.Demand2.{outcome}
use Rattle.theorems.proofs.Collected.{collected}
use Rattle.theorems.proofs.Demand2.{all_marked_lem}
use Rattle.theorems.proofs.Progress.{turns_append}
use Rattle.theorems.proofs.Start.{sound, sound_turns}
use Rattle.saved.specs.Layout.{saved_words}
use Rattle.saved.specs.Sound.{SavedRun}
use Rattle.saved.specs.Calls.{resumed, Afresh, whole, reached_by, all_fit, Joined}
use Rattle.saved_theorems.proofs.Kept.{told_back, fresh_run, to_saved}

-- entries of schedules laid end to end, the first of whole entries
pub entries_append : (W : ℕ) (l k : List ℕ) → schedule_fits W l ≡ true → entries (l ++ k) ≡ entries l ++ entries k
unfolding entries schedule_fits
entries_append W [] k h = refl
entries_append W (b ∷ []) k h = let z : ◌≡◌ {A = ℕ} 0 1 = cc in absurd (omega arith)
entries_append W (b ∷ v ∷ l) k h =
    ap (λ (xs : List Entry). record { worker = b; named = v } ∷ xs) (entries_append W l k (both_true (ltb b W) (schedule_fits W l) h).1)

-- what one call of these turns leaves has all that is said of a collection begun afresh
pub afresh : (c : Call) (xs : List Entry) → Accepted (graph_of c) c.starts c.workers (setting_of c)
    → let s = outcome (graph_of c) c.starts c.workers (setting_of c) xs in
    Afresh c xs (result s) s.marks (memory (objects (graph_of c)) s.workers) (tallies_words s.tallies) (saved_words (objects (graph_of c)) s)
afresh c xs A =
    record {
      row_is = refl;
      marks_are = refl;
      work_is = refl;
      tallies_are = refl;
      saved_is = refl;
      sound = to_saved A (fresh_run A xs);
      told = told_back A (sound A xs);
      promise = collected A xs;
    }

module _ (c : Call) (A : Accepted (graph_of c) c.starts c.workers (setting_of c)) where
  -- a collection begun afresh that is taken up goes on as if it had not been stopped
  pub resumed_afresh : (xs : List Entry)
      → resumed c (saved_words (objects (graph_of c)) (outcome (graph_of c) c.starts c.workers (setting_of c) xs))
      ≡ outcome (graph_of c) c.starts c.workers (setting_of c) (xs ++ entries c.schedule)
  resumed_afresh xs =
      rw (told_back A (sound A xs)) (sym (turns_append (graph_of c) (setting_of c) _ xs (entries c.schedule)))

  -- a sound saved collection, whoever wrote it: finished, every object to which a chain leads is marked
  pub sound_finished : {w : List ℕ} {s : State} → SavedRun (graph_of c) c.starts c.workers (setting_of c) w s → (xs : List Entry)
      → all_ended (turns (graph_of c) (setting_of c) s xs).workers ≡ true → {v : ℕ} → Reach (graph_of c) c.starts v
      → Marked (turns (graph_of c) (setting_of c) s xs).marks v
  sound_finished X xs done r = all_marked_lem (sound_turns A X.saved.sound xs) done r

-- from a sound state on, over any parts, empty ones too
module _ (c : Call) (A : Accepted (graph_of c) c.starts c.workers (setting_of c)) where
  reached_by_lem : {s : State} → Sound (graph_of c) c.starts c.workers (setting_of c) s → (ls : List (List ℕ)) → all_fit c.workers ls ≡ true
      → reached_by c ls s ≡ turns (graph_of c) (setting_of c) s (entries (whole ls))
  unfolding reached_by whole all_fit turns entries
  reached_by_lem S [] fs = refl
  reached_by_lem {s} S (l ∷ ls) fs =
      let t = both_true (schedule_fits c.workers l) (all_fit c.workers ls) fs in
      rw (told_back A S, entries_append c.workers l (whole ls) t.0)
      (reached_by_lem {s = turns (graph_of c) (setting_of c) s (entries l)} (sound_turns A S (entries l)) ls t.1 ∙ sym (turns_append (graph_of c) (setting_of c) s (entries l) (entries (whole ls))))

  pub joined : {s : State} → Sound (graph_of c) c.starts c.workers (setting_of c) s → schedule_fits c.workers c.schedule ≡ true
      → Joined c (λ (l : List ℕ). turns (graph_of c) (setting_of c) s (entries l))
  joined {s} S f =
      record {
        in_a_row = λ ls fs.
            rw (entries_append c.workers c.schedule (whole ls) f)
            (reached_by_lem (sound_turns A S (entries c.schedule)) ls fs
            ∙ sym (turns_append (graph_of c) (setting_of c) s (entries c.schedule) (entries (whole ls))));
      }
