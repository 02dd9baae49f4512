-- The starts gathered one by one: a start that is marked adds nothing, another one a mark, and a run if it has references.
use mathlib.Core.Path.{◌≡◌, refl, sym, ap, ◌∙◌}
use mathlib.Core.Logic.{◌≢◌}
use mathlib.Core.List.{List, [], ◌∷◌, ◌++◌, append-nil}
use Prim.Native.Nat.{ℕ, zero, suc, ◌+◌, ◌-◌, ◌≤◌, ◌<◌}
use native.Mathlib.Numerals.{add-one}
use native.Mathlib.Omega.{arith}
use lib.ListN.{length, get_or, set, take, replicate, length-append}
use lib.Seq.{take-suc, take-length}
use Rattle.laws.specs.Sum.{sum, hit}
use Rattle.laws.proofs.Sum.{default, hit_same, sum_none, sum_snoc}
use Rattle.graph.specs.Graph.{Graph, objects, references, first, after, degree}
use Rattle.graph.specs.Chain.{marks_at}
use Rattle.machine.specs.Run.{Run, run, run_from, carried, leaving}
use Rattle.machine.specs.Machine.{live, new_run, start_runs, unmarked}
use Rattle.theorems.proofs.Facts.{live_limit}
use Rattle.theorems.proofs.Marks.{live_more, live_again}
use Rattle.theorems.proofs.Runs.{carried_append}
use Rattle.theorems.proofs.Start.{marks_at_more, start_runs_more, start_room, start_carried, accepted_front}
use Rattle.worker.specs.Stretch.{EndsWith}
use Rattle.worker.proofs.Ends.{ends_none, ends_more}
use Rattle.marker.specs.declared.start.Gathered.{Gathered}
use Rattle.marker.specs.Starting.{Gatherable, runs_from, IsGathered, Gathering, GathersOne}

abbrev pub gathered_with : ℕ → ℕ → ℕ → Gathered
gathered_with live carried at = record { live = live; carried = carried; at = at }

-- nobody's mark is set
none_live : (k : ℕ) → live (replicate k 0) ≡ 0
unfolding live
none_live k = sum_none _ k 0 refl

module _ {offsets : List ℕ} {v : ℕ} {marks s : List ℕ} {t : Gathered} (x : Gathering offsets v marks s t) where
  abbrev G : Graph
  G = x.lent.graph

  abbrev runs : List Run
  runs = runs_from G x.done

  pub start_low : v < objects G
  start_low = x.lent.accepted.starts_below v (omega (arith, sum_snoc (hit v) x.done v, hit_same v))

  pub mark_there : v < length marks
  mark_there = omega (arith, start_low, x.lent.marks_long)

  pub offset_there : v + 1 < length offsets
  offset_there = omega (arith, start_low, ap length x.lent.offsets_are)

  pub live_small : t.live ≤ 65536
  live_small = omega (arith, x.gathered.live_is, live_limit marks, x.lent.marks_long, x.lent.objects_limit)

  -- v's run is new, or it adds none
  more_runs : (new : List Run) → new_run (get_or marks v 1) (leaving G v) ≡ new → runs_from G (x.done ++ (v ∷ [])) ≡ runs ++ new
  more_runs new e =
      start_runs_more G x.done (unmarked G) v
      ∙ ap (λ (ms : List ℕ). runs ++ new_run (get_or ms v 1) (leaving G v)) (sym x.gathered.marks_are)
      ∙ ap (λ (rs : List Run). runs ++ rs) e

  more_gathered : (new : List Run) → new_run (get_or marks v 1) (leaving G v) ≡ new → {s' : List ℕ} {t' : Gathered}
      → t'.live ≡ live (set marks v 1) → t'.carried ≡ t.carried + carried new → EndsWith s' t'.at (runs ++ new)
      → IsGathered G (x.done ++ (v ∷ [])) (set marks v 1) s' t'
  more_gathered new e {s'} {t'} l c w =
      let q = more_runs new e in
      record {
        marks_are = ap (λ (ms : List ℕ). set ms v 1) x.gathered.marks_are ∙ sym (marks_at_more x.done (unmarked G) v);
        live_is = l;
        carried_is = rw q (omega (arith, c, x.gathered.carried_is, carried_append runs new));
        ends = rw q w;
      }

  -- v is marked already
  pub gathered_again : get_or marks v 0 ≢ 0 → IsGathered G (x.done ++ (v ∷ [])) (set marks v 1) s t
  unfolding carried sum
  gathered_again h = by (get_or marks v 1) refl
    where
      by : (k : ℕ) → get_or marks v 1 ≡ k → IsGathered G (x.done ++ (v ∷ [])) (set marks v 1) s t
      by zero e = absurd (h (default marks v 0 1 mark_there ∙ e))
      by (suc k) e =
          more_gathered [] (ap (λ (m : ℕ). new_run m (leaving G v)) e) {s' = s} {t' = t}
          (x.gathered.live_is ∙ sym (live_again marks v 1 k (omega arith) e))
          (omega arith)
          (rw append-nil x.gathered.ends)

  module _ (z : get_or marks v 0 ≡ 0) where
    unmarked_yet : get_or marks v 1 ≡ 0
    unmarked_yet = default marks v 1 0 mark_there ∙ z

    new_run_lem : new_run (get_or marks v 1) (leaving G v) ≡ leaving G v
    new_run_lem = ap (λ (m : ℕ). new_run m (leaving G v)) unmarked_yet

    one_more : t.live + 1 ≡ live (set marks v 1)
    one_more = omega (arith, x.gathered.live_is, live_more marks v 1 (omega arith) unmarked_yet)

    first_word : get_or offsets v 0 ≡ first G v
    first_word = ap (λ (l : List ℕ). get_or l v 0) x.lent.offsets_are

    after_word : get_or offsets (v + 1) 0 ≡ after G v
    after_word = ap (λ (l : List ℕ). get_or l (v + 1) 0) x.lent.offsets_are ∙ ap (λ (i : ℕ). get_or G.offsets i 0) (add-one v)

    -- it has no references
    pub gathered_none : get_or offsets (v + 1) 0 ≤ get_or offsets v 0
        → IsGathered G (x.done ++ (v ∷ [])) (set marks v 1) s (gathered_with (t.live + 1) t.carried t.at)
    unfolding carried sum
    gathered_none h =
        let d : degree G v ≡ 0 = omega (arith, first_word, after_word) in
        more_gathered [] (new_run_lem ∙ ap (λ (k : ℕ). run_from (first G v) k) d) one_more (omega arith) (rw append-nil x.gathered.ends)

    -- it has some
    module _ (f e : ℕ) (ef : f ≡ get_or offsets v 0) (ee : e ≡ get_or offsets (v + 1) 0) (some : f < e) where
      own_run_lem : new_run (get_or marks v 1) (leaving G v) ≡ run f (e - f - 1) ∷ []
      own_run_lem =
          let d : degree G v ≡ suc (e - f - 1) = omega (arith, first_word, after_word, ef, ee) in
          let q : first G v ≡ f = sym first_word ∙ sym ef in
          new_run_lem ∙ ap (λ (k : ℕ). run_from (first G v) k) d ∙ ap (λ (k : ℕ). run k (e - f - 1) ∷ []) q

      own_carried : carried (run f (e - f - 1) ∷ []) ≡ e - f
      unfolding carried sum
      own_carried = omega arith

      -- there is room for it, and what is carried stays within m
      pub room_more : 2 ≤ t.at
      room_more =
          let l : length (runs ++ (run f (e - f - 1) ∷ [])) ≤ suc (objects G) =
          rw (more_runs _ own_run_lem) at (start_room x.lent.accepted) in
          omega (arith, rw length-append at l, x.gathered.ends.place, x.lent.long)

      pub carried_small : t.carried + (e - f) ≤ 1048576
      carried_small =
          let l : carried (runs ++ (run f (e - f - 1) ∷ [])) ≤ references G =
          rw (more_runs _ own_run_lem) at (start_carried x.lent.accepted) in
          omega (arith, l, carried_append runs (run f (e - f - 1) ∷ []), own_carried, x.gathered.carried_is, x.lent.references_limit)

      pub gathered_more : IsGathered G (x.done ++ (v ∷ [])) (set marks v 1) (set (set s (t.at - 2) f) (t.at - 2 + 1) e)
          (gathered_with (t.live + 1) (t.carried + (e - f)) (t.at - 2))
      gathered_more =
          more_gathered (run f (e - f - 1) ∷ []) own_run_lem one_more (omega (arith, own_carried))
          (ends_more x.gathered.ends f (e - f - 1) e (omega arith) room_more)

-- ---- the loop over the starts

module _ {offsets starts marks₀ s₀ : List ℕ} (x : Gatherable offsets starts marks₀ s₀) where
  pub gathered_start : marks₀ ≡ replicate (length marks₀) 0 → IsGathered x.graph (take 0 starts) marks₀ s₀ (gathered_with 0 0 (length s₀))
  unfolding marks_at start_runs carried sum
  gathered_start e =
      record {
        marks_are = e ∙ ap (λ (k : ℕ). replicate {A = ℕ} k 0) x.marks_long;
        live_is = sym (ap live e ∙ none_live (length marks₀));
        carried_is = refl;
        ends = ends_none s₀;
      }

  module _ {i : ℕ} {marks s : List ℕ} {t : Gathered} (ml : length marks ≡ length marks₀) (sl : length s ≡ length s₀) (h : i < length starts)
      (d : IsGathered x.graph (take i starts) marks s t) where
    next_starts : take (i + 1) starts ≡ take i starts ++ (get_or starts i 0 ∷ [])
    next_starts = ap (λ (k : ℕ). take k starts) (add-one i) ∙ take-suc starts i 0 h

    pub gathering : Gathering offsets (get_or starts i 0) marks s t
    gathering =
        record {
          done = take i starts;
          lent =
              record {
                graph = x.graph;
                workers = x.workers;
                setting = x.setting;
                accepted = rw next_starts at (accepted_front x.accepted (i + 1));
                offsets_are = x.offsets_are;
                objects_limit = x.objects_limit;
                references_limit = x.references_limit;
                marks_long = ml ∙ x.marks_long;
                long = sl ∙ x.long;
              };
          gathered = d;
        }

    pub gathered_next : {marks' s' : List ℕ} {t' : Gathered} → GathersOne offsets (get_or starts i 0) marks s t marks' s' t'
        → IsGathered x.graph (take (i + 1) starts) marks' s' t'
    unfolding gathering
    gathered_next g = rw next_starts (g gathering)

  pub gathered_all : (i : ℕ) {marks s : List ℕ} {t : Gathered} → IsGathered x.graph (take i starts) marks s t → i ≡ length starts
      → IsGathered x.graph starts marks s t
  gathered_all i d e = rw (ap (λ (k : ℕ). take k starts) e ∙ take-length starts) at d
