-- The start in the lent memories: every worker idle, or the first one busy with the starts' runs.
use mathlib.Core.Path.{◌≡◌, refl, sym, ap, ◌∙◌}
use mathlib.Core.Logic.{◌≢◌}
use mathlib.Core.List.{List, [], ◌∷◌, ◌++◌}
use Prim.Native.Nat.{ℕ, zero, suc, ◌+◌, ◌-◌, ◌*◌, ◌≤◌, ◌<◌}
use native.Mathlib.Nat.{mul-le-mul_right}
use native.Mathlib.Omega.{arith}
use lib.ListN.{length, get_or, replicate, take, drop, get_or-replicate, length-replicate, length-append, length-drop}
use lib.Seq.{length-take-le, take_at}
use Rattle.laws.specs.Sum.{sum}
use Rattle.laws.specs.Every.{Every}
use Rattle.laws.proofs.Sum.{sum_none}
use Rattle.graph.specs.Graph.{Graph, graph}
use Rattle.machine.specs.Row.{fresh_counts}
use Rattle.machine.specs.Run.{Run, run, carried}
use Rattle.machine.specs.Machine.{State, Worker, idle, ended, busy, empty, poll, carries?, live, with_runs, start}
use Rattle.machine.specs.Sound.{InTargets}
use Rattle.theorems.proofs.Marks.{set_some}
use Rattle.theorems.proofs.Runs.{length_carried, carried_length}
use Rattle.theorems.proofs.Start.{none_marked, start_inside}
use Rattle.worker.specs.declared.registers.Block.{Block}
use Rattle.worker.specs.declared.stretch.Top.{Top}
use Rattle.worker.specs.Registers.{Room, store_at, Stored}
use Rattle.worker.specs.Stretch.{Told, Lowerable, Lowered}
use Rattle.worker.proofs.Blocks.{store_stored}
use Rattle.laws.proofs.Blocks.{laid_replicate}
use Rattle.machine.specs.Tally.{Tally, no_tally, tally_words, tallies_words}
use Rattle.step.specs.declared.Setup.{Setup}
use Rattle.machine.specs.Ring.{fresh_ring}
use Rattle.step.proofs.Ringing.{fresh_words}
use Rattle.step.specs.Counting.{running?, counts_of, fresh_progress}
use Rattle.step.specs.declared.Progress.{Progress}
use Rattle.step.specs.Held.{memory, stretch_at, BlockIs, Holds}
use Rattle.step.proofs.Each.{all_same, hold_one}
use Rattle.marker.specs.declared.start.Gathered.{Gathered}
use Rattle.marker.specs.Starting.{Gatherable, runs_from, IsGathered, Gathers, Startable, Started, StretchStarted}

-- idle workers are all running
idle_running : (k : ℕ) → sum running? (replicate k idle) ≡ k
unfolding sum
idle_running zero = refl
idle_running (suc k) = omega (arith, idle_running k)

-- no tally counts anything
none_tallied : (starts k W : ℕ) → counts_of (fresh_progress starts k W) (replicate W no_tally) ≡ fresh_counts starts k
none_tallied starts k W =
    let w = sum_none (λ (t : Tally). t.won) W no_tally refl in
    let f = sum_none (λ (t : Tally). t.followed) W no_tally refl in
    let h = sum_none (λ (t : Tally). t.handed) W no_tally refl in
    let z : starts + 0 ≡ starts = omega arith in
    rw (w, f, h, z) refl

-- a worker that begins with so many references, its runs in a top and a stretch, the first leading to a target
abbrev pub first_block : ℕ → Top → ℕ → Block
first_block carried t target =
    record { status = 5; cell = 0; since = 0; batch = 0; carried = carried; used = t.used; first = t.first; end = t.end; target = target }

no_runs : (rs : List Run) → carried rs ≡ 0 → rs ≡ []
no_runs [] e = refl
no_runs (r ∷ rs) e = absurd (omega (arith, length_carried (r ∷ rs)))

some_runs : (rs : List Run) → 0 < length rs → with_runs rs ≡ busy empty 0 poll rs
some_runs [] h = absurd (omega arith)
some_runs (r ∷ rs) h = refl

first_is : (G : Graph) (rs : List Run) (t : Top) (s : List ℕ) → Told rs t s → 0 < length rs → (c : ℕ) → c ≡ carried rs
    → BlockIs G (busy empty 0 poll rs) (first_block c t (get_or G.targets t.first 0)) s
first_is G [] t s d h c e = absurd (omega arith)
first_is G (run f j ∷ rs) t s d h c e =
    record {
      status = refl;
      cell = refl;
      since = refl;
      batch = refl;
      carrying = record { number = omega (arith, e); told = d };
      target = ap (λ (x : Top). get_or G.targets x.first 0) d.top;
    }

first_target : (G : Graph) (rs : List Run) (t : Top) (s : List ℕ) → Told rs t s → 0 < length rs → Every (InTargets G) rs
    → t.first < length G.targets
first_target G [] t s d h e = absurd (omega arith)
first_target G (run f j ∷ rs) t s d h e = omega (arith, ap (λ (x : Top). x.first) d.top, e.0)

module _ {offsets targets starts : List ℕ} {g : Setup} {marks regs : List ℕ} (x : Startable offsets targets starts g marks regs) where
  abbrev G : Graph
  G = graph offsets targets

  abbrev runs : List Run
  runs = runs_from G starts

  -- the state before the first turn
  abbrev begin : State
  begin = start G starts g.workers

  some_workers : suc (g.workers - 1) ≡ g.workers
  some_workers = omega (arith, x.accepted.some_worker)

  -- every worker is idle
  idle_holds : (starts k : ℕ) (s : State) → {marks' tallies : List ℕ} → marks' ≡ s.marks → tallies ≡ tallies_words s.tallies → s.workers ≡ idle ∷ replicate (g.workers - 1) idle
      → counts_of (fresh_progress starts k g.workers) s.tallies ≡ s.counts → s.ring ≡ fresh_ring g.workers → ((b : ℕ) → get_or s.rested b 0 ≡ 0) → (work : List ℕ) → length work ≡ g.workers * g.stretch
      → Holds G g s (memory marks' work tallies regs (fresh_progress starts k g.workers))
  unfolding sum
  idle_holds starts k s ma ta ws co ri rs work long =
      record {
        marks_are = ma;
        tallies_are = ta;
        counts_are = co;
        running_is = rw ws (omega (arith, idle_running (g.workers - 1), some_workers));
        ring_is = rw ri (fresh_words g.workers);
        regs_long = ap length x.regs_are ∙ length-replicate {A = ℕ} (9 * g.workers) 0;
        work_long = long;
        each = λ b h.
            let w : get_or s.workers b ended ≡ idle =
            rw ws (get_or-replicate (suc (g.workers - 1)) b idle ended (omega (arith, some_workers))) in
            rw (w, x.regs_are) (get_or-replicate {A = ℕ} (9 * g.workers) (9 * b) 0 0 (omega arith));
        rests = λ b h.
            let w : get_or s.workers b ended ≡ idle =
            rw ws (get_or-replicate (suc (g.workers - 1)) b idle ended (omega (arith, some_workers))) in
            rw (w, x.regs_are) (get_or-replicate {A = ℕ} (9 * g.workers) (9 * b + 3) 0 0 (omega arith) ∙ sym (rs b));
      }

  pub first_room : Room regs 0
  first_room =
      record {
        low = omega arith;
        long = omega (arith, ap length x.regs_are, length-replicate {A = ℕ} (9 * g.workers) 0, x.accepted.some_worker);
      }

  begin_workers : (w : Worker) → with_runs runs ≡ w → begin.workers ≡ w ∷ replicate (g.workers - 1) idle
  unfolding start
  begin_workers w e = ap (λ (y : Worker). y ∷ replicate (g.workers - 1) idle) e

  -- worker 0's stretch
  module _ (s : List ℕ) (fits : length s ≡ g.stretch) where
    pub gather_ready : {marks₁ : List ℕ} → length marks₁ ≡ length marks → Gatherable offsets starts marks₁ s
    gather_ready e =
        record {
          graph = G;
          workers = g.workers;
          setting = _;
          accepted = x.accepted;
          offsets_are = refl;
          objects_limit = x.objects_limit;
          references_limit = x.references_limit;
          marks_long = e ∙ x.marks_long;
          long = fits ∙ x.stretch_is;
        }

    -- all starts are gathered
    module _ {marks₁ marks₂ s₁ : List ℕ} {t : Gathered} (ml : length marks₁ ≡ length marks) (all : Gathers offsets starts marks₁ s marks₂ s₁ t) where
      d : IsGathered G starts marks₂ s₁ t
      unfolding gather_ready
      d = all (gather_ready ml)

      begin_marks : marks₂ ≡ begin.marks
      unfolding start
      begin_marks = d.marks_are

      -- the counts, where so many workers carry
      begin_counts : (k : ℕ) → k ≡ carries? (with_runs runs)
          → counts_of (fresh_progress t.live k g.workers) begin.tallies ≡ begin.counts
      unfolding start
      begin_counts k e =
          none_tallied t.live k g.workers
          ∙ ap (λ (l : ℕ). fresh_counts l k) (d.live_is ∙ ap live d.marks_are)
          ∙ ap (λ (c : ℕ). fresh_counts (live begin.marks) c) e

      -- no tally counts anything
      begin_tallies : {tallies : List ℕ} → tallies ≡ replicate (g.workers * 4) 0 → tallies ≡ tallies_words begin.tallies
      unfolding start tallies_words
      begin_tallies e = e ∙ sym (laid_replicate tally_words no_tally g.workers 4 0 refl)

      -- nobody has followed anything
      begin_rested : (b : ℕ) → get_or begin.rested b 0 ≡ 0
      unfolding start
      begin_rested b = none_marked g.workers b

      -- the ring is fresh
      begin_ring : begin.ring ≡ fresh_ring g.workers
      unfolding start
      begin_ring = refl

      -- none has references
      pub begin_none : t.carried ≡ 0 → StretchStarted offsets targets starts g marks₂ s₁ regs (fresh_progress t.live 0 g.workers)
      unfolding carried sum
      begin_none z work long is tallies zeros =
          let none : runs ≡ [] = no_runs runs (sym d.carried_is ∙ z) in
          idle_holds t.live 0 begin begin_marks (begin_tallies zeros) (begin_workers idle (ap with_runs none))
          (begin_counts 0 (sym (ap (λ (rs : List Run). carries? (with_runs rs)) none))) begin_ring begin_rested work long

      module _ (h : t.carried ≢ 0) (sl : length s₁ ≡ length s) where
        some : 0 < length runs
        some = carried_length runs (omega (arith, d.carried_is, h))

        pub lower_ready : Lowerable s₁ t.at
        lower_ready = record { runs = runs; ends = d.ends; some = some; small = omega (arith, sl, fits, x.stretch_is, x.objects_limit) }

        -- the runs stand at the beginning of the stretch
        module _ {s₂ : List ℕ} {top : Top} (l : Lowered s₁ t.at s₂ top) where
          told : Told runs top s₂
          told = l.told runs d.ends some

          pub first_inside : top.first < length targets
          first_inside = first_target G runs top s₂ told some (start_inside x.accepted)

          pub begin_some : (regs₁ : List ℕ) → regs₁ ≡ store_at regs 0 (first_block t.carried top (get_or targets top.first 0))
              → StretchStarted offsets targets starts g marks₂ s₂ regs₁ (fresh_progress t.live 1 g.workers)
          begin_some regs₁ er work long is tallies zeros =
              let c = counts_of (fresh_progress t.live 1 g.workers) [] in
              let counted : carries? (with_runs runs) ≡ 1 = ap carries? (some_runs runs some) ∙ set_some (carried runs) (omega (arith, d.carried_is, h)) in
              let s₀ : State = record { marks = []; workers = idle ∷ replicate (g.workers - 1) idle; rested = []; ring = fresh_ring g.workers; tallies = []; counts = c } in
              let r = first_block t.carried top (get_or targets top.first 0) in
              let st : Stored regs 0 r regs₁ = rw er (store_stored regs 0 first_room.long r) in
              hold_one (idle_holds t.live 1 s₀ refl refl refl refl refl (λ b. refl) work long) (ap suc (length-replicate (g.workers - 1) idle) ∙ some_workers) 0
              (omega (arith, x.accepted.some_worker)) refl (busy empty 0 poll runs) work st refl (all_same g.workers g.stretch 0 work)
              (rw is (first_is G runs top s₂ told some t.carried d.carried_is))
              refl {s' = begin} (begin_workers (busy empty 0 poll runs) (some_runs runs some)) begin_marks
              (begin_tallies zeros)
              (begin_counts 1 (sym counted))
              (rw begin_ring (fresh_words g.workers))
              (λ i k. begin_rested i)
              tt

-- ---- worker 0's stretch in the work memory

module _ (g : Setup) (work : List ℕ) (some : 1 ≤ g.workers) (long : length work ≡ g.workers * g.stretch) where
  -- the first stretch of the work memory, and the memory with it written anew
  abbrev first : List ℕ
  first = take g.stretch work

  abbrev anew : List ℕ → List ℕ
  anew s = s ++ drop g.stretch work

  pub first_within : g.stretch ≤ length work
  first_within = omega (arith, long, mul-le-mul_right g.stretch some)

  pub first_long : length first ≡ g.stretch
  first_long = length-take-le g.stretch work first_within

  module _ (s : List ℕ) (same : length s ≡ length first) where
    pub anew_long : length (anew s) ≡ length work
    anew_long = rw (length-append, length-drop) (omega (arith, same, first_long, first_within))

    anew_first : stretch_at g.stretch 0 (anew s) ≡ s
    anew_first = let e : 0 * g.stretch ≡ 0 = omega arith in rw e (take_at s (drop g.stretch work) g.stretch (same ∙ first_long))

    -- the start in the first stretch is the start in the work memory
    pub started : (offsets targets starts marks regs : List ℕ) (p : Progress) → StretchStarted offsets targets starts g marks s regs p
        → Started offsets targets starts g marks (anew s) regs p
    started offsets targets starts marks regs p h = h (anew s) (anew_long ∙ long) anew_first
