-- From the checks to the stages, and from the stages to the answer.
use mathlib.Core.Path.{◌≡◌, refl, sym, ap, ◌∙◌}
use mathlib.Core.List.{List, ◌∷◌}
use Prim.Native.Nat.{ℕ, zero, suc, ◌*◌, ◌≤◌, ◌<◌, ◌^◌}
use native.Mathlib.Omega.{arith}
use lib.ListN.{length, replicate, take}
use lib.Dec.{eqb}
use lib.Seq.{length-take-le}
use Rattle.refusal.specs.declared.Refusal.{Refusal}
use Rattle.std.specs.Prelude.{Result, Ok, Err, Option}
use Rattle.refusal.specs.Number.{number}
use Rattle.refusal.proofs.Numbers.{numbered}
use Rattle.graph.specs.Graph.{Graph, objects}
use Rattle.desk.specs.declared.Lengths.{Lengths}
use Rattle.desk.specs.Kept.{unless_refused}
use Rattle.machine.specs.Machine as machine
use Rattle.machine.specs.Machine.{State, start, entries, all_ended, result}
use Rattle.machine.specs.Tally.{tallies_words}
use Rattle.machine.specs.Row.{refused_row}
use Rattle.machine.specs.Sound.{Sound}
use Rattle.machine.specs.Call.{Call, graph_of, fault, final, lengths, answer_for}
use Rattle.machine.specs.Checked.{Checked}
use Rattle.theorems.proofs.Accept.{checked}
use Rattle.theorems.proofs.Facts.{runs_room}
use Rattle.theorems.proofs.Start.{sound_start, sound_turns}
use Rattle.theorems.proofs.Collected.{collected}
use Rattle.worker.specs.Registers.{block_words, register_words}
use Rattle.step.specs.declared.Setup.{Setup}
use Rattle.step.specs.declared.Progress.{Progress}
use Rattle.step.specs.Counting.{Countable}
use Rattle.step.specs.Held.{Memory, memory, setting_of, Holds}
use Rattle.step.specs.Turned.{Ready}
use Rattle.step.proofs.Counting.{countable}
use Rattle.marker.specs.declared.Marked.{Marked}
use Rattle.marker.specs.Answer.{row, Finds, Answered}
use Rattle.marker.specs.Stages.{IsScheduled, scheduled, Settling, Settled, setup_of, Runnable, Leaves, Runs, row_of}
use Rattle.marker.specs.Starting.{Startable, Started}
use Rattle.marker.proofs.Loop.{all_ended_lem, handed_fits, entries_few}

-- ---- after the turns, from any state

module _ {g : Setup} {offsets targets schedule : List ℕ} {μ : Memory} (R : Ready (IsScheduled g offsets targets schedule) g μ) where
  abbrev s : State
  s = scheduled g schedule R.graph R.state

  sound_after : Sound R.graph R.scene.starts g.workers (setting_of g) s
  sound_after = sound_turns R.scene.accepted R.scene.sound (entries schedule)

  module _ {marks work tallies regs : List ℕ} {p : Progress} (h : Holds R.graph g s (memory marks work tallies regs p)) where
    pub settle_ready : Settling g.workers g.stretch work regs
    settle_ready =
        record {
          graph = R.graph;
          workers = s.workers;
          count = sound_after.sized.workers_length;
          few = R.scene.accepted.workers_limit;
          objects_limit = R.scene.objects_limit;
          stretch_is = R.scene.stretch_is;
          regs_long = h.regs_long;
          work_long = h.work_long;
          each = h.each;
          room = runs_room R.scene.accepted sound_after;
        }

    -- the stretches are written out
    pub leaves : {work' : List ℕ} → Settled g.workers g.stretch work regs work' → Leaves R.graph g s (memory marks work' tallies regs p)
    unfolding settle_ready
    leaves d =
        record {
          unsettled = work;
          held = h;
          work_is = d settle_ready;
          countable = countable R.scene.accepted sound_after R.scene.objects_limit R.scene.references_limit (handed_fits R) h;
          counted = refl;
        }

-- the answer is the state's
pub row_left : {G : Graph} {g : Setup} {s : State} {μ : Memory} → Leaves G g s μ → (r : Marked)
    → ((x : Countable μ.tallies g.workers μ.progress) → row (Ok r) ≡ row_of μ.progress x.tallies) → row (Ok r) ≡ result s
row_left {s = s} {μ} l r e =
    let f : eqb μ.progress.running 0 ≡ all_ended s.workers = ap (λ (k : ℕ). eqb k 0) l.held.running_is ∙ all_ended_lem s.workers in
    e l.countable ∙ rw (l.counted, f, l.held.counts_are) refl

-- ---- a call without a fault, from the start

module _ {c : Call} {marks work tallies regs : List ℕ} (x : Runnable c marks work tallies regs) where
  module _ {g : Setup} (is : g ≡ setup_of c) where
    pub start_ready : Startable c.offsets c.targets c.starts g marks regs
    start_ready =
        record {
          accepted = rw is x.passed.accepted;
          objects_limit = x.passed.objects_limit;
          references_limit = x.passed.references_limit;
          stretch_is = ap (λ (h : Setup). h.stretch) is;
          marks_long = x.passed.marks_exact;
          regs_are = rw is x.regs_are;
        }

    pub work_long : length work ≡ g.workers * g.stretch
    work_long = rw is x.passed.work_exact

    -- the state after the turns is the call's
    pub run_leaves : {μ : Memory} → Leaves (graph_of c) g (scheduled g c.schedule (graph_of c) (start (graph_of c) c.starts g.workers)) μ → Runs c μ
    run_leaves l = rw is at l

    -- after the start, with the tallies cleared
    module _ {marks₁ work₁ tallies₁ regs₁ : List ℕ} {p₁ : Progress} (d : Started c.offsets c.targets c.starts g marks₁ work₁ regs₁ p₁)
        (z₁ : tallies₁ ≡ replicate (length tallies) 0) (short : length c.schedule < 2 ^ 64) where
      unfoldable pub turns_ready : Ready (IsScheduled g c.offsets c.targets c.schedule) g (memory marks₁ work₁ tallies₁ regs₁ p₁)
      unfolding start
      turns_ready =
          record {
            graph = graph_of c;
            state = start (graph_of c) c.starts g.workers;
            scene =
                record {
                  starts = c.starts;
                  accepted = rw is x.passed.accepted;
                  sound = rw is (sound_start x.passed.accepted);
                  objects_limit = x.passed.objects_limit;
                  references_limit = x.passed.references_limit;
                  stretch_is = ap (λ (h : Setup). h.stretch) is;
                  handed_room = omega arith;
                  moved_room = omega arith;
                };
            holds = d tallies₁ (z₁ ∙ rw is (ap (λ (k : ℕ). replicate {A = ℕ} k 0) x.passed.tallies_exact));
            here =
                record {
                  graph_is = refl;
                  fits = rw is x.passed.schedule_fitting;
                  handed_room = omega (arith, entries_few c.schedule, short);
                  moved_room = omega (arith, entries_few c.schedule, short);
                };
          }

-- ---- the registers, all zero

zeros_front : (k m : ℕ) → k ≤ m → take {A = ℕ} k (replicate m 0) ≡ replicate k 0
zeros_front zero m h = refl
zeros_front (suc k) zero h = absurd (omega arith)
zeros_front (suc k) (suc m) h = ap (λ (t : List ℕ). 0 ∷ t) (zeros_front k m (omega arith))

module _ {c : Call} {g : Setup} (is : g ≡ setup_of c) where
  pub registers_room : {l : Lengths} → Checked c l → block_words * g.workers ≤ register_words
  registers_room x = rw is (omega (arith, x.accepted.workers_limit))

  pub registers_long : {l : Lengths} → Checked c l
      → block_words * g.workers ≡ length (take {A = ℕ} (block_words * g.workers) (replicate register_words 0))
  registers_long x = sym (length-take-le (block_words * g.workers) (replicate register_words 0) (omega (arith, registers_room x)))

  pub runnable : (marks work tallies : List ℕ) {saved : Option ℕ}
      → Checked c (record { marks = length marks; work = length work; tallies = length tallies; saved = saved })
      → Runnable c marks work tallies (take (block_words * g.workers) (replicate register_words 0))
  runnable marks work tallies {saved} x =
      rw is
      (record { saved = saved; passed = x; regs_are = zeros_front (block_words * c.workers) register_words (omega (arith, x.accepted.workers_limit)) })

-- ---- the promise

module _ (c : Call) (marks work tallies : List ℕ) where
  -- what the call leaves, by the number k of the fault
  abbrev Gives : ℕ → Result Marked Refusal → List ℕ → List ℕ → List ℕ → Type 0
  Gives k r marks' work' tallies' =
      (row r ≡ answer_for k c)
      × ((marks' ≡ unless_refused k (final c).marks marks)
      × ((work' ≡ unless_refused k (machine.memory (objects (graph_of c)) (final c).workers) work)
      × (tallies' ≡ unless_refused k (tallies_words (final c).tallies) tallies)))

  promised : {r : Result Marked Refusal} {marks' work' tallies' : List ℕ} → Gives (fault c (length marks) (length work) (length tallies)) r marks' work' tallies'
      → Answered c marks work tallies r marks' work' tallies'
  promised l =
      record {
        row_is = l.0;
        marks_are = l.1.0;
        work_is = l.1.1.0;
        tallies_are = l.1.1.1;
        promise = λ e.
            rw (rw e at l.0, rw e at l.1.0) (collected (checked c (lengths (length marks) (length work) (length tallies)) e).accepted (entries c.schedule));
      }

  -- any other number than 0 is a refusal, and the buffers stay
  refused : (cause : Refusal) (k : ℕ) → number cause ≡ k → Gives k (Err cause) marks work tallies
  refused cause zero e = absurd (omega (arith, numbered cause))
  refused cause (suc k) e = (ap refused_row e, (refl, (refl, refl)))

module _ {A : Type 0} {c : Call} {marks work tallies : List ℕ} where
  -- by what the checks find
  pub answered_refused : {cause : Refusal} → Finds {A = A} (Err cause) c (lengths (length marks) (length work) (length tallies))
      → Answered c marks work tallies (Err cause) marks work tallies
  answered_refused {cause} found =
      promised c marks work tallies (refused c marks work tallies cause (fault c (length marks) (length work) (length tallies)) found.number_is)

  pub answered_fine : {a : A} → Finds (Ok a) c (lengths (length marks) (length work) (length tallies))
      → {marks' work' tallies' regs' : List ℕ} {p : Progress} → Runs c (memory marks' work' tallies' regs' p)
      → {g : Setup} → g ≡ setup_of c → {r : Marked} → ((x : Countable tallies' g.workers p) → row (Ok r) ≡ row_of p x.tallies)
      → Answered c marks work tallies (Ok r) marks' work' tallies'
  answered_fine found d is {r} f =
      promised c marks work tallies (rw (sym found.number_is) (row_left d r (rw is at f), (d.held.marks_are, (d.work_is, d.held.tallies_are))))

-- the checks that find nothing are passed
pub passed : {A : Type 0} {c : Call} {l : Lengths} {a : A} → Finds (Ok a) c l → Checked c l
passed {c = c} {l} found = checked c l (sym found.number_is)
