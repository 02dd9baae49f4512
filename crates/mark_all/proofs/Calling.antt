-- The call from its checks to its answer: it is the marker's with enough rounds.
use Prim.Native.Nat.{ℕ, ◌*◌, ◌≤◌, ◌<◌, ◌^◌}
use mathlib.Core.Path.{◌≡◌, refl, ap, subst, ◌∙◌}
use mathlib.Core.List.{List, []}
use native.Mathlib.Nat.{mul-le-mul_left}
use native.Mathlib.Omega.{arith}
use lib.ListN.{length, replicate}
use Rattle.refusal.specs.declared.Refusal.{Refusal}
use Rattle.std.specs.Prelude.{Result, Ok, Err}
use Rattle.refusal.proofs.Numbers.{numbered}
use Rattle.graph.specs.Chain.{leaving_reached}
use Rattle.desk.specs.declared.Lengths.{Lengths}
use Rattle.desk.specs.Checks.{schedule_fits}
use Rattle.machine.specs.Machine.{start}
use Rattle.machine.specs.Row.{Row}
use Rattle.machine.specs.Demand3.{stretch_bound}
use Rattle.machine.specs.Call.{Call, scheduled_by, graph_of, first_fault, lengths}
use Rattle.theorems.proofs.Demand3.{reached_limit}
use Rattle.step.specs.declared.Setup.{Setup}
use Rattle.step.specs.declared.Progress.{Progress}
use Rattle.step.specs.Counting.{Countable}
use Rattle.step.specs.Held.{memory, Holds}
use Rattle.step.specs.Turned.{Ready}
use Rattle.marker.specs.declared.Marked.{Marked}
use Rattle.marker.specs.Answer.{row, Finds}
use Rattle.marker.specs.Stages.{IsScheduled, scheduled, setup_of, Runnable, Runs, row_of, Settled, Settling}
use Rattle.marker.specs.Starting.{Started}
use Rattle.marker.proofs.Stages.{turns_ready, settle_ready, leaves, run_leaves, row_left, passed, answered_refused, answered_fine}
use Rattle.rounds.specs.Whole.{enough_rounds, whole_of, AllMarked, IsStart, DoesRounds}
use Rattle.rounds.proofs.Rounds.{rounds_fit, rounds_long, enough_end}

-- ---- the checks

-- rounds are no fault
fault_whole : (c : Call) (l : Lengths) → first_fault (scheduled_by [] c) l ≡ first_fault (whole_of c) l
unfolding first_fault schedule_fits
fault_whole c l = rw (rounds_fit c.workers (stretch_bound (leaving_reached (graph_of c) c.starts) c.workers)) refl

pub finds_whole : {A : Type 0} {v : Result A Refusal} (c : Call) {l : Lengths} → Finds v (scheduled_by [] c) l → Finds v (whole_of c) l
finds_whole c {l} f = record { number_is = f.number_is ∙ fault_whole c l }

-- ---- the turns

module _ (c : Call) {marks work tallies regs : List ℕ} (x : Runnable (whole_of c) marks work tallies regs) {g : Setup} (is : g ≡ setup_of c) where
  -- the rounds are no longer than a word can say
  pub short : length (whole_of c).schedule < 2 ^ 64
  short =
      let k = stretch_bound (leaving_reached (graph_of c) c.starts) c.workers in
      let m : k * (2 * c.workers) ≤ k * 32 = mul-le-mul_left k (omega (arith, x.passed.accepted.workers_limit)) in
      omega (arith, rounds_long c.workers k, m, reached_limit x.passed.accepted, x.passed.references_limit, x.passed.accepted.workers_limit)

  module _ {marks₁ work₁ tallies₁ regs₁ : List ℕ} {p₁ : Progress} (d : Started c.offsets c.targets c.starts g marks₁ work₁ regs₁ p₁)
      (z₁ : tallies₁ ≡ replicate (length tallies) 0) where
    abbrev ready : Ready (IsScheduled g c.offsets c.targets (whole_of c).schedule) g (memory marks₁ work₁ tallies₁ regs₁ p₁)
    ready = turns_ready x is d z₁ short

    unfoldable pub begun_ready : Ready (IsStart g c.offsets c.targets) g (memory marks₁ work₁ tallies₁ regs₁ p₁)
    unfolding turns_ready
    begun_ready =
        record {
          graph = ready.graph;
          state = ready.state;
          scene = ready.scene;
          holds = ready.holds;
          here = record { graph_is = refl; starts = c.starts; accepted = ready.scene.accepted; state_is = refl };
        }

    module _ {marks₂ work₂ tallies₂ regs₂ : List ℕ} {p₂ : Progress}
        (t : DoesRounds g c.offsets c.targets (memory marks₁ work₁ tallies₁ regs₁ p₁) (memory marks₂ work₂ tallies₂ regs₂ p₂)) where
      held : Holds ready.graph g (scheduled g (whole_of c).schedule ready.graph ready.state) (memory marks₂ work₂ tallies₂ regs₂ p₂)
      unfolding turns_ready begun_ready
      held =
          subst
          (λ (W : ℕ). Holds (graph_of c) g (scheduled g (enough_rounds (graph_of c) c.starts W) (graph_of c) (start (graph_of c) c.starts g.workers))
          (memory marks₂ work₂ tallies₂ regs₂ p₂))
          (ap (λ (h : Setup). h.workers) is) (t begun_ready)

      pub whole_settle : Settling g.workers g.stretch work₂ regs₂
      whole_settle = settle_ready ready held

      pub whole_runs : {work₃ : List ℕ} → Settled g.workers g.stretch work₂ regs₂ work₃ → Runs (whole_of c) (memory marks₂ work₃ tallies₂ regs₂ p₂)
      unfolding turns_ready
      whole_runs s = run_leaves x is (leaves ready held s)

-- ---- the answer

module _ {A : Type 0} (c : Call) {marks work tallies : List ℕ} where
  pub all_refused : {cause : Refusal} → Finds {A = A} (Err cause) (scheduled_by [] c) (lengths (length marks) (length work) (length tallies))
      → AllMarked c marks work tallies (Err cause) marks work tallies
  all_refused {cause} found =
      record {
        answered = answered_refused (finds_whole c found);
        finished = λ z. absurd (omega (arith, numbered cause, z));
      }

  pub all_fine : {a : A} → Finds (Ok a) (scheduled_by [] c) (lengths (length marks) (length work) (length tallies))
      → {marks' work' tallies' regs' : List ℕ} {p : Progress} → Runs (whole_of c) (memory marks' work' tallies' regs' p)
      → {g : Setup} → g ≡ setup_of c → {r : Marked} → ((x : Countable tallies' g.workers p) → row (Ok r) ≡ row_of p x.tallies)
      → AllMarked c marks work tallies (Ok r) marks' work' tallies'
  all_fine found d is f =
      record {
        answered = answered_fine (finds_whole c found) d is f;
        finished = λ z. ap (λ (q : Row). q.finished) (row_left d _ (rw is at f)) ∙ enough_end (passed (finds_whole c found)).accepted;
      }
