-- Demand 3 is not empty: all its clauses of the row that case A's call reports on store S, and, for every call without a
-- fault, a schedule of bytes that clause 5 finishes.
use mathlib.Core.Path.{◌≡◌, refl, ap}
use mathlib.Core.Bool.{true}
use mathlib.Core.List.{List, [], ◌∷◌, ◌++◌}
use mathlib.Core.Logic.{by_cases}
use Prim.Native.Nat.{ℕ, zero, suc, ◌≤◌, ◌<◌}
use native.Mathlib.Decide.{dec_lt}
use native.Mathlib.Omega.{arith}
use borrow.Author.Tests.{lt-ltb}
use lib.ListN.{length, replicate, length-replicate}
use Rattle.laws.specs.Blocks.{laid}
use Rattle.laws.specs.Every.{Every}
use Rattle.laws.specs.Sum.{sum, hit}
use Rattle.laws.proofs.Every.{every_append}
use Rattle.laws.proofs.Sum.{hit_same}
use Rattle.graph.specs.Graph.{Graph, rising, all_below, well_formed}
use Rattle.graph.specs.Chain.{leaving_reached, marks_at}
use Rattle.machine.specs.Row.{Row}
use Rattle.machine.specs.Run.{carried, keep, rest}
use Rattle.machine.specs.Machine.{Setting, Entry, all_ended, entries, live, result, start, start_runs, turns}
use Rattle.desk.specs.Checks.{schedule_fits}
use Rattle.machine.specs.Call.{Call, graph_of, setting_of, scheduled_by, fault, first_fault, lengths, marking}
use Rattle.machine.specs.Accepted.{Accepted}
use Rattle.machine.specs.Demand2.{outcome}
use Rattle.machine.specs.Demand3.{stretch_bound, entries_of, AllHave, joined, round_of, rounds, long_schedule, Cut, Demand3}
use Rattle.machine.specs.Drawings.{S, turns_A, gives, drawing, ones}
use Rattle.theorems.proofs.Accept.{checked, fault_scheduled}
use Rattle.theorems.proofs.Demand3.{demand3}

-- ---- rounds

-- a round has a turn of every worker
in_round : (k b : ℕ) → b < k → 0 < entries_of b (entries (round_of k))
unfolding round_of entries sum
in_round zero b h = absurd (omega arith)
in_round (suc k) b h =
    by_cases (dec_lt b k)
    (λ (p : b < k). omega (arith, in_round k b p))
    (λ (p : ¬ (b < k)). let e : b ≡ k = omega arith in omega (arith, ap (hit b) e, hit_same b))

each_round : (W k : ℕ) → AllHave W (replicate k (entries (round_of W)))
each_round W zero = tt
each_round W (suc k) = (λ b h. in_round W b (omega arith), each_round W k)

-- its bytes are whole entries
round_entries : (k : ℕ) (l : List ℕ) → entries (round_of k ++ l) ≡ entries (round_of k) ++ entries l
unfolding round_of entries
round_entries zero l = refl
round_entries (suc k) l = ap (λ (xs : List Entry). record { worker = k; named = 0 } ∷ xs) (round_entries k l)

rounds_joined : (W k : ℕ) → joined (replicate k (entries (round_of W))) ≡ entries (rounds W k)
unfolding rounds joined laid entries
rounds_joined W zero = refl
rounds_joined W (suc k) =
    rw (round_entries W (rounds W k)) (ap (λ (xs : List Entry). entries (round_of W) ++ xs) (rounds_joined W k))

-- each with a worker below W, and as bytes
round_fits : (W k : ℕ) (l : List ℕ) → k ≤ W → schedule_fits W l ≡ true → schedule_fits W (round_of k ++ l) ≡ true
unfolding round_of schedule_fits
round_fits W zero l h f = f
round_fits W (suc k) l h f = rw (lt-ltb k W (omega arith), round_fits W k l (omega arith) f) refl

rounds_fit : (W k : ℕ) → schedule_fits W (rounds W k) ≡ true
unfolding rounds schedule_fits
rounds_fit W zero = refl
rounds_fit W (suc k) = round_fits W W (rounds W k) (omega arith) (rounds_fit W k)

abbrev Byte : ℕ → Type 0
Byte x = x < 256

round_bytes : (k : ℕ) → k ≤ 16 → Every Byte (round_of k)
unfolding round_of
round_bytes zero h = tt
round_bytes (suc k) h = (omega arith, (omega arith, round_bytes k (omega arith)))

rounds_bytes : (W k : ℕ) → W ≤ 16 → Every Byte (rounds W k)
unfolding rounds
rounds_bytes W zero h = tt
rounds_bytes W (suc k) h = every_append Byte (round_of W) (rounds W k) (round_bytes W h) (rounds_bytes W k h)

-- ---- every call without a fault has a schedule that finishes

-- the schedule that is long enough for a call
abbrev pub long_for : Call → List ℕ
long_for c = long_schedule (graph_of c) c.starts c.workers

pub record Finishable (c : Call) (marks work tallies : List ℕ) : Type 0 where
  pub bytes : Every Byte (long_for c)
  pub faultless : fault (scheduled_by (long_for c) c) (length marks) (length work) (length tallies) ≡ 0
  pub finished : (marking (scheduled_by (long_for c) c) marks work tallies).finished ≡ true

-- the turns of such a schedule finish
pub long_finished : {G : Graph} {starts : List ℕ} {W : ℕ} {g : Setting} → Accepted G starts W g
    → (result (outcome G starts W g (entries (long_schedule G starts W)))).finished ≡ true
unfolding long_schedule
long_finished {G} {starts} {W} A =
    let k = stretch_bound (leaving_reached G starts) W in
    let cut : Cut W k (entries (long_schedule G starts W)) = record {
      stretches = replicate k (entries (round_of W));
      number = length-replicate k (entries (round_of W));
      whole = rounds_joined W k;
      each = each_round W k;
    } in
    (demand3 A (entries (long_schedule G starts W))).finishes cut

pub long_enough : (c : Call) (marks work tallies : List ℕ) → fault c (length marks) (length work) (length tallies) ≡ 0 → Finishable c marks work tallies
unfolding long_schedule
long_enough c marks work tallies e =
    let A = (checked c (lengths (length marks) (length work) (length tallies)) e).accepted in
    let k = stretch_bound (leaving_reached (graph_of c) c.starts) c.workers in
    let none = fault_scheduled c (lengths (length marks) (length work) (length tallies)) e (long_for c) (rounds_fit c.workers k) in
    record {
      bytes = rounds_bytes c.workers k A.workers_limit;
      faultless = none;
      finished = rw none (long_finished A);
    }

-- ---- store S, case A

-- the row that case A's call reports
abbrev pub row_A : Row
row_A = gives true 4 5 1 0 18 0

abbrev pub call_A : Call
call_A = (drawing S 2 1 1 turns_A row_A).call

-- the call has no fault, reports that row, and demand 3 holds of it, where R is 5
pub record OnS : Type 0 where
  pub faultless : fault call_A 6 32 8 ≡ 0
  pub reports : marking call_A (ones 6) (ones 32) (ones 8) ≡ row_A
  pub five : leaving_reached S (0 ∷ []) ≡ 5
  pub holds : Demand3 S (0 ∷ []) 2 (setting_of call_A) (entries turns_A) row_A

faultless_A : fault call_A 6 32 8 ≡ 0
unfolding first_fault turns_A schedule_fits rising all_below well_formed
faultless_A = refl

pub on_S : OnS
unfolding turns start entries turns_A start_runs carried marks_at keep rest all_ended live leaving_reached first_fault schedule_fits rising all_below well_formed
on_S =
    record {
      faultless = faultless_A;
      reports = refl;
      five = refl;
      holds = demand3 (checked call_A (lengths 6 32 8) faultless_A).accepted (entries turns_A);
    }
