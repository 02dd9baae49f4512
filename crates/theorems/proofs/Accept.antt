-- A call without a fault is accepted.
use mathlib.Core.Path.{◌≡◌, refl}
use mathlib.Core.Bool.{true}
use mathlib.Core.List.{List, [], ◌∷◌}
use mathlib.Core.Logic.{by_cases}
use Prim.Native.Nat.{ℕ, zero, suc, ◌<◌}
use native.Mathlib.Decide.{dec_lt}
use native.Mathlib.Omega.{arith}
use lib.Dec.{ltb}
use borrow.Author.Tests.{ltb-true, not-false}
use Rattle.laws.specs.Sum.{sum, hit}
use Rattle.laws.proofs.Sum.{hit_equal}
use Rattle.refusal.specs.Order.{first}
use Rattle.refusal.proofs.None.{raise_none, first_none}
use Rattle.graph.specs.Graph.{objects, all_below}
use Rattle.graph.proofs.Formed.{both_true}
use Rattle.desk.specs.declared.Lengths.{Lengths}
use Rattle.desk.specs.Checks.{setting_fault, count_fault, buffer_fault, store_fault, schedule_fits, schedule_fault}
use Rattle.desk.proofs.Passed.{settled, counted, exact, stored}
use Rattle.machine.specs.Checked.{Checked}
use Rattle.machine.specs.Call.{Call, graph_of, scheduled_by, first_fault}

-- a number of the list, all of which are below n
starts_low : (n : ℕ) (vs : List ℕ) → all_below n vs ≡ true → (v : ℕ) → 0 < sum (hit v) vs → v < n
unfolding sum all_below
starts_low n [] h v q = absurd (omega arith)
starts_low n (u ∷ vs) h v q =
    let b = both_true (ltb u n) (all_below n vs) h in
    by_cases (dec_lt 0 (hit v u))
    (λ (p : 0 < hit v u). omega (arith, hit_equal v u p, ltb-true u n b.0))
    (λ (p : ¬ (0 < hit v u)). starts_low n vs b.1 v (omega arith))

-- a call without a fault passes
pub checked : (c : Call) (l : Lengths) → first_fault c l ≡ 0 → Checked c l
unfolding first_fault
checked c l e =
    let f8 = first_none (setting_fault c.workers c.batch c.cutoff) _ e in
    let f4 = first_none (count_fault c.offsets c.targets) _ f8.1 in
    let f7 = first_none (buffer_fault (objects (graph_of c)) c.workers l) _ f4.1 in
    let f10 = first_none (store_fault c.offsets c.targets c.starts) _ f7.1 in
    let s = settled c.workers c.batch c.cutoff f8.0 in
    let n = counted c.offsets c.targets f4.0 in
    let b = exact (objects (graph_of c)) c.workers l f7.0 in
    let g = stored c.offsets c.targets c.starts f10.0 in
    record {
      accepted =
          record {
            formed = g.formed;
            some_object = n.0;
            some_worker = s.some_worker;
            workers_limit = s.workers_limit;
            some_batch = s.some_batch;
            batch_limit = s.batch_limit;
            some_cutoff = s.some_cutoff;
            cutoff_limit = s.cutoff_limit;
            starts_below = starts_low (objects (graph_of c)) c.starts g.inside;
          };
      offsets_some = omega (arith, n.0);
      objects_limit = n.1;
      references_limit = n.2;
      marks_exact = b.marks;
      work_exact = b.work;
      tallies_exact = b.tallies;
      saved_exact = b.saved;
      starts_few = g.starts_few;
      schedule_fitting = not-false _ (raise_none _ 8 0 f10.1).0;
    }

-- where neither finds a fault, both in a row find none
none_both : (k later : ℕ) → k ≡ 0 → later ≡ 0 → first k later ≡ 0
none_both zero later e f = f
none_both (suc k) later e f = absurd (omega arith)

-- another schedule that fits brings no fault
pub fault_scheduled : (c : Call) (b : Lengths) → first_fault c b ≡ 0 → (l : List ℕ) → schedule_fits c.workers l ≡ true → first_fault (scheduled_by l c) b ≡ 0
unfolding first_fault
fault_scheduled c b e l fits =
    let f8 = first_none (setting_fault c.workers c.batch c.cutoff) _ e in
    let f4 = first_none (count_fault c.offsets c.targets) _ f8.1 in
    let f7 = first_none (buffer_fault (objects (graph_of c)) c.workers b) _ f4.1 in
    let f10 = first_none (store_fault c.offsets c.targets c.starts) _ f7.1 in
    let f9 : schedule_fault c.workers l ≡ 0 = rw fits refl in
    none_both _ _ f8.0 (none_both _ _ f4.0 (none_both _ _ f7.0 (none_both _ _ f10.0 f9)))
