-- A schedule that is cut into stretches finishes, if they are enough: a cut into more stretches is one into fewer, and as many
-- as demand 3 asks finish.
use mathlib.Core.Path.{◌≡◌, ◌∙◌}
use mathlib.Core.Bool.{true}
use mathlib.Core.List.{List, [], ◌∷◌, ◌++◌, append_assoc}
use mathlib.Core.Logic.{by_cases}
use Prim.Native.Nat.{ℕ, zero, suc, ◌≤◌}
use native.Mathlib.Decide.{dec_le}
use native.Mathlib.Omega.{arith}
use lib.ListN.{length}
use Rattle.laws.specs.Blocks.{laid}
use Rattle.laws.specs.Sum.{hit}
use Rattle.laws.proofs.Sum.{sum_append}
use Rattle.graph.specs.Chain.{leaving_reached}
use Rattle.machine.specs.Machine.{Entry, entries}
use Rattle.desk.specs.Checks.{schedule_fits}
use Rattle.machine.specs.Call.{graph_of, scheduled_by, lengths}
use Rattle.machine.specs.Demand3.{stretch_bound, AllHave, joined, Cut}
use Rattle.theorems.specs.Finishing.{Finishes}
use Rattle.theorems.proofs.Accept.{checked, fault_scheduled}
use Rattle.theorems.proofs.Demand3.{demand3}

-- ---- a cut into fewer stretches: the first two become one

joined_two : (xs ys : List Entry) (xss : List (List Entry)) → joined ((xs ++ ys) ∷ xss) ≡ joined (xs ∷ ys ∷ xss)
unfolding joined laid
joined_two xs ys xss = append_assoc xs ys (joined xss)

fewer : (W k : ℕ) (xs : List Entry) → Cut W (suc (suc k)) xs → Cut W (suc k) xs
fewer W k xs c = shorter c.stretches c.number c.whole c.each
  where
    shorter : (xss : List (List Entry)) → length xss ≡ suc (suc k) → joined xss ≡ xs → AllHave W xss → Cut W (suc k) xs
    shorter [] n w h = absurd (omega arith)
    shorter (x ∷ []) n w h = absurd (omega arith)
    shorter (x ∷ y ∷ xss) n w h =
        record {
          stretches = (x ++ y) ∷ xss;
          number = omega arith;
          whole = joined_two x y xss ∙ w;
          each = (λ b g. omega (arith, sum_append (λ (e : Entry). hit b e.worker) x y, h.0 b g), h.1.1);
        }

at_least : (W k j : ℕ) (xs : List Entry) → Cut W k xs → 1 ≤ j → j ≤ k → Cut W j xs
at_least W zero j xs c h g = absurd (omega arith)
at_least W (suc zero) j xs c h g = let e : j ≡ 1 = omega arith in rw e c
at_least W (suc (suc k)) j xs c h g =
    by_cases (dec_le j (suc k))
    (λ (p : j ≤ suc k). at_least W (suc k) j xs (fewer W k xs c) h p)
    (λ (p : ¬ (j ≤ suc k)). let e : j ≡ suc (suc k) = omega arith in rw e c)

-- ---- so it finishes

pub cut_finishes : {W k : ℕ} {schedule : List ℕ} → Cut W k (entries schedule) → schedule_fits W schedule ≡ true → Finishes W k schedule
cut_finishes {W} {k} {schedule} cut fit =
    record {
      faultless = λ c l e f. fault_scheduled c l f schedule (rw e fit);
      finishes = λ c marks work tallies e f g.
          let enough = at_least W k (stretch_bound (leaving_reached (graph_of c) c.starts) W) (entries schedule) cut (omega arith) g in
          let none = fault_scheduled c (lengths (length marks) (length work) (length tallies)) f schedule (rw e fit) in
          rw none ((demand3 (checked (scheduled_by schedule c) (lengths (length marks) (length work) (length tallies)) none).accepted (entries schedule)).finishes (rw e enough));
    }
