-- SPECIFICATION 6: a schedule of so many stretches finishes.
use Rattle.std.specs.Prelude.{◌≡◌, true, List, ℕ, ◌≤◌, length}
use Rattle.graph.specs.Chain.{leaving_reached}
use Rattle.desk.specs.declared.Lengths.{Lengths}
use Rattle.machine.specs.Call.{Call, graph_of, scheduled_by, first_fault, fault, marking}
use Rattle.machine.specs.Demand3.{stretch_bound}

-- what a schedule of k stretches for W workers brings about
pub record Finishes (W k : ℕ) (schedule : List ℕ) : Type 0 where
  -- a call without a fault has none with this schedule either
  pub faultless : (c : Call) (l : Lengths) → c.workers ≡ W → first_fault c l ≡ 0 → first_fault (scheduled_by schedule c) l ≡ 0
  -- and is finished, where there are as many stretches as finish, or more
  pub finishes : (c : Call) (marks work tallies : List ℕ) → c.workers ≡ W
      → fault c (length marks) (length work) (length tallies) ≡ 0
      → stretch_bound (leaving_reached (graph_of c) c.starts) W ≤ k
      → (marking (scheduled_by schedule c) marks work tallies).finished ≡ true
