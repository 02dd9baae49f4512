-- Two calls of the marker that report finished, on one graph with the same starts: the sets of nonzero marks are equal. It follows from
-- what each call promises of itself.
use mathlib.Core.Path.{◌≡◌}
use mathlib.Core.Bool.{true}
use mathlib.Core.List.{List}
use mathlib.Core.Logic.{◌↔◌}
use Prim.Native.Nat.{ℕ, zero, suc}
use native.Mathlib.Omega.{arith}
use lib.ListN.{length}
use Rattle.std.specs.Prelude.{Result}
use Rattle.refusal.specs.declared.Refusal.{Refusal}
use Rattle.machine.specs.Sound as state
use Rattle.machine.specs.Call.{Call, graph_of, fault, answer_for}
use Rattle.marker.specs.declared.Marked.{Marked}
use Rattle.marker.specs.Answer.{row, Answered}

-- a call that reports finished has no fault
finished_faultless : {c : Call} {marks work tallies : List ℕ} {r : Result Marked Refusal} {marks' work' tallies' : List ℕ} → Answered c marks work tallies r marks' work' tallies'
    → (row r).finished ≡ true → fault c (length marks) (length work) (length tallies) ≡ 0
finished_faultless {c} {marks} {work} {tallies} {r} a done = by (fault c (length marks) (length work) (length tallies)) a.row_is
  where
    by : (k : ℕ) → row r ≡ answer_for k c → k ≡ 0
    by zero e = omega arith
    by (suc k) e = let z : ◌≡◌ {A = ℕ} 0 1 = cc in absurd (omega arith)

-- whatever their W, D, K, schedules and buffers
pub same_marked : {c c' : Call} {marks work tallies marks' work' tallies' m w t m' w' t' : List ℕ} {r r' : Result Marked Refusal} → Answered c marks work tallies r m w t
    → Answered c' marks' work' tallies' r' m' w' t' → graph_of c' ≡ graph_of c → c'.starts ≡ c.starts → (row r).finished ≡ true
    → (row r').finished ≡ true → (v : ℕ) → state.Marked m v ↔ state.Marked m' v
same_marked a a' g s done done' v =
    let here = (a.promise (finished_faultless a done)).demand2.marked_exactly done v in
    let there = rw (g, s) at ((a'.promise (finished_faultless a' done')).demand2.marked_exactly done' v) in
    (λ p. there.1 (here.0 p), λ p. here.1 (there.0 p))
