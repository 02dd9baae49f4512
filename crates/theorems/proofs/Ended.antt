-- When every worker has ended.
use mathlib.Core.Path.{◌≡◌, refl, ap}
use mathlib.Core.Bool.{true}
use mathlib.Core.List.{List, [], ◌∷◌}
use Prim.Native.Nat.{ℕ, zero, suc, ◌+◌, ◌≤◌}
use native.Mathlib.Omega.{arith}
use lib.ListN.{length, get_or}
use Rattle.laws.specs.Sum.{sum}
use Rattle.laws.proofs.Sum.{sum_share}
use Rattle.graph.specs.Graph.{Graph}
use Rattle.machine.specs.Machine.{Setting, State, Entry, Worker, idle, asking, denied, ended, given, busy, all_ended, worker_turn, turn, turns, stopped}
use Rattle.theorems.proofs.Facts.{there}

-- then each has, and a worker that is not there counts as ended
pub ended_at : (ws : List Worker) → all_ended ws ≡ true → (i : ℕ) → get_or ws i ended ≡ ended
unfolding all_ended
ended_at [] h i = refl
ended_at (idle ∷ ws) h i = let z : ◌≡◌ {A = ℕ} 0 1 = cc in absurd (omega arith)
ended_at (asking ∷ ws) h i = let z : ◌≡◌ {A = ℕ} 0 1 = cc in absurd (omega arith)
ended_at (denied ∷ ws) h i = let z : ◌≡◌ {A = ℕ} 0 1 = cc in absurd (omega arith)
ended_at (ended ∷ ws) h zero = refl
ended_at (ended ∷ ws) h (suc i) = ended_at ws h i
ended_at (given rs ∷ ws) h i = let z : ◌≡◌ {A = ℕ} 0 1 = cc in absurd (omega arith)
ended_at (busy c n p rs ∷ ws) h i = let z : ◌≡◌ {A = ℕ} 0 1 = cc in absurd (omega arith)

-- if none is left, all have
pub ended_if : (ws : List Worker) → ((i : ℕ) → there (get_or ws i ended) ≡ 0) → all_ended ws ≡ true
unfolding all_ended
ended_if [] h = refl
ended_if (idle ∷ ws) h = absurd (omega (arith, h 0))
ended_if (asking ∷ ws) h = absurd (omega (arith, h 0))
ended_if (denied ∷ ws) h = absurd (omega (arith, h 0))
ended_if (ended ∷ ws) h = ended_if ws (λ (i : ℕ). h (suc i))
ended_if (given rs ∷ ws) h = absurd (omega (arith, h 0))
ended_if (busy c n p rs ∷ ws) h = absurd (omega (arith, h 0))

-- each worker has ended or has not
ended_or : (w : Worker) → there w + stopped w ≡ 1
ended_or idle = refl
ended_or asking = refl
ended_or denied = refl
ended_or ended = refl
ended_or (given rs) = refl
ended_or (busy c n p rs) = refl

ended_all : (ws : List Worker) → sum there ws + sum stopped ws ≡ length ws
unfolding sum
ended_all [] = refl
ended_all (w ∷ ws) = omega (arith, ended_or w, ended_all ws)

-- no more have ended than there are workers
pub stopped_limit : (ws : List Worker) → sum stopped ws ≤ length ws
stopped_limit ws = omega (arith, ended_all ws)

-- if as many have as there are workers, all have
pub ended_count : (ws : List Worker) → length ws ≤ sum stopped ws → all_ended ws ≡ true
ended_count ws h = ended_if ws (λ (i : ℕ). omega (arith, ended_all ws, sum_share there ended refl ws i))

-- then nothing changes any more: by a turn
pub ended_turn : (G : Graph) (g : Setting) (s : State) → all_ended s.workers ≡ true → (x : Entry) → turn G g s x ≡ s
unfolding turn
ended_turn G g s h x = ap (λ (w : Worker). worker_turn w G g s x.worker x.named) (ended_at s.workers h x.worker)

-- by a list of turns
pub ended_turns : (G : Graph) (g : Setting) (s : State) → all_ended s.workers ≡ true → (xs : List Entry) → turns G g s xs ≡ s
unfolding turns
ended_turns G g s h [] = refl
ended_turns G g s h (x ∷ xs) = rw (ended_turn G g s h x) (ended_turns G g s h xs)
