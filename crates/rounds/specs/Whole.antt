-- SPECIFICATION 15: a collection in one call. All workers have their turns in rounds, each naming the next, until all have ended: it is the marker's
-- call with so many rounds as are sure to finish.
use Rattle.std.specs.Prelude.{ℕ, zero, suc, ◌+◌, ltb, ◌≡◌, refl, true, Result, List, [], ◌∷◌, ◌++◌}
use Rattle.laws.specs.Choice.{pick}
use Rattle.refusal.specs.declared.Refusal.{Refusal}
use Rattle.graph.specs.Graph.{Graph, graph}
use Rattle.graph.specs.Chain.{leaving_reached}
use Rattle.machine.specs.Machine.{State, Entry, start}
use Rattle.machine.specs.Accepted.{Accepted}
use Rattle.machine.specs.Demand3.{stretch_bound}
use Rattle.machine.specs.Call.{Call, graph_of, scheduled_by}
use Rattle.step.specs.declared.Setup.{Setup}
use Rattle.step.specs.Held.{Memory, setting_of, Holds}
use Rattle.step.specs.Turned.{Ready}
use Rattle.marker.specs.declared.Marked.{Marked}
use Rattle.marker.specs.Answer.{row, Answered}
use Rattle.marker.specs.Stages.{scheduled}

-- whom worker b of W names: the next one, and the last one worker 0
abbrev pub next_of : ℕ → ℕ → ℕ
next_of W b = pick (ltb (b + 1) W) (b + 1) 0

-- a turn of each of k workers, from number b on, as bytes of a schedule
unfoldable pub round_from : ℕ → ℕ → ℕ → List ℕ
round_from W b zero = []
round_from W b (suc k) = b ∷ next_of W b ∷ round_from W (b + 1) k

-- so many rounds of W workers
unfoldable pub rounds_of : ℕ → ℕ → List ℕ
unfolding round_from
rounds_of W zero = []
rounds_of W (suc k) = round_from W 0 W ++ rounds_of W k

-- two rounds of three workers, and of one
pub three_workers : rounds_of 3 2 ≡ 0 ∷ 1 ∷ 1 ∷ 2 ∷ 2 ∷ 0 ∷ 0 ∷ 1 ∷ 1 ∷ 2 ∷ 2 ∷ 0 ∷ []
unfolding rounds_of
three_workers = refl

pub one_worker : rounds_of 1 2 ≡ 0 ∷ 0 ∷ 0 ∷ 0 ∷ []
unfolding rounds_of
one_worker = refl

-- the turn of the only worker, in which it names itself
abbrev pub own_turn : Entry
own_turn = record { worker = 0; named = 0 }

-- the rounds that are sure to finish: 7R + 4W + 2
abbrev pub enough_rounds : Graph → List ℕ → ℕ → List ℕ
enough_rounds G starts W = rounds_of W (stretch_bound (leaving_reached G starts) W)

-- the marker's call with these
abbrev pub whole_of : Call → Call
whole_of c = scheduled_by (enough_rounds (graph_of c) c.starts c.workers) c

-- the call's promise, for all inputs: it answers what the marker's call answers, leaves every lent word as that does, and where it has no fault
-- the collection is finished
pub record AllMarked (c : Call) (marks work tallies : List ℕ) (r : Result Marked Refusal) (marks' work' tallies' : List ℕ) : Type 0 where
  pub answered : Answered (whole_of c) marks work tallies r marks' work' tallies'
  pub finished : (row r).number ≡ 0 → (row r).finished ≡ true

-- ---- the turns

-- the state before the first turn of an accepted call
pub record IsStart (g : Setup) (offsets targets : List ℕ) (G : Graph) (s : State) : Type 0 where
  pub graph_is : G ≡ graph offsets targets
  pub starts : List ℕ
  pub accepted : Accepted G starts g.workers (setting_of g)
  pub state_is : s ≡ start G starts g.workers

-- the memories afterwards hold the state after enough rounds
abbrev pub DoesRounds : Setup → List ℕ → List ℕ → Memory → Memory → Type 0
DoesRounds g offsets targets μ μ' =
    (x : Ready (IsStart g offsets targets) g μ)
    → Holds x.graph g (scheduled g (enough_rounds x.graph x.here.starts g.workers) x.graph x.state) μ'
