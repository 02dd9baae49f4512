-- What the functions of a turn ask and leave: one statement for all, by what they are told of the state.
use Rattle.std.specs.Prelude.{ℕ}
use Rattle.graph.specs.Graph.{Graph}
use Rattle.machine.specs.Machine.{State, turn}
use Rattle.step.specs.declared.Setup.{Setup}
use Rattle.step.specs.Held.{Memory, setting_of, Holds, Scene}

-- a state that the memories hold, of which P is known
pub record Ready (P : Graph → State → Type 0) (g : Setup) (μ : Memory) : Type 0 where
  pub graph : Graph
  pub state : State
  pub scene : Scene graph g state
  pub holds : Holds graph g state μ
  pub here : P graph state

-- the state after worker b's turn that names v
abbrev pub turned : Setup → ℕ → ℕ → Graph → State → State
turned g b v G s = turn G (setting_of g) s (record { worker = b; named = v })

-- "does this turn": the memories afterwards hold the state after it
abbrev pub Does : (P : Graph → State → Type 0) → Setup → ℕ → ℕ → Memory → Memory → Type 0
Does P g b v μ μ' = (x : Ready P g μ) → Holds x.graph g (turned g b v x.graph x.state) μ'

-- a busy worker's turn is the same whomever it names
abbrev pub DoesAny : (P : Graph → State → Type 0) → Setup → ℕ → Memory → Memory → Type 0
DoesAny P g b μ μ' = (v : ℕ) → Does P g b v μ μ'
