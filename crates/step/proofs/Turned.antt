-- The turn of a worker by what it is, and a state of which something else is known.
use mathlib.Core.Path.{◌≡◌}
use Prim.Native.Nat.{ℕ}
use Rattle.graph.specs.Graph.{Graph}
use Rattle.machine.specs.Machine.{State, Worker, worker, turn, worker_turn}
use Rattle.step.specs.declared.Setup.{Setup}
use Rattle.step.specs.Held.{Memory, setting_of}
use Rattle.step.specs.Turned.{turned, Ready}

-- the state after worker b's turn, by what b is
pub turn_as : (g : Setup) (b v : ℕ) (G : Graph) (s : State) {w : Worker} → worker s b ≡ w
    → turned g b v G s ≡ worker_turn w G (setting_of g) s b v
unfolding turn
turn_as g b v G s e = rw e

-- the same state, of which something else is known
abbrev pub told_as : {P Q : Graph → State → Type 0} {g : Setup} {μ : Memory} (x : Ready P g μ) → Q x.graph x.state → Ready Q g μ
told_as x q = record { graph = x.graph; state = x.state; scene = x.scene; holds = x.holds; here = q }
