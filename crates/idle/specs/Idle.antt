-- What the functions of an idle worker's turn are told of worker b.
use Rattle.std.specs.Prelude.{ℕ, ◌≡◌, ◌≢◌}
use Rattle.graph.specs.Graph.{Graph}
use Rattle.machine.specs.Machine.{State, idle, worker, stopped}

-- it is idle
abbrev pub IsIdle : ℕ → Graph → State → Type 0
IsIdle b G s = worker s b ≡ idle

-- while the collection goes on: it holds the token, or does not
pub record IsHolder (b : ℕ) (G : Graph) (s : State) : Type 0 where
  pub is : worker s b ≡ idle
  pub going : stopped (worker s 0) ≡ 0
  pub holds : b ≡ s.ring.holder

pub record IsAsking (b : ℕ) (G : Graph) (s : State) : Type 0 where
  pub is : worker s b ≡ idle
  pub going : stopped (worker s 0) ≡ 0
  pub other : b ≢ s.ring.holder
