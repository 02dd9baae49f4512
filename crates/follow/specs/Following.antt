-- What the functions of following and of taking up are told of worker b.
use Rattle.std.specs.Prelude.{ℕ, suc, ◌-◌, ◌≤◌, ◌≡◌, List, ◌∷◌}
use Rattle.graph.specs.Graph.{Graph, graph, references}
use Rattle.machine.specs.Run.{Run, run, run_from}
use Rattle.machine.specs.Tally.{tally, tallied, tallies_words}
use Rattle.machine.specs.Machine.{State, given, busy, Cell, Phase, look, claim, worker, Claimed, follows, onward_runs}
use Rattle.machine.specs.Sound.{batch_of}
use Rattle.step.specs.declared.Setup.{Setup}
use Rattle.step.specs.Turned.{turned}
use Rattle.follow.specs.declared.Opened.{Opened}

-- it is owed a hand-over; the targets are the graph's
pub record IsGiven (targets : List ℕ) (b : ℕ) (G : Graph) (s : State) : Type 0 where
  pub runs : List Run
  pub is : worker s b ≡ given runs
  pub targets_are : targets ≡ G.targets

-- it looks at its first reference
pub record IsLooking (targets : List ℕ) (b : ℕ) (G : Graph) (s : State) : Type 0 where
  pub cell : Cell
  pub since : ℕ
  pub left : ℕ
  pub runs : List Run
  pub is : worker s b ≡ busy cell since (look left) runs
  pub targets_are : targets ≡ G.targets

-- it claims the target of that reference
pub record IsClaiming (offsets targets : List ℕ) (b : ℕ) (G : Graph) (s : State) : Type 0 where
  pub cell : Cell
  pub since : ℕ
  pub left : ℕ
  pub runs : List Run
  pub is : worker s b ≡ busy cell since (claim left) runs
  pub graph_is : G ≡ graph offsets targets

-- it follows that reference, at whose target `found` is what is found: what opens is a run from f to e, if any; the marks
-- and the tallies are these then
pub record IsFollowing (g : Setup) (targets marks tallies : List ℕ) (o : Opened) (b : ℕ) (G : Graph) (s : State) : Type 0 where
  pub cell : Cell
  pub since : ℕ
  pub phase : Phase
  pub left : ℕ
  pub first : ℕ
  pub more : ℕ
  pub below : List Run
  pub is : worker s b ≡ busy cell since phase (run first more ∷ below)
  pub batch_is : batch_of phase ≡ suc left
  pub found : Claimed
  pub order : o.first ≤ o.end
  pub limit : o.end ≤ references G
  pub opened_is : found.opened ≡ run_from o.first (o.end - o.first)
  pub marks_are : marks ≡ found.marks
  pub tallies_are : tallies ≡ tallies_words (tallied s.tallies b (tally 1 found.won found.lost 0))
  pub turn_is : (v : ℕ) → turned g b v G s ≡ follows s b cell since left found (onward_runs first more found.opened below)
  pub targets_are : targets ≡ G.targets
