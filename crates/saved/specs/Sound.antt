-- SPECIFICATION 8.2: a saved collection is sound if all of this holds. `Sound` of `machine` lists the conditions, but for 20 and
-- 21, which a turn need not keep where somebody else wrote the words.
use Rattle.std.specs.Prelude.{◌≡◌, ℕ, ◌*◌, ◌≤◌, List}
use Rattle.graph.specs.Graph.{Graph, objects, references}
use Rattle.machine.specs.Machine.{Setting, State}
use Rattle.machine.specs.Sound.{Sound}
use Rattle.machine.specs.Demand3.{moved_bound, handed_bound}
use Rattle.saved.specs.Layout.{saved_words}

pub record SavedSound (G : Graph) (starts : List ℕ) (W : ℕ) (g : Setting) (s : State) : Type 0 where
  pub sound : Sound G starts W g s
  -- 20. moved is at most 7m + W.
  pub moved_limit : s.counts.moved ≤ moved_bound (references G) W
  -- 21. handed × K is at most 3m.
  pub handed_limit : s.counts.handed * g.cutoff ≤ handed_bound (references G)

-- the words w are those of the state s of W workers, and it is sound
pub record SavedRun (G : Graph) (starts : List ℕ) (W : ℕ) (g : Setting) (w : List ℕ) (s : State) : Type 0 where
  pub words_are : w ≡ saved_words (objects G) s
  pub saved : SavedSound G starts W g s
