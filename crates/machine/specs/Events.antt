-- What the counts of SPECIFICATION 4.6 count, told by comparing what stands before and after each turn. The counts
-- themselves are not looked at.
use Rattle.std.specs.Prelude.{◌≡◌, List, [], ◌∷◌, ℕ, suc, ◌+◌, ◌*◌}
use Rattle.graph.specs.Graph.{Graph}
use Rattle.machine.specs.Machine.{Setting, State, Entry, Worker, idle, asking, denied, ended, given, busy, turn}
use Rattle.machine.specs.Sound.{waits}

-- marks and workers are as they were; the token may have been passed
pub record Same (s s' : State) : Type 0 where
  pub marks : s'.marks ≡ s.marks
  pub workers : s'.workers ≡ s.workers

-- Of the turns from s on, exactly k leave something other than it was.
pub data Changing (G : Graph) (g : Setting) : State → List Entry → ℕ → Type 0 where
  none : {s : State} → Changing G g s [] 0
  unchanged : {s : State} {x : Entry} {xs : List Entry} {k : ℕ} → Same s (turn G g s x)
      → Changing G g (turn G g s x) xs k → Changing G g s (x ∷ xs) k
  changed : {s : State} {x : Entry} {xs : List Entry} {k : ℕ} → (Same s (turn G g s x) → ⊥)
      → Changing G g (turn G g s x) xs k → Changing G g s (x ∷ xs) (suc k)

-- 1 for an asker that has a hand-over as its reply, and for one that has a refusal
abbrev pub owed? : Worker → ℕ
owed? idle = 0
owed? asking = 0
owed? denied = 0
owed? ended = 0
owed? (given rs) = 1
owed? (busy c n p rs) = 0

abbrev pub refused? : Worker → ℕ
refused? idle = 0
refused? asking = 0
refused? denied = 1
refused? ended = 0
refused? (given rs) = 0
refused? (busy c n p rs) = 0

-- how many askers without a reply have such a one afterwards
unfoldable pub replies : (Worker → ℕ) → List Worker → List Worker → ℕ
replies f [] ws' = 0
replies f (w ∷ ws) [] = 0
replies f (w ∷ ws) (w' ∷ ws') = waits w * f w' + replies f ws ws'

-- the same over turns: the asks that were so answered
unfoldable pub answered : (Worker → ℕ) → Graph → Setting → State → List Entry → ℕ
unfolding replies turn
answered f G g s [] = 0
answered f G g s (x ∷ xs) = replies f s.workers (turn G g s x).workers + answered f G g (turn G g s x) xs
