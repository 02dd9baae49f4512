-- Marking along references with a list of objects whose references are still to be followed: what the functions ask and leave.
use Rattle.std.specs.Prelude.{◌≡◌, List, ◌⊎◌, ℕ, ◌+◌, ◌≤◌, ◌<◌, length, get_or, take}
use Rattle.laws.specs.Sum.{sum, hit}
use Rattle.graph.specs.Graph.{Graph, Leaves, objects, target}
use Rattle.graph.specs.Formed.{Formed}
use Rattle.graph.specs.Chain.{closure}
use Rattle.graph.specs.Leaving.{unset?}
use Rattle.machine.specs.Sound.{Marked}
use Rattle.changes.specs.Stores.{new_mark}

-- how often v stands among the first words of a list
abbrev pub listed : ℕ → List ℕ → ℕ → ℕ
listed v list top = sum (hit v) (take top list)

-- how many objects are not marked
abbrev pub unmarked : List ℕ → ℕ
unmarked ms = sum unset? ms

-- there is room for all objects that are not marked yet
pub record Roomy (ms list : List ℕ) (top : ℕ) : Type 0 where
  pub room : top + unmarked ms ≤ length list
  pub few : length list < 4294967296

-- What marking leaves in the words of its list, of which top were in use: each is as it was, or names an object newly marked, and then it is one
-- of the first behind those in use, as many as there are such objects. Which of them it names is left open. No mark is lost.
pub record ListLeft (top : ℕ) (ms list ms' list' : List ℕ) : Type 0 where
  pub long : length list' ≡ length list
  pub marked : (v : ℕ) → Marked ms v → Marked ms' v
  pub fewer : unmarked ms' ≤ unmarked ms
  pub words : (i : ℕ) → (get_or list' i 0 ≡ get_or list i 0)
      ⊎ ((i + unmarked ms' < top + unmarked ms) × (get_or ms (get_or list' i 0) 0 ≡ 0) × Marked ms' (get_or list' i 0))

-- objects that were looked at: those without a mark got this one, and are on the list
pub record Touched (value : ℕ) (seen ms list : List ℕ) (top : ℕ) (ms' list' : List ℕ) (top' : ℕ) : Type 0 where
  pub marks_long : length ms' ≡ length ms
  pub list_long : length list' ≡ length list
  -- a mark stays
  pub kept : (v : ℕ) → Marked ms v → get_or ms' v 0 ≡ get_or ms v 0
  -- a new one has the value, and is of an object that was looked at
  pub fresh : (v : ℕ) → get_or ms v 0 ≡ 0 → Marked ms' v → (get_or ms' v 0 ≡ value) × (0 < sum (hit v) seen)
  -- all that were looked at are marked
  pub looked : (v : ℕ) → 0 < sum (hit v) seen → Marked ms' v
  -- the list gets exactly the newly marked ones
  pub holds : (v : ℕ) → listed v list' top' + unset? (get_or ms' v 0) ≡ listed v list top + unset? (get_or ms v 0)
  pub sized : top' + unmarked ms' ≡ top + unmarked ms
  pub left : ListLeft top ms list ms' list'

-- marks on the way from those given to the completed ones
pub record Between (G : Graph) (given ms : List ℕ) : Type 0 where
  pub long : length ms ≡ length given
  pub kept : (v : ℕ) → Marked given v → get_or ms v 0 ≡ get_or given v 0
  pub fresh : (v : ℕ) → get_or given v 0 ≡ 0 → Marked ms v → get_or ms v 0 ≡ new_mark
  pub within : (v : ℕ) → Marked ms v → Marked (closure G given) v

-- the list is what is left to follow: the references of a marked object that is not on it lead to marked ones
pub record Followable (G : Graph) (ms list : List ℕ) (top : ℕ) : Type 0 where
  pub formed : Formed G
  pub sizes : length ms ≡ objects G
  pub roomy : Roomy ms list top
  pub on_list : (v : ℕ) → 0 < listed v list top → Marked ms v
  pub closed : (u e : ℕ) → Marked ms u → listed u list top ≡ 0 → Leaves G e u → Marked ms (target G e)

-- pairs were looked at: the target of one whose source was marked is marked; no more is marked than any closed set has
pub record Seeded (from to ms list ms' list' : List ℕ) (top' : ℕ) : Type 0 where
  pub marks_long : length ms' ≡ length ms
  pub list_long : length list' ≡ length list
  pub kept : (v : ℕ) → Marked ms v → get_or ms' v 0 ≡ get_or ms v 0
  pub fresh : (v : ℕ) → get_or ms v 0 ≡ 0 → Marked ms' v → get_or ms' v 0 ≡ new_mark
  pub looked : (i : ℕ) → i < length from → Marked ms (get_or from i 0) → Marked ms' (get_or to i 0)
  pub within : (cl : List ℕ) → ((v : ℕ) → Marked ms v → Marked cl v)
      → ((i : ℕ) → i < length from → Marked cl (get_or from i 0) → Marked cl (get_or to i 0))
      → (v : ℕ) → Marked ms' v → Marked cl v
  pub holds : (v : ℕ) → listed v list' top' + unset? (get_or ms' v 0) ≡ unset? (get_or ms v 0)
  pub sized : top' + unmarked ms' ≡ unmarked ms
  pub left : ListLeft 0 ms list ms' list'
