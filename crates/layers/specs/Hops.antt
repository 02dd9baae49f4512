-- SPECIFICATION 11.2: hops. The hop count of an object is the least number of references on a chain that leads to it from a start, and
-- 4,294,967,295 if none does.
use Rattle.std.specs.Prelude.{◌≡◌, List, ◌≢◌, ◌↔◌, ℕ, suc, ◌≤◌, ◌<◌, length, get_or}
use Rattle.laws.specs.Sum.{sum, hit}
use Rattle.graph.specs.Graph.{Graph, Leaves, objects, target}
use Rattle.bag.specs.Bag.{Same}
use Rattle.machine.specs.Demand2.{FinishedMarks}
use Rattle.machine.specs.Sound.{Marked}

-- the count of an object to which no chain leads
abbrev pub none : ℕ
none = 4294967295

-- a chain of so many references leads from a start to the object
pub data Chain (G : Graph) (starts : List ℕ) : ℕ → ℕ → Type 0 where
  here : {v : ℕ} → 0 < sum (hit v) starts → Chain G starts 0 v
  on : {k u : ℕ} (e : ℕ) → Chain G starts k u → Leaves G e u → Chain G starts (suc k) (target G e)

-- the count of object v
abbrev pub hop_of : List ℕ → ℕ → ℕ
hop_of hops v = get_or hops v 0

-- the counts of a graph from these starts
pub record HopsOf (G : Graph) (starts hops : List ℕ) : Type 0 where
  -- one for each object
  pub long : length hops ≡ objects G
  -- a chain of that length exists
  pub exists : (v : ℕ) → v < objects G → hop_of hops v ≢ none → Chain G starts (hop_of hops v) v
  -- where a chain leads there is a count, and no chain is shorter
  pub least : (v k : ℕ) → Chain G starts k v → (hop_of hops v ≢ none) × (hop_of hops v ≤ k)
  -- counts are below n
  pub small : (v : ℕ) → v < objects G → hop_of hops v ≢ none → hop_of hops v < objects G
  -- the objects with a count are exactly those that a finished collection marks
  pub marked : (marks : List ℕ) → FinishedMarks G starts marks → (v : ℕ) → v < objects G → (hop_of hops v ≢ none) ↔ Marked marks v

-- The work words, two links for each object, afterwards: those of an object to which no chain leads are as they were. Which links the others get
-- is the search's choice.
pub record LinksLeft (hops links links' : List ℕ) : Type 0 where
  pub long : length links' ≡ length links
  pub same : (v : ℕ) → hop_of hops v ≡ none → Same links links' v
