-- SPECIFICATION 3: chains of references, the objects that they reach, and R, how many references leave those.
-- Chains begin at any of a list of starts.
use Rattle.std.specs.Prelude.{ℕ, zero, suc, ◌+◌, ◌<◌, List, [], ◌∷◌, get_or, set, replicate}
use Rattle.laws.specs.Sum.{sum, hit}
use Rattle.graph.specs.Graph.{Graph, Leaves, objects, first, degree, target}

-- a chain leads from a start to the object
pub data Reach (G : Graph) (starts : List ℕ) : ℕ → Type 0 where
  here : {v : ℕ} → 0 < sum (hit v) starts → Reach G starts v
  on : {u : ℕ} (e : ℕ) → Reach G starts u → Leaves G e u → Reach G starts (target G e)

-- 1 for a mark that is set, that is nonzero, else 0
abbrev pub set? : ℕ → ℕ
set? zero = 0
set? (suc k) = 1

-- Σ f(v) over the v of a list of marks that are set, v counted from b
unfoldable pub over_marked : (ℕ → ℕ) → ℕ → List ℕ → ℕ
over_marked f b [] = 0
over_marked f b (zero ∷ ms) = over_marked f (suc b) ms
over_marked f b (suc k ∷ ms) = f b + over_marked f (suc b) ms

-- marks set at the targets of the k references from e on
unfoldable pub spread_run : Graph → ℕ → ℕ → List ℕ → List ℕ
spread_run G e zero ms = ms
spread_run G e (suc k) ms = spread_run G (suc e) k (set ms (target G e) 1)

-- the same for one object's references, if the object is marked
abbrev pub spread_from : Graph → ℕ → ℕ → List ℕ → List ℕ
spread_from G v zero ms = ms
spread_from G v (suc k) ms = spread_run G (first G v) (degree G v) ms

-- one round: along the references of the first k objects that are marked
unfoldable pub spread : Graph → ℕ → List ℕ → List ℕ
unfolding spread_run
spread G zero ms = ms
spread G (suc k) ms = let r = spread G k ms in spread_from G k (get_or r k 0) r

-- k rounds
unfoldable pub rounds : Graph → ℕ → List ℕ → List ℕ
unfolding spread
rounds G zero ms = ms
rounds G (suc k) ms = rounds G k (spread G (objects G) ms)

-- the least set that holds the marked objects and is closed under references, as marks: n rounds. `proofs/Reached` shows that it is.
unfoldable pub closure : Graph → List ℕ → List ℕ
unfolding rounds
closure G ms = rounds G (objects G) ms

-- every reference of an object in P leads to one in P
abbrev pub Closed : Graph → (ℕ → Type 0) → Type 0
Closed G P = (u e : ℕ) → P u → Leaves G e u → P (target G e)

-- marks set at the starts
unfoldable pub marks_at : List ℕ → List ℕ → List ℕ
marks_at [] ms = ms
marks_at (v ∷ vs) ms = marks_at vs (set ms v 1)

-- the reachable objects, as marks: n rounds from the starts. `proofs/Reached` shows that it is Reach.
unfoldable pub reached : Graph → List ℕ → List ℕ
unfolding rounds marks_at
reached G starts = rounds G (objects G) (marks_at starts (replicate (objects G) 0))

-- R
unfoldable pub leaving_reached : Graph → List ℕ → ℕ
unfolding over_marked reached
leaving_reached G starts = over_marked (degree G) 0 (reached G starts)
