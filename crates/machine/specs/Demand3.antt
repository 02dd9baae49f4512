-- Demand 3 in one piece, SPECIFICATION 6: one statement about the whole list of turns and the row reported of it.
use Rattle.std.specs.Prelude.{◌≡◌, refl, true, List, [], ◌∷◌, ◌++◌, ◌↔◌, ℕ, zero, suc, ◌+◌, ◌-◌, ◌*◌, ◌≤◌, ◌<◌, length}
use Rattle.std.proofs.Common.{arith}
use Rattle.laws.specs.Blocks.{laid}
use Rattle.laws.specs.Sum.{sum, hit}
use Rattle.graph.specs.Graph.{Graph, Leaves}
use Rattle.graph.specs.Chain.{Reach, leaving_reached}
use Rattle.machine.specs.Row.{Row}
use Rattle.machine.specs.Machine.{Setting, Entry, start, trail}
use Rattle.machine.specs.Events.{Changing, owed?, refused?, answered}

-- the most turns that change something; passing the token is not counted
abbrev pub moved_bound : ℕ → ℕ → ℕ
moved_bound R W = 7 * R + W

-- the stretches that finish
abbrev pub stretch_bound : ℕ → ℕ → ℕ
stretch_bound R W = 7 * R + 4 * W + 2

-- so many do already
abbrev pub fewest_stretches : ℕ → ℕ → ℕ
fewest_stretches R W = 7 * R + 4 * W - 2

-- the most hand-overs, times K
abbrev pub handed_bound : ℕ → ℕ
handed_bound R = 3 * R

-- how often worker b has an entry
abbrev pub entries_of : ℕ → List Entry → ℕ
entries_of b xs = sum (λ (x : Entry). hit b x.worker) xs

-- each of the stretches has an entry for every worker below W
abbrev pub AllHave : ℕ → List (List Entry) → Type 0
AllHave W [] = Unit {0}
AllHave W (xs ∷ xss) = ((b : ℕ) → b < W → 0 < entries_of b xs) × AllHave W xss

-- a stretch with a turn of worker 0 alone is none for two workers
pub last_worker_lacks : AllHave 2 ((record { worker = 0; named = 0 } ∷ []) ∷ []) → ⊥
unfolding sum hit
last_worker_lacks (each, _) = omega (arith, each 1 (omega arith))

-- the stretches laid end to end
unfoldable pub joined : List (List Entry) → List Entry
unfolding laid
joined = laid (λ (xs : List Entry). xs)

-- a cut of the schedule into k stretches, each with an entry for every worker below W
pub record Cut (W k : ℕ) (xs : List Entry) : Type 0 where
  pub stretches : List (List Entry)
  pub number : length stretches ≡ k
  pub whole : joined stretches ≡ xs
  pub each : AllHave W stretches

-- the trail of a call's turns
abbrev pub trail_of : Graph → List ℕ → ℕ → Setting → List Entry → List ℕ
trail_of G starts W g xs = trail G g (start G starts W) xs

pub record Demand3 (G : Graph) (starts : List ℕ) (W : ℕ) (g : Setting) (xs : List Entry) (r : Row) : Type 0 where
  -- 1. no number stands in the trail twice, and followed is its length
  pub once : (e : ℕ) → sum (hit e) (trail_of G starts W g xs) ≤ 1
  pub followed : r.counts.followed ≡ length (trail_of G starts W g xs)
  -- the other counts: asks answered with references, asks answered no, turns after which something differs
  pub hand_overs : r.counts.handed ≡ answered owed? G g (start G starts W) xs
  pub refusals : r.counts.refused ≡ answered refused? G g (start G starts W) xs
  pub changes : Changing G g (start G starts W) xs r.counts.moved
  -- 2. when finished, it holds just the R numbers that leave reachable objects
  pub exactly : r.finished ≡ true
      → (e : ℕ) → (0 < sum (hit e) (trail_of G starts W g xs)) ↔ ((v : ℕ) × Reach G starts v × Leaves G e v)
  pub whole : r.finished ≡ true → r.counts.followed ≡ leaving_reached G starts
  -- 3. handed × K is at most 3R
  pub handed : r.counts.handed * g.cutoff ≤ handed_bound (leaving_reached G starts)
  -- 4. moved is at most 7R + W
  pub moved : r.counts.moved ≤ moved_bound (leaving_reached G starts) W
  -- 5. 7R + 4W + 2 stretches finish, and 7R + 4W - 2 do already
  pub finishes : Cut W (stretch_bound (leaving_reached G starts) W) xs → r.finished ≡ true
  pub sooner : Cut W (fewest_stretches (leaving_reached G starts) W) xs → r.finished ≡ true

-- the figures where R is 5 and W is 2, as of store S in case A
pub figures : moved_bound 5 2 ∷ handed_bound 5 ∷ stretch_bound 5 2 ∷ fewest_stretches 5 2 ∷ [] ≡ 37 ∷ 15 ∷ 45 ∷ 41 ∷ []
figures = refl

-- a turn of each of the first k workers, the last one first, naming 0: as bytes of a schedule
unfoldable pub round_of : ℕ → List ℕ
round_of zero = []
round_of (suc k) = k ∷ 0 ∷ round_of k

-- so many such rounds of W workers
unfoldable pub rounds : ℕ → ℕ → List ℕ
unfolding round_of
rounds W zero = []
rounds W (suc k) = round_of W ++ rounds W k

-- a schedule that clause 5 finishes: 7R + 4W + 2 rounds
unfoldable pub long_schedule : Graph → List ℕ → ℕ → List ℕ
unfolding rounds leaving_reached
long_schedule G starts W = rounds W (stretch_bound (leaving_reached G starts) W)
