-- SPECIFICATION 5: after a finished marking the sweep lists exactly the objects to which no chain leads, upwards. It is in the
-- contract of `sweep::sweep`, for any lent marks, be they a collection's or those that adding and taking out references leave.
use Rattle.std.specs.Prelude.{◌≡◌, List, [], ◌∷◌, ◌↔◌, ℕ, suc, ◌≤◌, ◌<◌, length, take}
use Rattle.laws.specs.Sum.{sum, hit}
use Rattle.graph.specs.Graph.{Graph, objects}
use Rattle.graph.specs.Chain.{Reach}
use Rattle.machine.specs.Demand2.{LiveMarks}
use Rattle.sweep.specs.Sweep.{Row}

-- every number of the list is at least b, and the later ones are larger
abbrev pub UpwardsFrom : ℕ → List ℕ → Type 0
UpwardsFrom b [] = Unit {0}
UpwardsFrom b (v ∷ vs) = (b ≤ v) × UpwardsFrom (suc v) vs

-- the numbers that a sweep listed: as many of the list as it answered
abbrev pub listed : Row → List ℕ → List ℕ
listed r list = take r.count list

-- a sweep of these marks that answered the row r and left the list
pub record Collection (marks : List ℕ) (r : Row) (list : List ℕ) : Type 0 where
  -- upwards, so each once
  pub upwards : UpwardsFrom 0 (listed r list)
  -- only objects
  pub objects_only : (v : ℕ) → 0 < sum (hit v) (listed r list) → v < length marks
  -- where the marks are the live set: exactly those to which no chain leads
  pub exactly : r.number ≡ 0 → (G : Graph) (starts : List ℕ) → LiveMarks G starts marks
      → (v : ℕ) → (0 < sum (hit v) (listed r list)) ↔ ((v < objects G) × (Reach G starts v → ⊥))
