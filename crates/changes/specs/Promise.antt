-- SPECIFICATION 12: what holds of the marks that the two calls leave.
use Rattle.std.specs.Prelude.{◌≡◌, true, List, [], ◌∷◌, ◌↔◌, ℕ, ◌<◌, length, get_or}
use Rattle.laws.specs.Sum.{sum, hit}
use Rattle.graph.specs.Graph.{Graph, objects, well_formed}
use Rattle.graph.specs.Chain.{Closed}
use Rattle.machine.specs.Demand2.{FinishedMarks, LiveMarks}
use Rattle.machine.specs.Sound.{Marked}
use Rattle.changes.specs.Pairs.{Pair, leading}
use Rattle.changes.specs.Stores.{added, completed, new_mark}

-- every pair whose source is marked has a marked target
abbrev pub ClosedUnder : List Pair → List ℕ → Type 0
ClosedUnder ps ms = (u t : ℕ) → 0 < leading u t ps → Marked ms u → Marked ms t

-- the marks r are the smallest set that holds the marks ms and is closed under old and new references
pub record Smallest (G : Graph) (ps : List Pair) (ms r : List ℕ) : Type 0 where
  pub long : length r ≡ length ms
  -- a mark that was set keeps its value; an object newly in the set has the new mark
  pub kept : (v : ℕ) → Marked ms v → get_or r v 0 ≡ get_or ms v 0
  pub fresh : (v : ℕ) → get_or ms v 0 ≡ 0 → Marked r v → get_or r v 0 ≡ new_mark
  pub old : Closed G (Marked r)
  pub new : ClosedUnder ps r
  -- any set that holds them and is closed has all of r
  pub least : (q : List ℕ) → ((v : ℕ) → Marked ms v → Marked q v) → Closed G (Marked q) → ClosedUnder ps q
      → (v : ℕ) → Marked r v → Marked q v

-- the marks after the same pairs, given singly
unfoldable pub singly : Graph → List ℕ → List Pair → List ℕ
unfolding added completed
singly G ms [] = ms
singly G ms (p ∷ ps) = singly (added G (p ∷ [])) (completed (added G (p ∷ [])) ms) ps

-- and each such call is accepted: its store passes check 10, its pair names objects, and its marks pass check 17
abbrev pub TakenSingly : Graph → List ℕ → List Pair → Type 0
TakenSingly G ms [] = Unit {0}
TakenSingly G ms (p ∷ ps) =
    (well_formed G ≡ true)
    × ((p.from < objects G) × (p.to < objects G))
    × Closed G (Marked ms)
    × TakenSingly (added G (p ∷ [])) (completed (added G (p ∷ [])) ms) ps

-- two lists have the same pairs, each as often
abbrev pub Alike : List Pair → List Pair → Type 0
Alike ps qs = (u t : ℕ) → leading u t ps ≡ leading u t qs

-- adding the pairs ps to the store G with the marks ms leaves the marks r
pub record AddPromise (G : Graph) (ps : List Pair) (ms r : List ℕ) : Type 0 where
  -- the enlarged store passes check 10
  pub passes : well_formed (added G ps) ≡ true
  pub smallest : Smallest G ps ms r
  -- the live set, if the marks were that before
  pub live : (starts : List ℕ) → LiveMarks G starts ms → LiveMarks (added G ps) starts r
  -- the marks of the same pairs given singly, in any order; each of those calls is accepted
  pub any_order : (qs : List Pair) → Alike ps qs → TakenSingly G ms qs × (r ≡ singly G ms qs)

-- taking references out leaves the store G and the marks r
pub record RemovePromise (G : Graph) (starts r : List ℕ) : Type 0 where
  -- the store passes check 10
  pub passes : well_formed G ≡ true
  -- the live set
  pub live : LiveMarks G starts r
  -- 1 for a start and 255 for others
  pub start_mark : (v : ℕ) → 0 < sum (hit v) starts → get_or r v 0 ≡ 1
  pub other_mark : (v : ℕ) → sum (hit v) starts ≡ 0 → Marked r v → get_or r v 0 ≡ new_mark
  -- the nonzero marks are those of a new finished collection
  pub finished : (marks : List ℕ) → FinishedMarks G starts marks → (v : ℕ) → Marked r v ↔ Marked marks v
