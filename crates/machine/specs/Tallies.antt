-- SPECIFICATION 4.6, the tallies: each is what the worker's own turns count, by a definition over the list of turns; and how
-- they add up to the counts.
use Rattle.std.specs.Prelude.{◌≡◌, refl, Bool, true, false, List, [], ◌∷◌, map, ℕ, ◌+◌, ◌*◌, ◌≤◌, length, get_or, replicate}
use Rattle.laws.specs.Sum.{sum, hit}
use Rattle.laws.specs.Span.{span}
use Rattle.graph.specs.Graph.{Graph, target}
use Rattle.graph.specs.Chain.{marks_at}
use Rattle.machine.specs.Row.{Row}
use Rattle.machine.specs.Run.{Run, run, carried, keep, rest}
use Rattle.machine.specs.Tally.{Tally, tally, no_tally}
use Rattle.machine.specs.Machine.{Setting, State, Entry, Worker, idle, asking, denied, ended, given, busy, Phase, poll, look, claim}
use Rattle.machine.specs.Machine.{worker, mark_of, live, start_runs, start, turn, turns, takes, entries}
use Rattle.machine.specs.Sound.{distinct_starts}
use Rattle.machine.specs.Events.{owed?, replies}
use Rattle.machine.specs.Owners.{claim_tells, Win, claims_won_of}
use Rattle.machine.specs.Call.{final}
use Rattle.machine.specs.Drawings.{Drawing, S, turns_A, naming0, gives, drawing, drawing_from}

-- ---- what one turn counts

-- the references that the turn takes off
abbrev pub turn_follows : Graph → State → Entry → ℕ
turn_follows G s x = length (takes (worker s x.worker) G s)

-- 1 for a claim that is lost
abbrev pub loses : Bool → ℕ
loses true = 0
loses false = 1

abbrev pub busy_loses : Phase → List Run → Graph → State → ℕ → ℕ
busy_loses poll rs G s b = 0
busy_loses (look k) rs G s b = 0
busy_loses (claim k) [] G s b = 0
busy_loses (claim k) (run e j ∷ rs) G s b = loses (claim_tells (mark_of s (target G e)) b).won

abbrev pub worker_loses : Worker → Graph → State → ℕ → ℕ
worker_loses idle G s b = 0
worker_loses asking G s b = 0
worker_loses denied G s b = 0
worker_loses ended G s b = 0
worker_loses (given rs) G s b = 0
worker_loses (busy c n p rs) G s b = busy_loses p rs G s b

-- the claims that the turn loses: one, or none
abbrev pub turn_loses : Graph → State → Entry → ℕ
turn_loses G s x = worker_loses (worker s x.worker) G s x.worker

-- the askers that the turn answers by a hand-over; it is the giver's turn
abbrev pub turn_hands : Graph → Setting → State → Entry → ℕ
turn_hands G g s x = replies owed? s.workers (turn G g s x).workers

-- ---- what the turns of worker b count, where turn x of state s counts f s x

unfoldable pub own_turns : (State → Entry → ℕ) → ℕ → Graph → Setting → State → List Entry → ℕ
unfolding turn
own_turns f b G g s [] = 0
own_turns f b G g s (x ∷ xs) = hit x.worker b * f s x + own_turns f b G g (turn G g s x) xs

-- the same of a call's turns
abbrev pub own_turns_of : (State → Entry → ℕ) → ℕ → Graph → List ℕ → ℕ → Setting → List Entry → ℕ
own_turns_of f b G starts W g xs = own_turns f b G g (start G starts W) xs

-- the claims of worker b that win
abbrev pub wins_of : ℕ → List Win → ℕ
wins_of b l = sum (λ (w : Win). hit w.winner b) l

-- ---- what the tallies ts say of the turns xs, of which the row r is reported
pub record Tallies (G : Graph) (starts : List ℕ) (W : ℕ) (g : Setting) (xs : List Entry) (r : Row) (ts : List Tally) : Type 0 where
  -- one for each worker
  pub each : length ts ≡ W
  -- followed and handed of all workers are the counts
  pub followed_total : sum (λ (t : Tally). t.followed) ts ≡ r.counts.followed
  pub handed_total : sum (λ (t : Tally). t.handed) ts ≡ r.counts.handed
  -- the claims won and the distinct starts are live
  pub won_total : sum (λ (t : Tally). t.won) ts + distinct_starts G starts ≡ r.counts.live
  -- a claim is followed, whether it is won or lost
  pub claims_followed : (b : ℕ) → (get_or ts b no_tally).won + (get_or ts b no_tally).lost ≤ (get_or ts b no_tally).followed
  -- each number is what the turns of worker b count
  pub followed_is : (b : ℕ) → (get_or ts b no_tally).followed ≡ own_turns_of (turn_follows G) b G starts W g xs
  pub won_is : (b : ℕ) → (get_or ts b no_tally).won ≡ wins_of b (claims_won_of G starts W g xs)
  pub lost_is : (b : ℕ) → (get_or ts b no_tally).lost ≡ own_turns_of (turn_loses G) b G starts W g xs
  pub handed_is : (b : ℕ) → (get_or ts b no_tally).handed ≡ own_turns_of (turn_hands G g) b G starts W g xs

-- ---- drawn

-- case A; case A's first five turns, after which worker 0 has handed over; and store S from 5, 0 and 5 again
unfoldable pub tallying : List Drawing
unfolding turns_A naming0
tallying =
    drawing S 2 1 1 turns_A (gives true 4 5 1 0 18 0)
    ∷ drawing S 2 1 1 (naming0 (0 ∷ 1 ∷ 0 ∷ 0 ∷ 0 ∷ [])) (gives false 2 1 1 0 5 2)
    ∷ drawing_from S (5 ∷ 0 ∷ 5 ∷ []) 1 6 1 (naming0 (replicate 13 0)) (gives true 6 6 0 0 13 0)
    ∷ []

pub tallies_hold :
    map (λ (d : Drawing). (final d.call).tallies) tallying
    ≡ (tally 3 2 1 1 ∷ tally 2 1 0 0 ∷ [])
    ∷ (tally 1 1 0 1 ∷ tally 0 0 0 0 ∷ [])
    ∷ (tally 6 4 0 0 ∷ [])
    ∷ []
unfolding tallying turns start entries live start_runs carried marks_at keep rest
tallies_hold = refl

-- repeated starts are one
pub starts_distinct : distinct_starts S (5 ∷ 0 ∷ 5 ∷ []) ∷ distinct_starts S (0 ∷ []) ∷ [] ≡ 2 ∷ 1 ∷ []
unfolding span sum hit
starts_distinct = refl
