-- SPECIFICATION 4.3 and 4.6: who claimed what. What a claim tells, which claims the turns win, and what the marks then say.
use Rattle.std.specs.Prelude.{◌≡◌, refl, Bool, true, false, List, [], ◌∷◌, ◌++◌, ◌↔◌, ℕ, zero, suc, ◌*◌, ◌≤◌, ◌<◌, get_or}
use Rattle.laws.specs.Sum.{sum, hit}
use Rattle.graph.specs.Graph.{Graph, target}
use Rattle.machine.specs.Row.{Row}
use Rattle.machine.specs.Run.{Run, run}
use Rattle.machine.specs.Machine.{Setting, State, Entry, Worker, idle, asking, denied, ended, given, busy, Phase, poll, look, claim}
use Rattle.machine.specs.Machine.{claim_mark, worker, mark_of, start, turn}
use Rattle.machine.specs.Sound.{Marked}
use Rattle.machine.specs.Demand2.{FinishedMarks}

-- What a claim tells its caller: whether it is won, and the owner, which is the mark that stands there afterwards.
pub record ClaimRow : Type 0 where
  pub won : Bool
  pub owner : ℕ

-- worker b's claim, by the mark that it reads
abbrev pub claim_tells : ℕ → ℕ → ClaimRow
claim_tells zero b = record { won = true; owner = claim_mark b }
claim_tells (suc x) b = record { won = false; owner = suc x }

-- worker 1 claims an object that nobody has, and one that worker 2 has
pub claims_tell : claim_tells 0 1 ∷ claim_tells 3 1 ∷ [] ≡ record { won = true; owner = 2 } ∷ record { won = false; owner = 3 } ∷ []
claims_tell = refl

-- ---- the claims that turns win

-- a claim that is won: the object, and the worker
pub record Win : Type 0 where
  pub object : ℕ
  pub winner : ℕ

-- worker b's claim of object v, by whether it is won
abbrev pub win_of : Bool → ℕ → ℕ → List Win
win_of true v b = record { object = v; winner = b } ∷ []
win_of false v b = []

-- what a busy worker's turn wins
abbrev pub busy_wins : Phase → List Run → Graph → State → ℕ → List Win
busy_wins poll rs G s b = []
busy_wins (look k) rs G s b = []
busy_wins (claim k) [] G s b = []
busy_wins (claim k) (run e j ∷ rs) G s b = win_of (claim_tells (mark_of s (target G e)) b).won (target G e) b

-- what a worker's turn wins: one claim, or none
abbrev pub wins : Worker → Graph → State → ℕ → List Win
wins idle G s b = []
wins asking G s b = []
wins denied G s b = []
wins ended G s b = []
wins (given rs) G s b = []
wins (busy c n p rs) G s b = busy_wins p rs G s b

-- the claims that the turns win, in turn order
unfoldable pub claims_won : Graph → Setting → State → List Entry → List Win
unfolding turn
claims_won G g s [] = []
claims_won G g s (x ∷ xs) = wins (worker s x.worker) G s x.worker ++ claims_won G g (turn G g s x) xs

-- those of a call's turns
abbrev pub claims_won_of : Graph → List ℕ → ℕ → Setting → List Entry → List Win
claims_won_of G starts W g xs = claims_won G g (start G starts W) xs

-- ---- the marks

-- how often object v is won; how often by worker b
abbrev pub won_of : ℕ → List Win → ℕ
won_of v l = sum (λ (w : Win). hit v w.object) l

abbrev pub won_by : ℕ → ℕ → List Win → ℕ
won_by v b l = sum (λ (w : Win). hit v w.object * hit b w.winner) l

-- object v's mark, where these claims were won
pub data Owned (starts : List ℕ) (l : List Win) (v : ℕ) : ℕ → Type 0 where
  -- 0: it is no start, and nobody won it
  unclaimed : sum (hit v) starts ≡ 0 → won_of v l ≡ 0 → Owned starts l v 0
  -- 1 for a start, which nobody won
  a_start : 0 < sum (hit v) starts → won_of v l ≡ 0 → Owned starts l v 1
  -- b + 1 for the worker b whose claim it was; it was won once
  claimed : (b : ℕ) → sum (hit v) starts ≡ 0 → won_of v l ≡ 1 → won_by v b l ≡ 1 → Owned starts l v (claim_mark b)

-- what the marks say of the turns xs, of which the row r is reported
pub record Owners (G : Graph) (starts : List ℕ) (W : ℕ) (g : Setting) (xs : List Entry) (r : Row) (marks : List ℕ) : Type 0 where
  -- each mark is 0, 1 for a start, or b + 1 for the worker b whose claim it was
  pub each : (v : ℕ) → Owned starts (claims_won_of G starts W g xs) v (get_or marks v 0)
  -- marks are 0 to W
  pub limit : (v : ℕ) → get_or marks v 0 ≤ W
  -- finished: every finished collection of this graph from these starts marks the same objects
  pub same_set : r.finished ≡ true → (marks' : List ℕ) → FinishedMarks G starts marks' → (v : ℕ) → Marked marks v ↔ Marked marks' v
