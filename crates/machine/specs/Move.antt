-- SPECIFICATION 4.3 as rules, for the invariants: what a turn may do. Every turn of a sound state is a `Move` (`proofs/Move`). A `Move` need
-- not be a turn, since it does not look at whom an entry names; what a turn does is `Machine.turn`.
use Rattle.std.specs.Prelude.{◌≡◌, true, false, List, [], ◌∷◌, ◌≢◌, ℕ, zero, suc, ◌<◌, min, set}
use Rattle.graph.specs.Graph.{Graph, target}
use Rattle.machine.specs.Run.{Run, run, carried}
use Rattle.machine.specs.Machine.{Setting, State, Worker, idle, asking, denied, ended, given, busy, Cell, empty, from, Phase, poll, look, claim}
use Rattle.machine.specs.Machine.{phase, worker, stopped, mark_of, moves, becomes, passes, shares, answer, Claimed, not_claimed, claim_lost, claim_won}
use Rattle.machine.specs.Machine.{onward_runs, follows}
use Rattle.machine.specs.Ring.{white, colour_of, black_below}

-- Worker b's turn changes nothing.
pub data Quiet (s : State) (b : ℕ) : Worker → Type 0 where
  -- it has ended
  gone : Quiet s b ended
  -- it waits for a reply
  waiting : Quiet s b asking
  -- it is idle, the collection goes on, it does not hold the token, and it cannot ask whom it names
  unable : stopped (worker s 0) ≡ 0 → b ≢ s.ring.holder → Quiet s b idle

-- Worker b, which is idle, ends.
pub data Over (s : State) (b : ℕ) : Type 0 where
  -- the collection has ended, and worker 0 with it
  behind : 0 < stopped (worker s 0) → Over s b
  -- it is worker 0, and the token has come back; both are white
  home : b ≡ 0 → s.ring.holder ≡ 0 → s.ring.token ≡ white → colour_of s.ring 0 ≡ white → Over s b

-- an idle holder passes the token: worker 0 if the token or the worker is black, any other one always
abbrev pub Passing : State → ℕ → Type 0
Passing s zero = 0 < black_below s.ring
Passing s (suc b) = Unit {0}

-- Worker b changes, from the first to the second, and nothing else does.
pub data Alone (G : Graph) (g : Setting) (s : State) (b : ℕ) : Worker → Worker → Type 0 where
  -- an asker that was refused is idle again
  wakes : Alone G g s b denied idle
  -- an asker takes its hand-over up
  takes_up : {rs : List Run} → Alone G g s b (given rs) (busy empty 0 poll rs)
  -- an idle worker ends
  ends : Over s b → Alone G g s b idle ended
  -- a poll that finds the cell empty begins a batch
  polls : {n : ℕ} {rs : List Run}
      → Alone G g s b (busy empty n poll rs) (busy empty n (phase (min g.batch (carried rs))) rs)
  -- a look that finds the target unmarked makes the next turn a claim
  looks : {c : Cell} {n k e j : ℕ} {rs : List Run} → mark_of s (target G e) ≡ 0
      → Alone G g s b (busy c n (look k) (run e j ∷ rs)) (busy c n (claim k) (run e j ∷ rs))

-- In this phase worker b takes reference e off; so much of the batch is left, and this is found at the target.
pub data Taken (G : Graph) (s : State) (b e : ℕ) : Phase → ℕ → Claimed → Type 0 where
  -- a look finds the target marked
  seen : {k x : ℕ} → mark_of s (target G e) ≡ suc x → Taken G s b e (look k) k (not_claimed s)
  -- a claim finds it marked in the meantime
  lost : {k x : ℕ} → mark_of s (target G e) ≡ suc x → Taken G s b e (claim k) k (claim_lost s)
  -- a claim finds it unmarked, and marks it
  won : {k : ℕ} → mark_of s (target G e) ≡ 0 → Taken G s b e (claim k) k (claim_won G s b (target G e))

-- whoever stands in the cell waits for a reply
abbrev pub Waiting : State → Cell → Type 0
Waiting s empty = Unit {0}
Waiting s (from a) = worker s a ≡ asking

-- What a turn of worker b may do: the references that it takes off, and the state that it leaves.
pub data Move (G : Graph) (g : Setting) (s : State) (b : ℕ) : List ℕ → State → Type 0 where
  -- nothing changes
  still : Quiet s b (worker s b) → Move G g s b [] s
  -- b is idle and passes the token: no mark and no worker changes
  passed : worker s b ≡ idle → s.ring.holder ≡ b → stopped (worker s 0) ≡ 0 → Passing s b → Move G g s b [] (passes s b)
  -- b alone changes
  alone : {x y : Worker} → worker s b ≡ x → Alone G g s b x y → Move G g s b [] (becomes s b y)
  -- b is idle and asks a busy worker v whose cell is empty
  asked : (v : ℕ) {n : ℕ} {p : Phase} {rs : List Run} → worker s v ≡ busy empty n p rs → worker s b ≡ idle
      → Move G g s b [] (moves s (set (set s.workers v (busy (from b) n p rs)) b asking) 0 0)
  -- b polls and shares with the asker a in its cell
  hands : (a : ℕ) {n : ℕ} {rs : List Run} → worker s b ≡ busy (from a) n poll rs → worker s a ≡ asking
      → shares g.cutoff n (carried rs) ≡ true → Move G g s b [] (answer true g s b a n rs)
  -- b polls and refuses it
  refuses : (a : ℕ) {n : ℕ} {rs : List Run} → worker s b ≡ busy (from a) n poll rs → worker s a ≡ asking
      → shares g.cutoff n (carried rs) ≡ false → Move G g s b [] (answer false g s b a n rs)
  -- b follows reference e; left with nothing, it is idle and refuses an asker in its cell
  follow : {c : Cell} {n k e j : ℕ} {p : Phase} {rs : List Run} {o : Claimed} → worker s b ≡ busy c n p (run e j ∷ rs)
      → Taken G s b e p k o → Waiting s c → Move G g s b (e ∷ []) (follows s b c n k o (onward_runs e j o.opened rs))
