-- SPECIFICATION 4, rule by rule: state, start, turns, sharing, work memory and result. A worker is the drawing's box.
use Rattle.std.specs.Prelude.{◌≡◌, refl, ℕ, zero, suc, ◌+◌, ◌-◌, min, Bool, true, false, List, [], ◌∷◌, ◌++◌, length, get_or, set, replicate, leb, ltb, eqb}
use Rattle.laws.specs.Blocks.{laid}
use Rattle.laws.specs.Choice.{both, either}
use Rattle.laws.specs.Sum.{sum}
use Rattle.graph.specs.Graph.{Graph, objects, target}
use Rattle.graph.specs.Chain.{set?, marks_at}
use Rattle.desk.specs.Lengths.{stretch_length}
use Rattle.machine.specs.declared.Counts.{Counts}
use Rattle.machine.specs.Row.{Row, fresh_counts, count_move, count_follow}
use Rattle.machine.specs.Ring.{Colour, white, black, Ring, colour_of, fresh_ring, blackened, passed_on}
use Rattle.machine.specs.Tally.{Tally, tally, no_tally, tallied}
use Rattle.machine.specs.Run.{Run, run, run_from, carried, leaving, keep, rest, half, pairs}

-- A busy worker's batch, and what its next turn is: batch 0, a poll; batch k + 1, a look; batch k + 1, a claim.
pub data Phase : Type 0 where
  poll : Phase
  look : ℕ → Phase
  claim : ℕ → Phase

-- A query cell: empty, or the number of the asker.
pub data Cell : Type 0 where
  empty : Cell
  from : ℕ → Cell

-- A worker: idle; asking, with no reply yet, with a refusal (denied) or with a hand-over (given, the runs that it is
-- owed); busy, with its cell, since, phase and runs, the run to be followed first at the head; ended.
pub data Worker : Type 0 where
  idle asking denied ended : Worker
  given : List Run → Worker
  busy : Cell → ℕ → Phase → List Run → Worker

-- What the turns change: a mark for each object, the workers, the since of each worker that carries nothing, as it was when
-- it last carried something (0 for one that carries), the token ring, the tally of each worker, and the counts.
pub record State : Type 0 where
  pub marks : List ℕ
  pub workers : List Worker
  pub rested : List ℕ
  pub ring : Ring
  pub tallies : List Tally
  pub counts : Counts

-- D and K
pub record Setting : Type 0 where
  pub batch : ℕ
  pub cutoff : ℕ

-- A schedule entry: the worker, and whom to ask.
pub record Entry : Type 0 where
  pub worker : ℕ
  pub named : ℕ

-- the mark that a claim of worker b leaves; a start's mark is 1
abbrev pub claim_mark : ℕ → ℕ
claim_mark b = b + 1

-- the runs that a worker carries; a hand-over is carried by the asker from the sharing turn on
abbrev pub runs_of : Worker → List Run
runs_of idle = []
runs_of asking = []
runs_of denied = []
runs_of ended = []
runs_of (given rs) = rs
runs_of (busy c n p rs) = rs

-- how many references a worker carries
abbrev pub carried_by : Worker → ℕ
carried_by w = carried (runs_of w)

-- 1 for a worker that carries references
abbrev pub carries? : Worker → ℕ
carries? w = set? (carried_by w)

-- 1 for a worker that has ended
abbrev pub stopped : Worker → ℕ
stopped idle = 0
stopped asking = 0
stopped denied = 0
stopped ended = 1
stopped (given rs) = 0
stopped (busy c n p rs) = 0

-- how many references all workers carry
abbrev pub carried_all : State → ℕ
carried_all s = sum carried_by s.workers

-- Worker number b; one that is not there counts as ended.
abbrev pub worker : State → ℕ → Worker
worker s b = get_or s.workers b ended

-- Object v's mark; one that is not there counts as marked.
abbrev pub mark_of : State → ℕ → ℕ
mark_of s v = get_or s.marks v 1

-- how many marks are set
unfoldable pub live : List ℕ → ℕ
unfolding sum
live ms = sum set? ms

-- a mark above 1 counts once
pub live_counts : live (0 ∷ 2 ∷ 1 ∷ []) ≡ 2
unfolding live
live_counts = refl

-- ---- The start: only the starts are marked, worker 0 carries their runs; every cell empty, every since and batch 0.

-- the run of a start that is not marked yet; a repeated start adds nothing
abbrev pub new_run : ℕ → List Run → List Run
new_run zero rs = rs
new_run (suc k) rs = []

-- the runs of the starts in list order, where ms is what is marked before
unfoldable pub start_runs : Graph → List ℕ → List ℕ → List Run
start_runs G [] ms = []
start_runs G (v ∷ vs) ms = new_run (get_or ms v 1) (leaving G v) ++ start_runs G vs (set ms v 1)

-- busy with these runs, or idle with none
abbrev pub with_runs : List Run → Worker
with_runs [] = idle
with_runs (r ∷ rs) = busy empty 0 poll (r ∷ rs)

-- no mark is set
abbrev pub unmarked : Graph → List ℕ
unmarked G = replicate (objects G) 0

-- worker 0 is the only one that may carry references
unfoldable pub start : Graph → List ℕ → ℕ → State
start G starts W =
    record {
      marks = marks_at starts (unmarked G);
      workers = with_runs (start_runs G starts (unmarked G)) ∷ replicate (W - 1) idle;
      rested = replicate W 0;
      ring = fresh_ring W;
      tallies = replicate W no_tally;
      counts = fresh_counts (live (marks_at starts (unmarked G))) (carries? (with_runs (start_runs G starts (unmarked G))));
    }

-- ---- One turn. A turn that changes marks or workers goes through `moves` or `follows`, which count it. One that passes the
-- token goes through `passes` and is not counted.

-- the state with these workers, and the counts raised by these
abbrev pub moves : State → List Worker → ℕ → ℕ → State
moves s ws handed⁺ refused⁺ =
    record {
      marks = s.marks;
      workers = ws;
      rested = s.rested;
      ring = s.ring;
      tallies = s.tallies;
      counts = count_move s.counts handed⁺ refused⁺;
    }

-- worker b becomes w, and nothing else
abbrev pub becomes : State → ℕ → Worker → State
becomes s b w = moves s (set s.workers b w) 0 0

-- Batch k.
abbrev pub phase : ℕ → Phase
phase zero = poll
phase (suc k) = look k

-- An idle worker b asks the named worker v if that is another one, below W, busy, and its cell is empty: b stands in
-- the cell and is asking. An idle worker is not busy, and one that is not there counts as ended, so busy is enough.
abbrev pub asks : Worker → State → ℕ → ℕ → State
asks idle s b v = s
asks asking s b v = s
asks denied s b v = s
asks ended s b v = s
asks (given rs) s b v = s
asks (busy empty n p rs) s b v = moves s (set (set s.workers v (busy (from b) n p rs)) b asking) 0 0
asks (busy (from a) n p rs) s b v = s

-- worker b passes the token on
abbrev pub passes : State → ℕ → State
passes s b =
    record {
      marks = s.marks;
      workers = s.workers;
      rested = s.rested;
      ring = passed_on (length s.workers) b s.ring;
      tallies = s.tallies;
      counts = s.counts;
    }

-- worker 0 is idle, and the token has come back: where the token and the worker are white, it ends, and the collection with
-- it; else it sends a white one
abbrev pub home_turn : Colour → Colour → State → State
home_turn white white s = becomes s 0 ended
home_turn white black s = passes s 0
home_turn black c s = passes s 0

-- worker b is idle and holds the token: it passes it instead of asking
abbrev pub holder_turn : ℕ → State → State
holder_turn zero s = home_turn s.ring.token (colour_of s.ring 0) s
holder_turn (suc b) s = passes s (suc b)

-- an idle worker ends where worker 0 has ended, which the first argument tells; the second is whether it holds the token
abbrev pub idle_turn : ℕ → Bool → State → ℕ → ℕ → State
idle_turn (suc k) t s b v = becomes s b ended
idle_turn zero true s b v = holder_turn b s
idle_turn zero false s b v = asks (worker s v) s b v

-- a poll shares where more than K are carried, or where since is at least K and at least 2 are carried
abbrev pub shares : ℕ → ℕ → ℕ → Bool
shares K n c = either (ltb K c) (both (leb K n) (leb 2 c))

-- Sharing: the worker that shares, with since n before, keeps the first half of its references; the asker is owed the
-- rest. Both have since 0.
abbrev pub giver : Setting → ℕ → List Run → Worker
giver g n rs =
    let k = half (carried rs) in
    busy empty 0 (phase (min g.batch (carried (keep k rs)))) (keep k rs)

abbrev pub receiver : List Run → Worker
receiver rs = given (rest (half (carried rs)) rs)

-- the state as worker b hands over to asker a, before the runs move: b's tally counts it, b is black, and a's since is 0
abbrev pub handing : State → ℕ → ℕ → State
handing s b a =
    record {
      marks = s.marks;
      workers = s.workers;
      rested = set s.rested a 0;
      ring = blackened b s.ring;
      tallies = tallied s.tallies b (tally 0 0 0 1);
      counts = s.counts;
    }

-- The answer to asker a at a poll: a hand-over, which the tally of b counts, or a refusal. Then batch is the smaller of D
-- and what is carried.
abbrev pub answer : Bool → Setting → State → ℕ → ℕ → ℕ → List Run → State
answer true g s b a n rs = moves (handing s b a) (set (set s.workers b (giver g n rs)) a (receiver rs)) 1 0
answer false g s b a n rs =
    moves s (set (set s.workers b (busy empty n (phase (min g.batch (carried rs))) rs)) a denied) 0 1

-- a poll: the cell empties, and a batch begins
abbrev pub poll_turn : Cell → Setting → State → ℕ → ℕ → List Run → State
poll_turn empty g s b n rs = becomes s b (busy empty n (phase (min g.batch (carried rs))) rs)
poll_turn (from a) g s b n rs = answer (shares g.cutoff n (carried rs)) g s b a n rs

-- A worker after following: busy with what it has left, or idle.
abbrev pub onward : Cell → ℕ → ℕ → List Run → Worker
onward c n k [] = idle
onward c n k (r ∷ rs) = busy c n (phase k) (r ∷ rs)

-- a worker left with nothing is idle in that turn, and refuses an asker in its cell
abbrev pub dismiss : Cell → List Run → List Worker → List Worker
dismiss empty rs ws = ws
dismiss (from a) [] ws = set ws a denied
dismiss (from a) (r ∷ rs) ws = ws

-- the sinces of those that carry nothing: a worker b left with nothing keeps its own, n
abbrev pub resting : List Run → List ℕ → ℕ → ℕ → List ℕ
resting [] ns b n = set ns b n
resting (r ∷ rs) ns b n = ns

-- 1 for a worker left with nothing
abbrev pub emptied : List Run → ℕ
emptied [] = 1
emptied (r ∷ rs) = 0

-- how many askers that refuses
abbrev pub dismissed : Cell → List Run → ℕ
dismissed empty rs = 0
dismissed (from a) [] = 1
dismissed (from a) (r ∷ rs) = 0

-- What is found at a reference's target: the marks afterwards, the runs that it opens, how many marks are new, and how
-- many claims are lost.
pub record Claimed : Type 0 where
  pub marks : List ℕ
  pub opened : List Run
  pub won : ℕ
  pub lost : ℕ

-- a look finds the target marked: nothing is claimed
abbrev pub not_claimed : State → Claimed
not_claimed s = record { marks = s.marks; opened = []; won = 0; lost = 0 }

-- a claim finds it marked in the meantime
abbrev pub claim_lost : State → Claimed
claim_lost s = record { marks = s.marks; opened = []; won = 0; lost = 1 }

-- worker b marks the target v, whose references open; an object without references opens no run
abbrev pub claim_won : Graph → State → ℕ → ℕ → Claimed
claim_won G s b v = record { marks = set s.marks v (claim_mark b); opened = leaving G v; won = 1; lost = 0 }

-- a claim reads the mark again; the first argument is what it reads
abbrev pub claims : ℕ → Graph → State → ℕ → ℕ → Claimed
claims zero G s b v = claim_won G s b v
claims (suc x) G s b v = claim_lost s

-- the runs after the first reference of `run e j` is taken off: what is left of it, then what opened, then the others
abbrev pub onward_runs : ℕ → ℕ → List Run → List Run → List Run
onward_runs e j opened rs = run_from (suc e) j ++ (opened ++ rs)

-- Following takes the first reference off, lowers batch by 1 and raises since by 1: worker b with cell c, since n and
-- batch k + 1, where rs are its runs afterwards.
abbrev pub follows : State → ℕ → Cell → ℕ → ℕ → Claimed → List Run → State
follows s b c n k o rs =
    record {
      marks = o.marks;
      workers = dismiss c rs (set s.workers b (onward c (suc n) k rs));
      rested = resting rs s.rested b (suc n);
      ring = s.ring;
      tallies = tallied s.tallies b (tally 1 o.won o.lost 0);
      counts = count_follow s.counts o.won (dismissed c rs) (emptied rs);
    }

-- A look at the first reference, of `run e j`: where the target is marked, the reference is followed; where not, the
-- next turn is a claim. The first argument is the target's mark.
abbrev pub look_turn : ℕ → State → ℕ → Cell → ℕ → ℕ → ℕ → ℕ → List Run → State
look_turn zero s b c n k e j rs = becomes s b (busy c n (claim k) (run e j ∷ rs))
look_turn (suc x) s b c n k e j rs = follows s b c n k (not_claimed s) (onward_runs e j [] rs)

-- A claim of the target; the reference is followed, whether the claim is won or lost.
abbrev pub claim_turn : Claimed → State → ℕ → Cell → ℕ → ℕ → ℕ → ℕ → List Run → State
claim_turn o s b c n k e j rs = follows s b c n k o (onward_runs e j o.opened rs)

-- a busy worker's turn, by its phase and its first run; a busy worker always has one
abbrev pub busy_turn : Phase → List Run → Graph → Setting → State → ℕ → Cell → ℕ → State
busy_turn poll rs G g s b c n = poll_turn c g s b n rs
busy_turn (look k) [] G g s b c n = s
busy_turn (look k) (run e j ∷ rs) G g s b c n = look_turn (mark_of s (target G e)) s b c n k e j rs
busy_turn (claim k) [] G g s b c n = s
busy_turn (claim k) (run e j ∷ rs) G g s b c n =
    claim_turn (claims (mark_of s (target G e)) G s b (target G e)) s b c n k e j rs

-- Worker b's turn, naming v, by what b is.
abbrev pub worker_turn : Worker → Graph → Setting → State → ℕ → ℕ → State
worker_turn ended G g s b v = s
worker_turn asking G g s b v = s
worker_turn denied G g s b v = becomes s b idle
worker_turn (given rs) G g s b v = becomes s b (busy empty 0 poll rs)
worker_turn idle G g s b v = idle_turn (stopped (worker s 0)) (eqb b s.ring.holder) s b v
worker_turn (busy c n p rs) G g s b v = busy_turn p rs G g s b c n

unfoldable pub turn : Graph → Setting → State → Entry → State
turn G g s x = worker_turn (worker s x.worker) G g s x.worker x.named

-- the turns in order, each on what the turn before it left
unfoldable pub turns : Graph → Setting → State → List Entry → State
unfolding turn
turns G g s [] = s
turns G g s (x ∷ xs) = turns G g (turn G g s x) xs

-- ---- The trail: the references that the turns take off by following.

-- the reference e that a look takes off, by the target's mark
abbrev pub look_takes : ℕ → ℕ → List ℕ
look_takes zero e = []
look_takes (suc x) e = e ∷ []

-- what a busy worker's turn takes off
abbrev pub busy_takes : Phase → List Run → Graph → State → List ℕ
busy_takes poll rs G s = []
busy_takes (look k) [] G s = []
busy_takes (look k) (run e j ∷ rs) G s = look_takes (mark_of s (target G e)) e
busy_takes (claim k) [] G s = []
busy_takes (claim k) (run e j ∷ rs) G s = e ∷ []

-- what a worker's turn takes off: one reference, or none
abbrev pub takes : Worker → Graph → State → List ℕ
takes idle G s = []
takes asking G s = []
takes denied G s = []
takes ended G s = []
takes (given rs) G s = []
takes (busy c n p rs) G s = busy_takes p rs G s

-- the reference numbers that the turns take off, in turn order
unfoldable pub trail : Graph → Setting → State → List Entry → List ℕ
unfolding turn
trail G g s [] = []
trail G g s (x ∷ xs) = takes (worker s x.worker) G s ++ trail G g (turn G g s x) xs

-- a schedule as entries: two bytes each, the worker and whom to ask
unfoldable pub entries : List ℕ → List Entry
entries [] = []
entries (b ∷ []) = []
entries (b ∷ v ∷ l) = record { worker = b; named = v } ∷ entries l

-- ---- What is left behind.

-- every worker has ended
unfoldable pub all_ended : List Worker → Bool
all_ended [] = true
all_ended (idle ∷ ws) = false
all_ended (asking ∷ ws) = false
all_ended (denied ∷ ws) = false
all_ended (ended ∷ ws) = all_ended ws
all_ended (given rs ∷ ws) = false
all_ended (busy c n p rs ∷ ws) = false

-- whether all have ended, and the counts
abbrev pub result : State → Row
result s = record { number = 0; finished = all_ended s.workers; counts = s.counts }

-- one worker's stretch: its runs' pairs, then zeros
unfoldable pub stretch : ℕ → Worker → List ℕ
unfolding pairs
stretch n w = pairs (runs_of w) ++ replicate (stretch_length n - length (pairs (runs_of w))) 0

-- the work memory: the stretches laid end to end
unfoldable pub memory : ℕ → List Worker → List ℕ
unfolding stretch laid
memory n ws = laid (stretch n) ws
