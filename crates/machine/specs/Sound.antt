-- The invariants of the machine: `Sound`, what the words of a state can show, and `Fresh`, what a collection begun
-- afresh has besides. Every turn keeps both.
use Rattle.std.specs.Prelude.{◌≡◌, ℕ, suc, ◌+◌, ◌*◌, ◌≤◌, ◌<◌, min, List, [], ◌∷◌, length, get_or}
use Rattle.laws.specs.Sum.{sum, hit}
use Rattle.laws.specs.Every.{Every}
use Rattle.laws.specs.Grouping.{itself}
use Rattle.laws.specs.Span.{span}
use Rattle.graph.specs.Graph.{Graph, Leaves, objects, references, first, after, target}
use Rattle.graph.specs.Chain.{Reach, set?, over_marked}
use Rattle.graph.specs.Leaving.{leaving_sum, leaving_unmarked}
use Rattle.machine.specs.Run.{Run, run, size}
use Rattle.machine.specs.Machine.{Setting, State, Worker, idle, asking, denied, ended, given, busy, Cell, empty, from, Phase, poll, look, claim}
use Rattle.machine.specs.Tally.{Tally, no_tally}
use Rattle.machine.specs.Machine.{worker, runs_of, carried_by, carries?, stopped, carried_all, live}
use Rattle.machine.specs.Ring.{black_below}

-- object v is marked
abbrev pub Marked : List ℕ → ℕ → Type 0
Marked ms v = 0 < get_or ms v 0

-- ---- one worker

-- where a run begins
abbrev pub start_of : Run → ℕ
start_of (run f k) = f

-- the run lies among the targets
abbrev pub InTargets : Graph → Run → Type 0
InTargets G r = start_of r + size r ≤ references G

-- the run's references all leave one marked object
pub record Within (G : Graph) (ms : List ℕ) (r : Run) : Type 0 where
  pub object : ℕ
  pub is_object : object < objects G
  pub is_marked : Marked ms object
  pub begins : first G object ≤ start_of r
  pub ends : start_of r + size r ≤ after G object

-- the run is all references of one object
pub record Whole (G : Graph) (r : Run) : Type 0 where
  pub object : ℕ
  pub is_object : object < objects G
  pub begins : start_of r ≡ first G object
  pub ends : start_of r + size r ≡ after G object

-- all but the last of some runs are whole
abbrev pub WholeButLast : Graph → List Run → Type 0
WholeButLast G [] = Unit {0}
WholeButLast G (r ∷ []) = Unit {0}
WholeButLast G (r ∷ q ∷ rs) = Whole G r × WholeButLast G (q ∷ rs)

-- a run is whole unless it is the first or the last
abbrev pub WholeInside : Graph → List Run → Type 0
WholeInside G [] = Unit {0}
WholeInside G (r ∷ rs) = WholeButLast G rs

-- the batch of a phase, and of a worker; one that is not busy has none
abbrev pub batch_of : Phase → ℕ
batch_of poll = 0
batch_of (look k) = suc k
batch_of (claim k) = suc k

abbrev pub batch_in : Worker → ℕ
batch_in idle = 0
batch_in asking = 0
batch_in denied = 0
batch_in ended = 0
batch_in (given rs) = 0
batch_in (busy c n p rs) = batch_of p

-- a worker that is busy or owed a hand-over has runs; the others have none, by what a worker is
abbrev pub Supplied : Worker → Type 0
Supplied idle = Unit {0}
Supplied asking = Unit {0}
Supplied denied = Unit {0}
Supplied ended = Unit {0}
Supplied (given rs) = 0 < length rs
Supplied (busy c n p rs) = 0 < length rs

-- ---- what is summed over the workers

-- 1 for a cell that holds asker a; for a busy worker with such a cell
abbrev pub cell_holds : ℕ → Cell → ℕ
cell_holds a empty = 0
cell_holds a (from b) = hit b a

abbrev pub holds : ℕ → Worker → ℕ
holds a idle = 0
holds a asking = 0
holds a denied = 0
holds a ended = 0
holds a (given rs) = 0
holds a (busy c n p rs) = cell_holds a c

-- 1 for an asker without a reply
abbrev pub waits : Worker → ℕ
waits idle = 0
waits asking = 1
waits denied = 0
waits ended = 0
waits (given rs) = 0
waits (busy c n p rs) = 0

-- a busy worker's since
abbrev pub since_of : Worker → ℕ
since_of idle = 0
since_of asking = 0
since_of denied = 0
since_of ended = 0
since_of (given rs) = 0
since_of (busy c n p rs) = n

-- the sum of f over the reference numbers of a run, of runs, of what a worker carries
abbrev pub run_sum : (ℕ → ℕ) → Run → ℕ
run_sum f (run e k) = span f e (suc k)

unfoldable pub runs_sum : (ℕ → ℕ) → List Run → ℕ
unfolding sum
runs_sum f rs = sum (run_sum f) rs

abbrev pub held_sum : (ℕ → ℕ) → Worker → ℕ
held_sum f w = runs_sum f (runs_of w)

-- ---- the tallies

-- worker b's tally; one that is not there has none
abbrev pub tally_of : State → ℕ → Tally
tally_of s b = get_or s.tallies b no_tally

-- what the tallies of all workers sum to
abbrev pub followed_sum : State → ℕ
followed_sum s = sum (λ (t : Tally). t.followed) s.tallies

abbrev pub won_sum : State → ℕ
won_sum s = sum (λ (t : Tally). t.won) s.tallies

abbrev pub handed_sum : State → ℕ
handed_sum s = sum (λ (t : Tally). t.handed) s.tallies

-- how many objects are starts; one that stands in the list twice is one object
abbrev pub distinct_starts : Graph → List ℕ → ℕ
distinct_starts G starts = span (λ (v : ℕ). set? (sum (hit v) starts)) 0 (objects G)

-- ---- the state

-- how often reference e is carried
abbrev pub carried_times : State → ℕ → ℕ
carried_times s e = sum (held_sum (hit e)) s.workers

-- a mark for each of n objects; a since, a colour and a tally for each of W workers
pub record Sized (n W : ℕ) (s : State) : Type 0 where
  pub marks_length : length s.marks ≡ n
  pub workers_length : length s.workers ≡ W
  pub rested_length : length s.rested ≡ W
  pub colours_length : length s.ring.colours ≡ W
  pub tallies_length : length s.tallies ≡ W

-- What the words of a collection can show, whoever wrote them: the conditions of SPECIFICATION 8.2 in their order, by their
-- numbers. Only 20 and 21 are not here: a turn keeps them in a collection begun afresh, by `Fresh`, and else need not. A turn
-- keeps a state sound (`sound_turn`), and a sound collection that is finished has marked every reachable object (`all_marked_lem`).
pub record Sound (G : Graph) (starts : List ℕ) (W : ℕ) (g : Setting) (s : State) : Type 0 where
  pub sized : Sized (objects G) W s
  -- 1. Each mark is 0 to W.
  pub marks_limit : (v : ℕ) → get_or s.marks v 0 ≤ W
  -- 2. Each start is marked.
  pub starts_marked : (v : ℕ) → 0 < sum (hit v) starts → Marked s.marks v
  -- 3. live is the number of marked objects.
  pub live_is : s.counts.live ≡ live s.marks
  -- 4. carrying is the number of workers that carry references.
  pub carrying_is : s.counts.carrying ≡ sum carries? s.workers
  -- 5 to 7. Each run, which is never empty, lies among the references of one object, and that one is marked.
  pub runs_within : (b : ℕ) → Every (Within G s.marks) (runs_of (worker s b))
  -- 8. A run that is neither the first nor the last of its worker is whole.
  pub runs_whole : (b : ℕ) → WholeInside G (runs_of (worker s b))
  -- 9. No reference is carried twice.
  pub carried_once : (e : ℕ) → carried_times s e ≤ 1
  -- 10. followed, the references carried and those that leave unmarked objects add up to m.
  pub total : s.counts.followed + carried_all s + leaving_unmarked G s.marks ≡ references G
  -- 11. A reference of a marked object that nobody carries has a marked target.
  pub targets_marked : (e v : ℕ) → Leaves G e v → Marked s.marks v → carried_times s e ≡ 0 → Marked s.marks (target G e)
  -- 12. A worker carries references exactly if it is busy or owed a hand-over.
  pub supplied : (b : ℕ) → Supplied (worker s b)
  -- 13 to 15. A worker that asks and has no reply is in one cell, of a busy worker, and nobody else is in a cell. Only one that
  -- asks has a reply, by what a worker is.
  pub cells : (a : ℕ) → sum (holds a) s.workers ≡ waits (worker s a)
  -- 16. A batch is at most D.
  pub batch_limit : (b : ℕ) → batch_in (worker s b) ≤ g.batch
  -- 17 and 18. A batch is at most what its worker carries. Only one above 0 is about to claim, by what a phase is.
  pub batch_carried : (b : ℕ) → batch_in (worker s b) ≤ carried_by (worker s b)
  -- 19. No worker has ended while references are carried.
  pub stopped_empty : 0 < sum stopped s.workers → carried_all s ≡ 0
  -- 22. The sinces of all workers together are at most followed. A busy worker has its since beside its batch. One that is owed a
  -- hand-over has 0, which is 8.1's: words with another hold no collection.
  pub since_followed : sum since_of s.workers + sum itself s.rested ≤ s.counts.followed
  pub rested_carrying : (b : ℕ) → 0 < carried_by (worker s b) → get_or s.rested b 0 ≡ 0
  -- 23. refused is at most moved.
  pub refused_moved : s.counts.refused ≤ s.counts.moved
  -- 24. The tallies' followed add up to followed, their handed to handed, and their won and the different starts to live.
  pub tallies_followed : followed_sum s ≡ s.counts.followed
  pub tallies_handed : handed_sum s ≡ s.counts.handed
  pub tallies_won : won_sum s + distinct_starts G starts ≡ s.counts.live
  -- 25. No worker has won and lost more than it followed.
  pub tallies_claims : (b : ℕ) → (tally_of s b).won + (tally_of s b).lost ≤ (tally_of s b).followed
  -- 26. The token is at exactly one worker.
  pub holder_below : s.ring.holder < W
  -- 27. Every worker above the holder carries nothing, unless the token, the holder or a worker below it is black.
  pub above_holder : black_below s.ring ≡ 0 → (b : ℕ) → s.ring.holder < b → carried_by (worker s b) ≡ 0
  -- 28. If a worker has ended, worker 0 has, and holds the token.
  pub first_ended : 0 < sum stopped s.workers → (stopped (worker s 0) ≡ 1) × (s.ring.holder ≡ 0)

-- ---- a collection begun afresh

-- 1 for a worker that is asking, with a reply or without
abbrev pub asks? : Worker → ℕ
asks? idle = 0
asks? asking = 1
asks? denied = 1
asks? ended = 0
asks? (given rs) = 1
asks? (busy c n p rs) = 0

-- the turns that a worker may still make without following: 3 with a batch and 1 with a claim, 2 with an asker in the
-- cell, 1 for having ended
abbrev pub cell_turns : Cell → ℕ
cell_turns empty = 0
cell_turns (from a) = 2

abbrev pub phase_turns : Phase → ℕ
phase_turns poll = 0
phase_turns (look k) = 3
phase_turns (claim k) = 4

abbrev pub turns_of : Worker → ℕ
turns_of idle = 0
turns_of asking = 0
turns_of denied = 0
turns_of ended = 1
turns_of (given rs) = 0
turns_of (busy c n p rs) = phase_turns p + cell_turns c

-- what a worker carries, counted twice, up to K
abbrev pub up_to : ℕ → Worker → ℕ
up_to K w = min (2 * carried_by w) K

-- What a collection begun afresh has besides, where l is its trail so far.
pub record Fresh (G : Graph) (starts : List ℕ) (g : Setting) (s : State) (l : List ℕ) : Type 0 where
  -- a marked object is reachable
  pub only_reached : (v : ℕ) → Marked s.marks v → Reach G starts v
  -- Each reference that leaves a marked object is either in the trail or carried, once, and no other is: the two sums
  -- over the numbers agree for every weight f. With f counting one number, it stands there as often; with f = 1, the
  -- lengths agree.
  pub once : (f : ℕ → ℕ) → sum f l + sum (held_sum f) s.workers ≡ over_marked (leaving_sum G f) 0 s.marks
  -- the turns made are paid for by references followed, and by what each worker may still do without following
  pub turn_count : s.counts.moved + sum asks? s.workers ≤ 7 * length l + sum turns_of s.workers
  -- so are the hand-overs
  pub handed_count : g.cutoff * s.counts.handed + sum since_of s.workers
      ≤ 3 * length l + sum (up_to g.cutoff) s.workers
