-- SPECIFICATION 4.7, how long an asker waits: a worker that was asked replies within 2D + 1 further turns of its own, whatever
-- the others do, and by a hand-over if it carried more than K + D references.
use Rattle.std.specs.Prelude.{◌≡◌, refl, List, [], ◌∷◌, ◌++◌, map, ℕ, zero, suc, ◌+◌, ◌-◌, ◌*◌, ◌≤◌, ◌<◌, length, replicate}
use Rattle.std.proofs.Common.{arith}
use Rattle.laws.specs.Grouping.{itself}
use Rattle.laws.specs.Span.{listing}
use Rattle.laws.specs.Sum.{hit}
use Rattle.graph.specs.Graph.{Graph}
use Rattle.graph.specs.Chain.{marks_at}
use Rattle.machine.specs.Run.{carried, keep, rest}
use Rattle.machine.specs.Machine.{Setting, State, Entry, Worker, worker, carried_by, live, start_runs, start, turns, entries}
use Rattle.machine.specs.Sound.{holds, waits}
use Rattle.machine.specs.Events.{owed?, refused?}
use Rattle.machine.specs.Demand3.{entries_of}
use Rattle.machine.specs.Drawings.{naming0}

-- the turns of its own within which a worker replies: D references at most, a look and a claim each, and a poll
abbrev pub reply_bound : Setting → ℕ
reply_bound g = 2 * g.batch + 1

-- a worker that carries more than this when it is asked hands over
abbrev pub refusal_bound : Setting → ℕ
refusal_bound g = g.cutoff + g.batch

-- 1 for an asker that has a reply, be it a hand-over or a refusal
abbrev pub replied? : Worker → ℕ
replied? w = owed? w + refused? w

-- worker b is busy, and asker a stands in its cell
abbrev pub Asked : State → ℕ → ℕ → Type 0
Asked s b a = 0 < holds a (worker s b)

-- Some of these turns, the first ones, bring the reply of b to a: b has at most k turns among them.
pub record Reply (G : Graph) (g : Setting) (s : State) (a b k : ℕ) (xs : List Entry) : Type 0 where
  pub until : List Entry
  pub later : List Entry
  pub parts : until ++ later ≡ xs
  pub own : entries_of b until ≤ k
  -- then a has its reply
  pub replied : replied? (worker (turns G g s until) a) ≡ 1
  -- it is a hand-over if b carried more than K + D
  pub handed : refusal_bound g < carried_by (worker s b) → owed? (worker (turns G g s until) a) ≡ 1

-- ---- a round-robin loop: the workers 0 to W - 1 in order, again and again

-- q rounds
unfoldable pub laps : ℕ → ℕ → List ℕ
unfolding listing
laps W zero = []
laps W (suc q) = listing itself 0 W ++ laps W q

-- behind a turn of worker a: the rest of that round, q rounds, and the next one up to a's turn, which would be its turn
-- number q + 1 since then
unfoldable pub behind : ℕ → ℕ → ℕ → List ℕ
unfolding listing laps
behind W a q = listing itself (suc a) (W - suc a) ++ (laps W q ++ listing itself 0 a)

-- whose turns these are
abbrev pub workers_of : List Entry → List ℕ
workers_of xs = map (λ (x : Entry). x.worker) xs

-- From state s on, whatever the turns are.
pub record Waits (G : Graph) (W : ℕ) (g : Setting) (s : State) : Type 0 where
  -- with 2D + 1 turns of b, a has its reply
  pub replies : (a b : ℕ) → Asked s b a → (xs : List Entry) → reply_bound g ≤ entries_of b xs → Reply G g s a b (reply_bound g) xs
  -- in a round-robin loop, if a asked with the turn before: before its own turn number 2D + 1 since then
  pub in_a_loop : (a b : ℕ) → Asked s b a → (xs : List Entry) → workers_of xs ≡ behind W a (2 * g.batch) → Reply G g s a b (reply_bound g) xs
  -- which are so many turns
  pub loop_length : (a : ℕ) → a < W → suc (length (behind W a (2 * g.batch))) ≡ W * reply_bound g

-- ---- both figures are tight

-- object 0 refers to c others
abbrev pub star : ℕ → Graph
star c = record { offsets = 0 ∷ replicate (suc c) c; targets = listing itself 1 c }

-- D and K
abbrev pub setting : ℕ → ℕ → Setting
setting D K = record { batch = D; cutoff = K }

-- Worker 0 of two begins a batch, worker 1 asks it, and these workers have turns, naming 0: the state then.
unfoldable pub asked : ℕ → ℕ → ℕ → List ℕ → State
unfolding turns start entries naming0 listing
asked D K c bs = turns (star c) (setting D K) (start (star c) (0 ∷ []) 2) (entries (naming0 (0 ∷ 1 ∷ bs)))

-- worker 1 has asked worker 0
pub asked_holds : Asked (asked 1 1 3 []) 0 1
unfolding asked live start_runs carried marks_at keep rest hit
asked_holds = omega arith

-- both figures with D 3 and K 5
pub figures : reply_bound (setting 3 5) ∷ refusal_bound (setting 3 5) ∷ [] ≡ 7 ∷ 8 ∷ []
figures = refl

-- whether worker 1 waits, is owed a hand-over, or has a refusal
abbrev pub asker : State → List ℕ
asker s = waits (worker s 1) ∷ owed? (worker s 1) ∷ refused? (worker s 1) ∷ []

-- With c references when asked: after 2D turns of worker 0 and after one more; in a round-robin loop, where worker 1 has turns
-- too, before the last turn of the bound and after it.
unfoldable pub tight : ℕ → ℕ → ℕ → List (List ℕ)
unfolding asked listing laps behind
tight D K c =
    asker (asked D K c (replicate (2 * D) 0))
    ∷ asker (asked D K c (replicate (2 * D + 1) 0))
    ∷ asker (asked D K c (laps 2 (2 * D)))
    ∷ asker (asked D K c (behind 2 1 (2 * D)))
    ∷ []

-- the asker waits, waits no longer, waits, waits no longer; with a refusal, and with a hand-over
abbrev pub refusing : List (List ℕ)
refusing = (1 ∷ 0 ∷ 0 ∷ []) ∷ (0 ∷ 0 ∷ 1 ∷ []) ∷ (1 ∷ 0 ∷ 0 ∷ []) ∷ (0 ∷ 0 ∷ 1 ∷ []) ∷ []

abbrev pub sharing : List (List ℕ)
sharing = (1 ∷ 0 ∷ 0 ∷ []) ∷ (0 ∷ 1 ∷ 0 ∷ []) ∷ (1 ∷ 0 ∷ 0 ∷ []) ∷ (0 ∷ 1 ∷ 0 ∷ []) ∷ []

-- 2D turns are too few; a worker that carries exactly K + D refuses, and one that carries one more hands over
pub tight_figures :
    tight 1 1 2 ∷ tight 1 1 3 ∷ tight 2 1 3 ∷ tight 2 1 4 ∷ tight 3 5 8 ∷ tight 3 5 9 ∷ []
    ≡ refusing ∷ sharing ∷ refusing ∷ sharing ∷ refusing ∷ sharing ∷ []
unfolding tight live start_runs carried marks_at keep rest
tight_figures = refl
