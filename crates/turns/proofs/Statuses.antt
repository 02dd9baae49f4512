-- From a status word to what the worker is: which function a turn calls, and when nothing changes.
use mathlib.Core.Path.{◌≡◌, refl, sym, ap, ◌∙◌}
use mathlib.Core.Logic.{◌≢◌}
use mathlib.Core.List.{List}
use Prim.Native.Nat.{ℕ, zero, suc}
use Rattle.graph.specs.Graph.{Graph}
use Rattle.machine.specs.Machine.{Worker, idle, asking, denied, ended, given, busy, Cell, empty, Phase, poll, look, claim, worker, runs_of, worker_turn}
use Rattle.machine.specs.Sound.{since_of}
use Rattle.worker.specs.declared.registers.Block.{Block}
use Rattle.worker.specs.Registers.{block_at}
use Rattle.worker.specs.Status.{phase_word}
use Rattle.step.specs.declared.Setup.{Setup}
use Rattle.step.specs.declared.Progress.{Progress}
use Rattle.step.specs.Held.{memory, setting_of, stretch_at, BlockIs, Holds}
use Rattle.step.specs.Turned.{turned, Ready}
use Rattle.idle.specs.Idle.{IsIdle}
use Rattle.follow.specs.Following.{IsGiven, IsLooking, IsClaiming}
use Rattle.poll.specs.Polling.{IsPolling}
use Rattle.turns.specs.Lent.{IsLent}
use Rattle.step.proofs.Turned.{turn_as}

-- the status word of a worker
abbrev status_of : Worker → ℕ
status_of idle = 0
status_of asking = 1
status_of denied = 2
status_of ended = 3
status_of (given rs) = 4
status_of (busy c n p rs) = phase_word p

status_is : (G : Graph) (w : Worker) (r : Block) (l : List ℕ) → BlockIs G w r l → r.status ≡ status_of w
status_is G idle r l t = t
status_is G asking r l t = t
status_is G denied r l t = t
status_is G ended r l t = t
status_is G (given rs) r l t = t.0
status_is G (busy c n p rs) r l t = t.status

abbrev cell_of : Worker → Cell
cell_of idle = empty
cell_of asking = empty
cell_of denied = empty
cell_of ended = empty
cell_of (given rs) = empty
cell_of (busy c n p rs) = c

-- what is left of a batch after the reference that is looked at
abbrev left_in : Phase → ℕ
left_in poll = 0
left_in (look k) = k
left_in (claim k) = k

abbrev left_of : Worker → ℕ
left_of idle = 0
left_of asking = 0
left_of denied = 0
left_of ended = 0
left_of (given rs) = 0
left_of (busy c n p rs) = left_in p

-- the worker with this status that has what w has
abbrev likeness : ℕ → Worker → Worker
likeness zero w = idle
likeness (suc zero) w = asking
likeness (suc (suc zero)) w = denied
likeness (suc (suc (suc zero))) w = ended
likeness (suc (suc (suc (suc zero)))) w = given (runs_of w)
likeness (suc (suc (suc (suc (suc zero))))) w = busy (cell_of w) (since_of w) poll (runs_of w)
likeness (suc (suc (suc (suc (suc (suc zero)))))) w = busy (cell_of w) (since_of w) (look (left_of w)) (runs_of w)
likeness (suc (suc (suc (suc (suc (suc (suc zero))))))) w = busy (cell_of w) (since_of w) (claim (left_of w)) (runs_of w)
likeness (suc (suc (suc (suc (suc (suc (suc (suc k)))))))) w = ended

like_itself : (w : Worker) → w ≡ likeness (status_of w) w
like_itself idle = refl
like_itself asking = refl
like_itself denied = refl
like_itself ended = refl
like_itself (given rs) = refl
like_itself (busy c n poll rs) = refl
like_itself (busy c n (look k) rs) = refl
like_itself (busy c n (claim k) rs) = refl

-- ---- a state that is lent

module _ {g : Setup} {offsets targets : List ℕ} {b : ℕ} {marks work tallies regs : List ℕ} {p : Progress}
    (x : Ready (IsLent g offsets targets b) g (memory marks work tallies regs p)) where
  abbrev w : Worker
  w = worker x.state b

  targets_are : targets ≡ x.graph.targets
  targets_are = sym (ap (λ (G : Graph). G.targets) x.here.graph_is)

  -- the worker, as its status tells
  status : (block_at regs b).status ≡ status_of (worker x.state b)
  status = status_is x.graph (worker x.state b) (block_at regs b) (stretch_at g.stretch b work) (x.holds.each b x.here.low)

  like : (k : ℕ) → (block_at regs b).status ≡ k → worker x.state b ≡ likeness k (worker x.state b)
  like k z = like_itself (worker x.state b) ∙ ap (λ (i : ℕ). likeness i (worker x.state b)) (sym status ∙ z)

  -- what each kind is told
  pub idle_here : (block_at regs b).status ≡ 0 → IsIdle b x.graph x.state
  idle_here z = like 0 z

  pub denied_here : (block_at regs b).status ≡ 2 → worker x.state b ≡ denied
  denied_here z = like 2 z

  pub given_here : (block_at regs b).status ≡ 4 → IsGiven targets b x.graph x.state
  given_here z = record { runs = runs_of w; is = like 4 z; targets_are = targets_are }

  pub poll_here : (block_at regs b).status ≡ 5 → IsPolling b x.graph x.state
  poll_here z = record { cell = cell_of w; since = since_of w; runs = runs_of w; is = like 5 z }

  pub look_here : (block_at regs b).status ≡ 6 → IsLooking targets b x.graph x.state
  look_here z =
      record {
        cell = cell_of w;
        since = since_of w;
        left = left_of w;
        runs = runs_of w;
        is = like 6 z;
        targets_are = targets_are;
      }

  pub claim_here : (block_at regs b).status ≡ 7 → IsClaiming offsets targets b x.graph x.state
  claim_here z =
      record {
        cell = cell_of w;
        since = since_of w;
        left = left_of w;
        runs = runs_of w;
        is = like 7 z;
        graph_is = x.here.graph_is;
      }

  -- with any other status nothing changes
  pub holds_quiet : (block_at regs b).status ≢ 0 → (block_at regs b).status ≢ 2 → (block_at regs b).status ≢ 4 → (block_at regs b).status ≢ 5
      → (block_at regs b).status ≢ 6 → (block_at regs b).status ≢ 7 → (v : ℕ)
      → Holds x.graph g (turned g b v x.graph x.state) (memory marks work tallies regs p)
  holds_quiet n₀ n₂ n₄ n₅ n₆ n₇ v = rw (turn_as g b v x.graph x.state refl ∙ quiet w status) x.holds
    where
      quiet : (w : Worker) → (block_at regs b).status ≡ status_of w → worker_turn w x.graph (setting_of g) x.state b v ≡ x.state
      quiet idle z = absurd (n₀ z)
      quiet asking z = refl
      quiet denied z = absurd (n₂ z)
      quiet ended z = refl
      quiet (given rs) z = absurd (n₄ z)
      quiet (busy c n poll rs) z = absurd (n₅ z)
      quiet (busy c n (look k) rs) z = absurd (n₆ z)
      quiet (busy c n (claim k) rs) z = absurd (n₇ z)
