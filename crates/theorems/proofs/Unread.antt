-- No turn reads the counts: each rule leaves the same with others, by its cases.
use mathlib.Core.Path.{◌≡◌, refl}
use mathlib.Core.Bool.{Bool, true, false}
use mathlib.Core.List.{List, [], ◌∷◌}
use Prim.Native.Nat.{ℕ, zero, suc}
use lib.Dec.{eqb}
use Rattle.graph.specs.Graph.{Graph, target}
use Rattle.machine.specs.declared.Counts.{Counts}
use Rattle.machine.specs.Ring.{Colour, white, black, colour_of}
use Rattle.machine.specs.Run.{Run, run, carried}
use Rattle.machine.specs.Machine.{Setting, State, Entry, Worker, idle, asking, denied, ended, given, busy, Cell, empty, from, Phase, poll, look, claim}
use Rattle.machine.specs.Machine.{worker, stopped, mark_of, shares, asks, home_turn, holder_turn, idle_turn, answer, poll_turn, look_turn, claims, claim_turn}
use Rattle.machine.specs.Machine.{busy_turn, worker_turn, turn}
use Rattle.machine.specs.Lamp.{recounted}

module _ (G : Graph) (g : Setting) (s : State) (c : Counts) where
  -- a rule leaves the same but for the counts
  abbrev Unread : (State → State) → Type 0
  Unread f = recounted c (f (recounted c s)) ≡ recounted c (f s)

  asks_unread : (w : Worker) (b v : ℕ) → Unread (λ (t : State). asks w t b v)
  asks_unread idle b v = refl
  asks_unread asking b v = refl
  asks_unread denied b v = refl
  asks_unread ended b v = refl
  asks_unread (given rs) b v = refl
  asks_unread (busy empty n p rs) b v = refl
  asks_unread (busy (from a) n p rs) b v = refl

  home_unread : (t d : Colour) → Unread (home_turn t d)
  home_unread white white = refl
  home_unread white black = refl
  home_unread black d = refl

  holder_unread : (b : ℕ) → Unread (holder_turn b)
  holder_unread zero = home_unread s.ring.token (colour_of s.ring 0)
  holder_unread (suc b) = refl

  idle_unread : (k : ℕ) (h : Bool) (b v : ℕ) → Unread (λ (t : State). idle_turn k h t b v)
  idle_unread (suc k) h b v = refl
  idle_unread zero true b v = holder_unread b
  idle_unread zero false b v = asks_unread (worker s v) b v

  answer_unread : (h : Bool) (b a n : ℕ) (rs : List Run) → Unread (λ (t : State). answer h g t b a n rs)
  answer_unread true b a n rs = refl
  answer_unread false b a n rs = refl

  poll_unread : (d : Cell) (b n : ℕ) (rs : List Run) → Unread (λ (t : State). poll_turn d g t b n rs)
  poll_unread empty b n rs = refl
  poll_unread (from a) b n rs = answer_unread (shares g.cutoff n (carried rs)) b a n rs

  look_unread : (x b : ℕ) (d : Cell) (n k e j : ℕ) (rs : List Run) → Unread (λ (t : State). look_turn x t b d n k e j rs)
  look_unread zero b d n k e j rs = refl
  look_unread (suc x) b d n k e j rs = refl

  claim_unread : (x b : ℕ) (d : Cell) (n k e j : ℕ) (rs : List Run)
      → Unread (λ (t : State). claim_turn (claims x G t b (target G e)) t b d n k e j rs)
  claim_unread zero b d n k e j rs = refl
  claim_unread (suc x) b d n k e j rs = refl

  busy_unread : (p : Phase) (rs : List Run) (b : ℕ) (d : Cell) (n : ℕ) → Unread (λ (t : State). busy_turn p rs G g t b d n)
  busy_unread poll rs b d n = poll_unread d b n rs
  busy_unread (look k) [] b d n = refl
  busy_unread (look k) (run e j ∷ rs) b d n = look_unread (mark_of s (target G e)) b d n k e j rs
  busy_unread (claim k) [] b d n = refl
  busy_unread (claim k) (run e j ∷ rs) b d n = claim_unread (mark_of s (target G e)) b d n k e j rs

  worker_unread : (w : Worker) (b v : ℕ) → Unread (λ (t : State). worker_turn w G g t b v)
  worker_unread idle b v = idle_unread (stopped (worker s 0)) (eqb b s.ring.holder) b v
  worker_unread asking b v = refl
  worker_unread denied b v = refl
  worker_unread ended b v = refl
  worker_unread (given rs) b v = refl
  worker_unread (busy d n p rs) b v = busy_unread p rs b d n

  pub turn_unread : (x : Entry) → Unread (λ (t : State). turn G g t x)
  unfolding turn
  turn_unread x = worker_unread (worker s x.worker) x.worker x.named
