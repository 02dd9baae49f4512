-- A turn of a sound state is a move, by what the worker is: one lemma for each definition that decides.
use mathlib.Core.Path.{◌≡◌, refl, sym, ap}
use mathlib.Core.Bool.{Bool, true, false}
use mathlib.Core.List.{List, [], ◌∷◌}
use Prim.Native.Nat.{ℕ, zero, suc, ◌≤◌}
use native.Mathlib.Omega.{arith}
use lib.Dec.{eqb}
use borrow.Author.Tests.{eqb-true, eqb-false}
use Rattle.graph.specs.Graph.{Graph, target}
use Rattle.machine.specs.Run.{Run, run, carried}
use Rattle.machine.specs.Machine.{Setting, State, Entry, Worker, idle, asking, denied, ended, given, busy, Cell, empty, from, Phase, poll, look, claim, worker, mark_of}
use Rattle.machine.specs.Machine.{stopped, carried_all, asks, passes, home_turn, holder_turn, idle_turn, shares, answer, claims, look_turn, claim_turn, busy_turn, worker_turn, turn, look_takes, busy_takes, takes}
use Rattle.machine.specs.Accepted.{Accepted}
use Rattle.machine.specs.Sound.{Sound}
use Rattle.machine.specs.Move.{Quiet, gone, waiting, unable, behind, home, Passing, wakes, takes_up, ends, polls, looks, seen, lost, won, Waiting, Move, still, passed, alone, asked, hands, refuses, follow}
use Rattle.machine.specs.Ring.{Colour, white, black, shade, colour_of}
use Rattle.theorems.proofs.Facts.{busy_some, busy_carried, busy_carried_all, asker_asking}
use Rattle.theorems.proofs.Ring.{home_black}

module _ {G : Graph} {starts : List ℕ} {W : ℕ} {g : Setting} {s : State} (A : Accepted G starts W g) (S : Sound G starts W g s) where
  waits_there : (b : ℕ) (c : Cell) {n : ℕ} {p : Phase} {rs : List Run} → worker s b ≡ busy c n p rs → Waiting s c
  waits_there b empty q = tt
  waits_there b (from a) q = asker_asking A S b q

  move_look : (x b : ℕ) (c : Cell) (n k e j : ℕ) (rs : List Run) → worker s b ≡ busy c n (look k) (run e j ∷ rs)
      → mark_of s (target G e) ≡ x → Move G g s b (look_takes x e) (look_turn x s b c n k e j rs)
  move_look zero b c n k e j rs q m = alone q (looks m)
  move_look (suc x) b c n k e j rs q m = follow q (seen m) (waits_there b c q)

  move_claim : (x b : ℕ) (c : Cell) (n k e j : ℕ) (rs : List Run) → worker s b ≡ busy c n (claim k) (run e j ∷ rs)
      → mark_of s (target G e) ≡ x → Move G g s b (e ∷ []) (claim_turn (claims x G s b (target G e)) s b c n k e j rs)
  move_claim zero b c n k e j rs q m = follow q (won m) (waits_there b c q)
  move_claim (suc x) b c n k e j rs q m = follow q (lost m) (waits_there b c q)

  move_answer : (t : Bool) (b a n : ℕ) (rs : List Run) → worker s b ≡ busy (from a) n poll rs
      → shares g.cutoff n (carried rs) ≡ t → Move G g s b [] (answer t g s b a n rs)
  move_answer true b a n rs q t = hands a q (asker_asking A S b q) t
  move_answer false b a n rs q t = refuses a q (asker_asking A S b q) t

  move_busy : (p : Phase) (rs : List Run) (b : ℕ) (c : Cell) (n : ℕ) → worker s b ≡ busy c n p rs
      → Move G g s b (busy_takes p rs G s) (busy_turn p rs G g s b c n)
  move_busy poll rs b empty n q = alone q polls
  move_busy poll rs b (from a) n q = move_answer (shares g.cutoff n (carried rs)) b a n rs q refl
  move_busy (look k) [] b c n q = absurd (omega (arith, busy_some A S b q))
  move_busy (look k) (run e j ∷ rs) b c n q = move_look (mark_of s (target G e)) b c n k e j rs q refl
  move_busy (claim k) [] b c n q = absurd (omega (arith, busy_some A S b q))
  move_busy (claim k) (run e j ∷ rs) b c n q = move_claim (mark_of s (target G e)) b c n k e j rs q refl

  move_asks : (w : Worker) (b v : ℕ) → worker s b ≡ idle → worker s v ≡ w → Quiet s b (worker s b) → Move G g s b [] (asks w s b v)
  move_asks idle b v q r h = still h
  move_asks asking b v q r h = still h
  move_asks denied b v q r h = still h
  move_asks ended b v q r h = still h
  move_asks (given rs) b v q r h = still h
  move_asks (busy empty n p rs) b v q r h = asked v r q
  move_asks (busy (from a) n p rs) b v q r h = still h

  -- worker 0 has the token back
  move_home : (c d : Colour) → worker s 0 ≡ idle → s.ring.holder ≡ 0 → stopped (worker s 0) ≡ 0 → s.ring.token ≡ c
      → colour_of s.ring 0 ≡ d → Move G g s 0 [] (home_turn c d s)
  move_home white white q e o t u = alone q (ends (home refl e t u))
  move_home white black q e o t u = passed q e o (omega (arith, home_black s.ring e, ap shade u))
  move_home black d q e o t u = passed q e o (omega (arith, home_black s.ring e, ap shade t))

  move_holder : (b : ℕ) → worker s b ≡ idle → s.ring.holder ≡ b → stopped (worker s 0) ≡ 0 → Move G g s b [] (holder_turn b s)
  move_holder zero q e o = move_home s.ring.token (colour_of s.ring 0) q e o refl refl
  move_holder (suc b) q e o = passed q e o tt

  move_idle : (k : ℕ) (t : Bool) (b v : ℕ) → worker s b ≡ idle → stopped (worker s 0) ≡ k → eqb b s.ring.holder ≡ t
      → Move G g s b [] (idle_turn k t s b v)
  move_idle (suc k) t b v q h e = alone q (ends (behind (omega arith)))
  move_idle zero true b v q h e = move_holder b q (sym (eqb-true b s.ring.holder e)) h
  move_idle zero false b v q h e =
      move_asks (worker s v) b v q refl (rw q (unable h (eqb-false b s.ring.holder e)))

  move_worker : (w : Worker) (b v : ℕ) → worker s b ≡ w → Move G g s b (takes w G s) (worker_turn w G g s b v)
  move_worker ended b v q = still (rw q gone)
  move_worker asking b v q = still (rw q waiting)
  move_worker denied b v q = alone q wakes
  move_worker (given rs) b v q = alone q takes_up
  move_worker idle b v q = move_idle (stopped (worker s 0)) (eqb b s.ring.holder) b v q refl refl
  move_worker (busy c n p rs) b v q = move_busy p rs b c n q

  -- a turn of a sound state is one of these
  pub move : (x : Entry) → Move G g s x.worker (takes (worker s x.worker) G s) (turn G g s x)
  unfolding turn
  move x = move_worker (worker s x.worker) x.worker x.named refl

-- a turn of b from s to s' changes nothing, passes the token, or raises moved by 1, and handed by 1 at most
pub data Counted (s : State) (b : ℕ) : State → Type 0 where
  nothing : Quiet s b (worker s b) → Counted s b s
  passing : worker s b ≡ idle → s.ring.holder ≡ b → Passing s b → Counted s b (passes s b)
  moving : (s' : State) → s'.counts.moved ≡ suc s.counts.moved → s'.counts.handed ≤ suc s.counts.handed
      → (carried_all s ≡ 0 → s'.ring ≡ s.ring) → Counted s b s'

module _ {G : Graph} {starts : List ℕ} {W : ℕ} {g : Setting} {s : State} (A : Accepted G starts W g) (S : Sound G starts W g s) where
  -- every move does; while nobody carries anything nobody turns black
  pub moved_one : {b : ℕ} {s' : State} {t : List ℕ} → Move G g s b t s' → Counted s b s'
  moved_one (still h) = nothing h
  moved_one (passed q e o h) = passing q e h
  moved_one {s'} (alone q r) = moving s' (omega arith) (omega arith) (λ z. refl)
  moved_one {s'} (asked v q r) = moving s' (omega arith) (omega arith) (λ z. refl)
  moved_one {b} {s'} (hands a q r h) =
      moving s' (omega arith) (omega arith) (λ z. absurd (omega (arith, z, busy_carried A S b q, busy_carried_all A S b q)))
  moved_one {s'} (refuses a q r h) = moving s' (omega arith) (omega arith) (λ z. refl)
  moved_one {s'} (follow q r w) = moving s' (omega arith) (omega arith) (λ z. refl)
