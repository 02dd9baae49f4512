-- The sinces of workers that carry nothing, and who carries: what every move does to them.
use mathlib.Core.Path.{◌≡◌, refl, ap, ◌∙◌}
use mathlib.Core.List.{List, [], ◌∷◌}
use mathlib.Core.Logic.{◌⊎◌, inl, inr, ⊎_elim, ◌≢◌}
use Prim.Native.Nat.{ℕ, zero, suc, ◌+◌, ◌≤◌, ◌<◌, min}
use native.Mathlib.Omega.{arith}
use lib.ListN.{length, get_or, set, length-set}
use lib.Seq.{get_or-set_other}
use Rattle.laws.specs.Grouping.{itself}
use Rattle.laws.specs.Sum.{sum}
use Rattle.graph.specs.Graph.{Graph}
use Rattle.machine.specs.Run.{Run, carried}
use Rattle.machine.specs.Ring.{blackened}
use Rattle.machine.specs.Machine.{Setting, State, Worker, idle, asking, denied, ended, busy, Cell, empty, from, phase, worker, carried_by, dismiss, giver, receiver, Claimed, follows, onward_runs}
use Rattle.machine.specs.Accepted.{Accepted}
use Rattle.machine.specs.Sound.{Sound}
use Rattle.machine.specs.Move.{Alone, wakes, takes_up, ends, polls, looks, Move, still, passed, alone, asked, hands, refuses, follow}
use Rattle.theorems.proofs.Facts.{busy_carried}

-- one number written: the sum grows by at most that
pub sum_written : (ns : List ℕ) (b n : ℕ) → sum itself (set ns b n) ≤ sum itself ns + n
unfolding sum
sum_written [] b n = omega arith
sum_written (x ∷ ns) zero n = omega arith
sum_written (x ∷ ns) (suc b) n = omega (arith, sum_written ns b n)

-- a written 0 is read, and elsewhere what stood there
written_none : (ns : List ℕ) (b i : ℕ) → get_or ns i 0 ≡ 0 → get_or (set ns b 0) i 0 ≡ 0
written_none [] b i h = h
written_none (x ∷ ns) zero zero h = refl
written_none (x ∷ ns) zero (suc i) h = h
written_none (x ∷ ns) (suc b) zero h = h
written_none (x ∷ ns) (suc b) (suc i) h = written_none ns b i h

pub written_there : (ns : List ℕ) (b : ℕ) → get_or (set ns b 0) b 0 ≡ 0
written_there [] b = refl
written_there (x ∷ ns) zero = refl
written_there (x ∷ ns) (suc b) = written_there ns b

-- who carries after worker b was written anew: another one that did before, or b itself
carried_written : (ws : List Worker) (b : ℕ) (y : Worker) (i : ℕ) → 0 < carried_by (get_or (set ws b y) i ended)
    → ((0 < carried_by (get_or ws i ended)) × (i ≢ b)) ⊎ ((i ≡ b) × (0 < carried_by y))
unfolding carried sum
carried_written [] b y i h = absurd (omega arith)
carried_written (w ∷ ws) zero y zero h = inr (refl, h)
carried_written (w ∷ ws) zero y (suc i) h = inl (h, λ (e : suc i ≡ 0). omega arith)
carried_written (w ∷ ws) (suc b) y zero h = inl (h, λ (e : 0 ≡ suc b). omega arith)
carried_written (w ∷ ws) (suc b) y (suc i) h =
    ⊎_elim
    (λ (p : (0 < carried_by (get_or ws i ended)) × (i ≢ b)). inl (p.0, λ (e : suc i ≡ suc b). p.1 (omega arith)))
    (λ (p : (i ≡ b) × (0 < carried_by y)). inr (ap suc p.0, p.1))
    (carried_written ws b y i h)

-- who carries after a turn did before
abbrev pub Carriers : State → State → Type 0
Carriers s s' = (i : ℕ) → 0 < carried_by (worker s' i) → 0 < carried_by (worker s i)

-- worker b, which carries, hands over and is black
abbrev pub Blackens : State → ℕ → State → Type 0
Blackens s b s' = (0 < carried_by (worker s b)) × (s'.ring ≡ blackened b s.ring)

-- a turn of b from s to s': as many sinces, and none of a worker that carries; nobody carries who did not, but for a hand-over
pub record Rested (s : State) (b : ℕ) (s' : State) (W : ℕ) : Type 0 where
  pub long : length s'.rested ≡ W
  pub none : (i : ℕ) → 0 < carried_by (worker s' i) → get_or s'.rested i 0 ≡ 0
  pub carriers : Carriers s s' ⊎ Blackens s b s'

module _ {G : Graph} {starts : List ℕ} {W : ℕ} {g : Setting} {s : State} (A : Accepted G starts W g) (S : Sound G starts W g s) where
  -- the worker b, which carried, changes
  kept : (b : ℕ) (y : Worker) (ws : List Worker) → (0 < carried_by y → 0 < carried_by (worker s b))
      → ((i : ℕ) → 0 < carried_by (get_or ws i ended) → 0 < carried_by (worker s i))
      → (i : ℕ) → 0 < carried_by (get_or (set ws b y) i ended) → 0 < carried_by (worker s i)
  kept b y ws h k i p =
      ⊎_elim
      (λ (q : (0 < carried_by (get_or ws i ended)) × (i ≢ b)). k i q.0)
      (λ (q : (i ≡ b) × (0 < carried_by y)). rw q.0 (h q.1))
      (carried_written ws b y i p)

  same : (i : ℕ) → 0 < carried_by (worker s i) → 0 < carried_by (worker s i)
  same i p = p

  -- the sinces stay
  still_rested : {b : ℕ} {s' : State} → s'.rested ≡ s.rested → Carriers s s' → Rested s b s' W
  still_rested e k = record { long = ap length e ∙ S.sized.rested_length; none = λ i p. rw e (S.rested_carrying i (k i p)); carriers = inl k }

  lonely : (b : ℕ) {x y : Worker} → worker s b ≡ x → Alone G g s b x y → 0 < carried_by y → 0 < carried_by (worker s b)
  unfolding carried sum
  lonely b q wakes h = absurd (omega arith)
  lonely b q takes_up h = rw q h
  lonely b q (ends e) h = absurd (omega arith)
  lonely b q polls h = rw q h
  lonely b q (looks m) h = rw q h

  -- a worker that is left with nothing keeps its since
  left : (b : ℕ) (c : Cell) (n k : ℕ) (o : Claimed) (rs : List Run) → 0 < carried_by (worker s b) → Rested s b (follows s b c n k o rs) W
  unfolding carried sum
  left b c n k o [] h =
      record {
        long = simp length-set S.sized.rested_length;
        none = λ (i : ℕ) (p : 0 < carried_by (get_or (dismiss c [] (set s.workers b idle)) i ended)).
            let q = gone c i p in get_or-set_other s.rested b i (suc n) 0 q.1 ∙ S.rested_carrying i q.0;
        carriers = inl (λ (i : ℕ) (p : 0 < carried_by (get_or (dismiss c [] (set s.workers b idle)) i ended)). (gone c i p).0);
      }
    where
      one : (i : ℕ) → 0 < carried_by (get_or (set s.workers b idle) i ended) → (0 < carried_by (worker s i)) × (i ≢ b)
      one i p =
          ⊎_elim
          (λ (q : (0 < carried_by (worker s i)) × (i ≢ b)). q)
          (λ (q : (i ≡ b) × (0 < carried_by idle)). absurd (omega (arith, q.1)))
          (carried_written s.workers b idle i p)

      gone : (c : Cell) (i : ℕ) → 0 < carried_by (get_or (dismiss c [] (set s.workers b idle)) i ended) → (0 < carried_by (worker s i)) × (i ≢ b)
      gone empty i p = one i p
      gone (from a) i p =
          ⊎_elim
          (λ (q : (0 < carried_by (get_or (set s.workers b idle) i ended)) × (i ≢ a)). one i q.0)
          (λ (q : (i ≡ a) × (0 < carried_by denied)). absurd (omega (arith, q.1)))
          (carried_written (set s.workers b idle) a denied i p)
  left b empty n k o (r ∷ rs) h = still_rested refl (kept b (busy empty (suc n) (phase k) (r ∷ rs)) s.workers (λ p. h) same)
  left b (from a) n k o (r ∷ rs) h = still_rested refl (kept b (busy (from a) (suc n) (phase k) (r ∷ rs)) s.workers (λ p. h) same)

  pub rested_move : {b : ℕ} {t : List ℕ} {s' : State} → Move G g s b t s' → Rested s b s' W
  unfolding carried sum
  rested_move (still h) = still_rested refl same
  rested_move (passed q e o h) = still_rested refl same
  rested_move {b} (alone {y = y} q r) = still_rested refl (kept b y s.workers (lonely b q r) same)
  rested_move {b} (asked v {n} {p} {rs} q r) =
      still_rested refl (kept b asking (set s.workers v (busy (from b) n p rs)) (λ h. absurd (omega arith)) (kept v (busy (from b) n p rs) s.workers (λ h. rw q h) same))
  rested_move {b} (refuses a {n} {rs} q r h) =
      let y = busy empty n (phase (min g.batch (carried rs))) rs in
      still_rested refl
      (kept a denied (set s.workers b y) (λ h. absurd (omega arith)) (kept b y s.workers (λ i. rw q (busy_carried A S b q)) same))
  rested_move {b} (hands a {n} {rs} q r h) =
      record {
        long = simp length-set S.sized.rested_length;
        none = λ (i : ℕ) (p : 0 < carried_by (get_or (set (set s.workers b (giver g n rs)) a (receiver rs)) i ended)).
            ⊎_elim
            (λ (k : (0 < carried_by (get_or (set s.workers b (giver g n rs)) i ended)) × (i ≢ a)).
            written_none s.rested a i (S.rested_carrying i (kept b (giver g n rs) s.workers (λ j. rw q (busy_carried A S b q)) same i k.0)))
            (λ (k : (i ≡ a) × (0 < carried_by (receiver rs))). rw k.0 (written_there s.rested a))
            (carried_written (set s.workers b (giver g n rs)) a (receiver rs) i p);
        carriers = inr (rw q (busy_carried A S b q), refl);
      }
  rested_move {b} (follow {c} {n} {k} {e} {j} {p} {rs} {o} q r w) =
      left b c n k o (onward_runs e j o.opened rs) (rw q (busy_carried A S b q))
