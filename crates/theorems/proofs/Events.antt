-- The counts count what they say: a turn changes no mark and no worker, or it raises moved by one and some worker differs
-- afterwards;
-- handed and refused are raised by the replies that the turn gives.
use mathlib.Core.Path.{◌≡◌, refl, sym, ap, ◌∙◌, subst}
use mathlib.Core.List.{List, [], ◌∷◌}
use mathlib.Core.Logic.{◌⊎◌, inl, inr, ◌≢◌}
use Prim.Native.Nat.{ℕ, zero, suc, ◌+◌, ◌*◌, ◌≤◌, ◌<◌, min}
use native.Mathlib.Omega.{arith}
use lib.ListN.{length, get_or, set, length-set}
use lib.Seq.{get_or-set_same}
use Rattle.laws.proofs.Sum.{inside}
use Rattle.graph.specs.Graph.{Graph}
use Rattle.machine.specs.Run.{Run, carried}
use Rattle.machine.specs.Machine.{Setting, State, Entry, Worker, idle, asking, denied, ended, given, busy, Cell, empty, from, Phase, poll, look, claim, phase, worker}
use Rattle.machine.specs.Machine.{Claimed, onward, follows, turn, turns}
use Rattle.machine.specs.Accepted.{Accepted}
use Rattle.machine.specs.Sound.{Sound}
use Rattle.machine.specs.Events.{Same, Changing, none, unchanged, changed, owed?, refused?, answered}
use Rattle.machine.specs.Move.{Alone, wakes, takes_up, ends, polls, looks, Waiting, Move, still, passed, alone, asked, hands, refuses, follow}
use Rattle.theorems.proofs.Facts.{there, busy_carried}
use Rattle.theorems.proofs.Move.{move}
use Rattle.theorems.proofs.Kept.{sound_turn}
use Rattle.theorems.proofs.Step.{step}

-- a number by which a worker before a turn is told from the worker after it
phase_sight : Phase → ℕ
phase_sight poll = 0
phase_sight (look k) = 1
phase_sight (claim k) = 2

abbrev sight : Worker → ℕ
sight idle = 0
sight asking = 1
sight denied = 2
sight ended = 3
sight (given rs) = 4
sight (busy c n p rs) = 5 + 3 * n + phase_sight p

-- a worker that is put in another one's place is seen
seen : (ws l : List Worker) (b : ℕ) (x y : Worker) → get_or ws b ended ≡ x → b < length l → sight y ≢ sight x → set l b y ≡ ws → ⊥
seen ws l b x y e h d q =
    d (ap sight (sym (get_or-set_same l b y ended h) ∙ ap (λ (ws : List Worker). get_or ws b ended) q ∙ e))

-- the turn changes no mark and no worker, or is counted and leaves something other than it was
abbrev Told : State → State → Type 0
Told s s' = (Same s s' × (s'.counts.moved ≡ s.counts.moved)) ⊎ ((Same s s' → ⊥) × (s'.counts.moved ≡ suc s.counts.moved))

phase_sight_lem : (k : ℕ) → phase_sight (phase k) ≤ 1
unfolding phase_sight
phase_sight_lem zero = omega arith
phase_sight_lem (suc k) = omega arith

-- a batch begins: the phase is no poll any more
batch_sight : (k : ℕ) → 0 < k → phase_sight (phase k) ≡ 1
unfolding phase_sight
batch_sight zero h = absurd (omega arith)
batch_sight (suc k) h = refl

-- a worker that has followed: its since is higher by one, or it is idle
onward_sight : (c : Cell) (n k : ℕ) (p : Phase) (rs rs' : List Run) → sight (onward c (suc n) k rs') ≢ sight (busy c n p rs)
unfolding phase_sight
onward_sight c n k p rs [] e = omega (arith, e)
onward_sight c n k poll rs (r ∷ rs') e = omega (arith, e, phase_sight_lem k)
onward_sight c n k (look j) rs (r ∷ rs') e = omega (arith, e, phase_sight_lem k)
onward_sight c n k (claim j) rs (r ∷ rs') e = omega (arith, e, phase_sight_lem k)

module _ {G : Graph} {starts : List ℕ} {W : ℕ} {g : Setting} {s : State} (A : Accepted G starts W g) (S : Sound G starts W g s) where
  low : (b : ℕ) {x : Worker} → worker s b ≡ x → 0 < there x → b < length s.workers
  low b q h = inside s.workers b ended there refl (rw q h)

  -- one worker changes, and another one after it
  one_seen : (b : ℕ) {x : Worker} (y : Worker) → worker s b ≡ x → 0 < there x → sight y ≢ sight x → set s.workers b y ≡ s.workers → ⊥
  one_seen b {x} y q h d e = seen s.workers s.workers b x y q (low b q h) d e

  two_seen : (b a : ℕ) {x : Worker} (y z : Worker) → worker s a ≡ x → 0 < there x → sight z ≢ sight x
      → set (set s.workers b y) a z ≡ s.workers → ⊥
  two_seen b a {x} y z q h d e =
      seen s.workers (set s.workers b y) a x z q (rw length-set (low a q h)) d e

  alone_sight : (b : ℕ) {x y : Worker} → worker s b ≡ x → Alone G g s b x y → (0 < there x) × (sight y ≢ sight x)
  unfolding phase_sight
  alone_sight b q wakes = (omega arith, λ e. omega (arith, e))
  alone_sight b q takes_up = (omega arith, λ e. omega (arith, e))
  alone_sight b q (ends h) = (omega arith, λ e. omega (arith, e))
  alone_sight b q (polls {n} {rs}) =
      let k = min g.batch (carried rs) in
      (omega arith, λ e. omega (arith, e, batch_sight k (omega (arith, A.some_batch, busy_carried A S b q))))
  alone_sight b q (looks m) = (omega arith, λ e. omega (arith, e))

  -- following
  follow_seen : (b k : ℕ) (c : Cell) {n : ℕ} {p : Phase} {rs : List Run} (o : Claimed) (rs' : List Run) → worker s b ≡ busy c n p rs
      → Waiting s c → (follows s b c n k o rs').workers ≡ s.workers → ⊥
  follow_seen b k empty {n} {p} {rs} o rs' q w e = one_seen b _ q (omega arith) (onward_sight empty n k p rs rs') e
  follow_seen b k (from a) o [] q w e = two_seen b a _ denied w (omega arith) (λ e. omega (arith, e)) e
  follow_seen b k (from a) {n} {p} {rs} o (r ∷ rs') q w e = one_seen b _ q (omega arith) (onward_sight (from a) n k p rs (r ∷ rs')) e

  move_told : {b : ℕ} {t : List ℕ} {s' : State} → Move G g s b t s' → Told s s'
  move_told (still h) = inl (record { marks = refl; workers = refl }, refl)
  move_told (passed q e o h) = inl (record { marks = refl; workers = refl }, refl)
  move_told {b} (alone {y = y} q r) =
      let d = alone_sight b q r in
      inr (λ e. one_seen b y q d.0 d.1 e.workers, omega arith)
  move_told {b} (asked v q r) = inr (λ e. two_seen v b _ asking r (omega arith) (λ e. omega (arith, e)) e.workers, omega arith)
  move_told {b} (hands a q r h) = inr (λ e. two_seen b a _ _ r (omega arith) (λ e. omega (arith, e)) e.workers, omega arith)
  move_told {b} (refuses a q r h) = inr (λ e. two_seen b a _ denied r (omega arith) (λ e. omega (arith, e)) e.workers, omega arith)
  move_told {b} (follow {c} {k = k} {o = o} q r w) = inr (λ e. follow_seen b k c o _ q w e.workers, omega arith)

-- ---- over lists of turns

module _ {G : Graph} {starts : List ℕ} {W : ℕ} {g : Setting} (A : Accepted G starts W g) where
  -- so many turns change something, and moved is raised by so many
  record Moving (s : State) (xs : List Entry) : Type 0 where
    number : ℕ
    changing : Changing G g s xs number
    counted : (turns G g s xs).counts.moved ≡ s.counts.moved + number

  moving : {s : State} → Sound G starts W g s → (xs : List Entry) → Moving s xs
  unfolding turns
  moving S [] = record { number = 0; changing = none; counted = omega arith }
  moving {s} S (x ∷ xs) = by (move_told A S (move A S x)) (moving {s = turn G g s x} (sound_turn A S x) xs)
    where
      by : Told s (turn G g s x) → Moving (turn G g s x) xs → Moving s (x ∷ xs)
      by (inl e) m =
          record {
            number = m.number;
            changing = unchanged e.0 m.changing;
            counted = omega (arith, m.counted, e.1);
          }
      by (inr d) m =
          record { number = suc m.number; changing = changed d.0 m.changing; counted = omega (arith, m.counted, d.1) }

  pub moved_counts : {s : State} → Sound G starts W g s → s.counts.moved ≡ 0 → (xs : List Entry) → Changing G g s xs (turns G g s xs).counts.moved
  moved_counts {s} S z xs =
      let m = moving S xs in
      subst (λ (k : ℕ). Changing G g s xs k) (omega (arith, m.counted, z)) m.changing

  -- handed and refused are raised by the replies of each kind
  pub replies_count : {s : State} → Sound G starts W g s → (xs : List Entry)
      → ((turns G g s xs).counts.handed ≡ s.counts.handed + answered owed? G g s xs)
      × ((turns G g s xs).counts.refused ≡ s.counts.refused + answered refused? G g s xs)
  unfolding turns answered
  replies_count S [] = omega arith
  replies_count {s} S (x ∷ xs) =
      let t = step A S (move A S x) in
      omega (
        arith,
        replies_count {s = turn G g s x} (sound_turn A S x) xs,
        t.weighs.handed_is,
        t.weighs.refused_is,
        t.replies_are owed? refl,
        t.replies_are refused? refl,
      )
