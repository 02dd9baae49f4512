-- What a turn adds to its worker's tally, told by the rule of the turn.
use mathlib.Core.Path.{◌≡◌, refl}
use mathlib.Core.List.{List, ◌∷◌}
use Prim.Native.Nat.{ℕ, ◌+◌, ◌*◌, ◌≤◌, ◌<◌}
use native.Mathlib.Omega.{arith}
use lib.ListN.{length, get_or, length-set}
use Rattle.laws.specs.Sum.{sum, hit}
use Rattle.laws.proofs.Sum.{sum_set, at_set}
use Rattle.graph.specs.Graph.{Graph}
use Rattle.machine.specs.Run.{Run, run}
use Rattle.machine.specs.Tally.{Tally, tally, no_tally, add_tally, tallied}
use Rattle.machine.specs.Machine.{Setting, State, Worker, busy, Cell, Phase, worker, Claimed}
use Rattle.machine.specs.Accepted.{Accepted}
use Rattle.machine.specs.Sound.{Sound}
use Rattle.machine.specs.Owners.{wins}
use Rattle.machine.specs.Tallies.{worker_loses}
use Rattle.machine.specs.Move.{Quiet, gone, waiting, unable, Alone, wakes, takes_up, ends, polls, looks, Taken, seen, lost, won, Move, still, passed, alone, asked, hands, refuses, follow}
use Rattle.theorems.proofs.Facts.{busy_below}

-- the tallies after a turn of worker b that counts y: as they were, or b's raised
pub data Raised (ts : List Tally) (b : ℕ) (y : Tally) : List Tally → Type 0 where
  same : y ≡ no_tally → Raised ts b y ts
  more : b < length ts → Raised ts b y (tallied ts b y)

module _ {ts : List Tally} {b : ℕ} {y : Tally} where
  pub raised_length : {ts' : List Tally} → Raised ts b y ts' → length ts' ≡ length ts
  raised_length (same e) = refl
  raised_length (more h) = length-set ts b (add_tally (get_or ts b no_tally) y)

  module _ (f : Tally → ℕ) (none : f no_tally ≡ 0) (adds : (x y : Tally) → f (add_tally x y) ≡ f x + f y) where
    -- a number of the tallies grows in sum by what the turn counts
    pub raised_sum : {ts' : List Tally} → Raised ts b y ts' → sum f ts' ≡ sum f ts + f y
    raised_sum (same e) = rw e (omega (arith, none))
    raised_sum (more h) =
        omega (arith, sum_set f no_tally ts b (get_or ts b no_tally) (add_tally (get_or ts b no_tally) y) refl h, adds (get_or ts b no_tally) y)

    -- and at worker i by that, where i is b
    pub raised_at : {ts' : List Tally} → Raised ts b y ts' → (i : ℕ) → f (get_or ts' i no_tally) ≡ f (get_or ts i no_tally) + hit b i * f y
    raised_at (same e) i = rw (e, none) (omega arith)
    raised_at (more h) i =
        let a = at_set f no_tally ts b (get_or ts b no_tally) (add_tally (get_or ts b no_tally) y) i refl h in
        let d = adds (get_or ts b no_tally) y in
        omega (arith, rw d at a)

-- what a turn of b from s to s' counts
pub record Tallied (G : Graph) (s : State) (b : ℕ) (s' : State) (k : ℕ) : Type 0 where
  pub added : Tally
  pub raised : Raised s.tallies b added s'.tallies
  pub followed : added.followed ≡ k
  pub followed_counts : s'.counts.followed ≡ s.counts.followed + added.followed
  pub handed_counts : s'.counts.handed ≡ s.counts.handed + added.handed
  pub live_counts : s'.counts.live ≡ s.counts.live + added.won
  pub claims : added.won + added.lost ≤ added.followed
  pub wins_are : length (wins (worker s b) G s b) ≡ added.won
  pub losses_are : worker_loses (worker s b) G s b ≡ added.lost

module _ {G : Graph} {starts : List ℕ} {W : ℕ} {g : Setting} {s : State} (A : Accepted G starts W g) (S : Sound G starts W g s) where
  -- a worker that claims nothing
  record Claimless (b : ℕ) : Type 0 where
    wins_none : length (wins (worker s b) G s b) ≡ 0
    losses_none : worker_loses (worker s b) G s b ≡ 0

  -- the turn counts nothing
  nothing : {b : ℕ} {s' : State} → s'.tallies ≡ s.tallies → Claimless b → s'.counts.followed ≡ s.counts.followed
      → s'.counts.handed ≡ s.counts.handed → s'.counts.live ≡ s.counts.live → Tallied G s b s' 0
  nothing e c f h l =
      record {
        added = no_tally;
        raised = rw e (same refl);
        followed = refl;
        followed_counts = omega (arith, f);
        handed_counts = omega (arith, h);
        live_counts = omega (arith, l);
        claims = omega arith;
        wins_are = c.wins_none;
        losses_are = c.losses_none;
      }

  quiet : {b : ℕ} {w : Worker} → worker s b ≡ w → Quiet s b w → Claimless b
  quiet q gone = record { wins_none = rw q refl; losses_none = rw q refl }
  quiet q waiting = record { wins_none = rw q refl; losses_none = rw q refl }
  quiet q (unable h k) = record { wins_none = rw q refl; losses_none = rw q refl }

  lonely : {b : ℕ} {x y : Worker} → worker s b ≡ x → Alone G g s b x y → Claimless b
  lonely q wakes = record { wins_none = rw q refl; losses_none = rw q refl }
  lonely q takes_up = record { wins_none = rw q refl; losses_none = rw q refl }
  lonely q (ends h) = record { wins_none = rw q refl; losses_none = rw q refl }
  lonely q polls = record { wins_none = rw q refl; losses_none = rw q refl }
  lonely q (looks m) = record { wins_none = rw q refl; losses_none = rw q refl }

  -- what is found at the target is what the claim tells
  record Tells (b : ℕ) (o : Claimed) : Type 0 where
    one : o.won + o.lost ≤ 1
    wins_are : length (wins (worker s b) G s b) ≡ o.won
    losses_are : worker_loses (worker s b) G s b ≡ o.lost

  tells : {b e k : ℕ} {p : Phase} {o : Claimed} {c : Cell} {n j : ℕ} {rs : List Run} → worker s b ≡ busy c n p (run e j ∷ rs)
      → Taken G s b e p k o → Tells b o
  tells q (seen m) = record { one = omega arith; wins_are = rw q refl; losses_are = rw q refl }
  tells q (lost m) = record { one = omega arith; wins_are = rw (q, m) refl; losses_are = rw (q, m) refl }
  tells q (won m) = record { one = omega arith; wins_are = rw (q, m) refl; losses_are = rw (q, m) refl }

  below : {b : ℕ} {c : Cell} {n : ℕ} {p : Phase} {rs : List Run} → worker s b ≡ busy c n p rs → b < length s.tallies
  below {b} q = omega (arith, busy_below A S b q, S.sized.tallies_length)

  -- every move counts so
  pub tallied_move : {b : ℕ} {t : List ℕ} {s' : State} → Move G g s b t s' → Tallied G s b s' (length t)
  tallied_move (still h) = nothing refl (quiet refl h) refl refl refl
  tallied_move (passed q e o h) = nothing refl (record { wins_none = rw q refl; losses_none = rw q refl }) refl refl refl
  tallied_move (alone q r) = nothing refl (lonely q r) refl (omega arith) refl
  tallied_move (asked v q r) = nothing refl (record { wins_none = rw r refl; losses_none = rw r refl }) refl (omega arith) refl
  tallied_move (refuses a q r h) = nothing refl (record { wins_none = rw q refl; losses_none = rw q refl }) refl (omega arith) refl
  tallied_move (hands a q r h) =
      record {
        added = tally 0 0 0 1;
        raised = more (below q);
        followed = refl;
        followed_counts = omega arith;
        handed_counts = omega arith;
        live_counts = omega arith;
        claims = omega arith;
        wins_are = rw q refl;
        losses_are = rw q refl;
      }
  tallied_move (follow {o = o} q r w) =
      let t = tells q r in
      record {
        added = tally 1 o.won o.lost 0;
        raised = more (below q);
        followed = refl;
        followed_counts = omega arith;
        handed_counts = omega arith;
        live_counts = omega arith;
        claims = t.one;
        wins_are = t.wins_are;
        losses_are = t.losses_are;
      }
