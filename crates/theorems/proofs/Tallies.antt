-- The tallies: `Sound` keeps how they add up, and each is what its worker's turns count, turn by turn.
use mathlib.Core.Path.{◌≡◌, refl}
use mathlib.Core.Bool.{Bool, true, false}
use mathlib.Core.List.{List, [], ◌∷◌}
use Prim.Native.Nat.{ℕ, zero, suc, ◌+◌, ◌*◌}
use native.Mathlib.Omega.{arith}
use lib.ListN.{length, get_or, replicate}
use Rattle.laws.specs.Sum.{sum, hit}
use Rattle.laws.proofs.Sum.{sum_append}
use Rattle.graph.specs.Graph.{Graph, target}
use Rattle.machine.specs.Run.{Run, run}
use Rattle.machine.specs.Tally.{Tally, no_tally}
use Rattle.machine.specs.Machine.{Setting, State, Entry, Worker, idle, asking, denied, ended, given, busy, Phase, poll, look, claim, worker, mark_of, start, turn, turns, result}
use Rattle.machine.specs.Accepted.{Accepted}
use Rattle.machine.specs.Sound.{Sound, tally_of}
use Rattle.machine.specs.Events.{owed?}
use Rattle.machine.specs.Owners.{claim_tells, Win, win_of, busy_wins, wins, claims_won}
use Rattle.machine.specs.Demand2.{outcome}
use Rattle.machine.specs.Tallies.{turn_follows, turn_loses, turn_hands, own_turns, wins_of, Tallies}
use Rattle.theorems.proofs.Move.{move}
use Rattle.theorems.proofs.Step.{step}
use Rattle.theorems.proofs.Kept.{sound_turn}
use Rattle.theorems.proofs.Start.{sound_start, sound}
use Rattle.theorems.proofs.Tallied.{raised_at, tallied_move}

-- what a turn of b wins, b wins
won_own : (t : Bool) (v b i : ℕ) → wins_of i (win_of t v b) ≡ hit b i * length (win_of t v b)
unfolding sum
won_own true v b i = omega arith
won_own false v b i = omega arith

busy_own : (p : Phase) (rs : List Run) (G : Graph) (s : State) (b i : ℕ) → wins_of i (busy_wins p rs G s b) ≡ hit b i * length (busy_wins p rs G s b)
unfolding sum
busy_own poll rs G s b i = omega arith
busy_own (look k) rs G s b i = omega arith
busy_own (claim k) [] G s b i = omega arith
busy_own (claim k) (run e j ∷ rs) G s b i = won_own (claim_tells (mark_of s (target G e)) b).won (target G e) b i

wins_own : (w : Worker) (G : Graph) (s : State) (b i : ℕ) → wins_of i (wins w G s b) ≡ hit b i * length (wins w G s b)
unfolding sum
wins_own idle G s b i = omega arith
wins_own asking G s b i = omega arith
wins_own denied G s b i = omega arith
wins_own ended G s b i = omega arith
wins_own (given rs) G s b i = omega arith
wins_own (busy c n p rs) G s b i = busy_own p rs G s b i

module _ {G : Graph} {starts : List ℕ} {W : ℕ} {g : Setting} (A : Accepted G starts W g) where
  -- what the turns xs add to worker i's tally
  record Added (s : State) (xs : List Entry) (i : ℕ) : Type 0 where
    followed : (tally_of (turns G g s xs) i).followed ≡ (tally_of s i).followed + own_turns (turn_follows G) i G g s xs
    won : (tally_of (turns G g s xs) i).won ≡ (tally_of s i).won + wins_of i (claims_won G g s xs)
    lost : (tally_of (turns G g s xs) i).lost ≡ (tally_of s i).lost + own_turns (turn_loses G) i G g s xs
    handed : (tally_of (turns G g s xs) i).handed ≡ (tally_of s i).handed + own_turns (turn_hands G g) i G g s xs

  added : {s : State} → Sound G starts W g s → (xs : List Entry) (i : ℕ) → Added s xs i
  unfolding turns own_turns claims_won sum
  added S [] i = record { followed = omega arith; won = omega arith; lost = omega arith; handed = omega arith }
  added {s} S (x ∷ xs) i =
      let b = x.worker in
      let m = move A S x in
      let t = tallied_move A S m in
      let T = step A S m in
      let later = added {s = turn G g s x} (sound_turn A S x) xs i in
      let w = worker s b in
      let hands : turn_hands G g s x ≡ t.added.handed = omega (arith, t.handed_counts, T.weighs.handed_is, T.replies_are owed? refl) in
      record {
        followed =
            omega (
              arith,
              later.followed,
              rw t.followed at (raised_at (λ (y : Tally). y.followed) refl (λ (y z : Tally). refl) t.raised i),
            );
        won =
            omega (
              arith,
              later.won,
              sum_append (λ (y : Win). hit y.winner i) (wins w G s b) (claims_won G g (turn G g s x) xs),
              rw t.wins_are at (wins_own w G s b i),
              raised_at (λ (y : Tally). y.won) refl (λ (y z : Tally). refl) t.raised i,
            );
        lost =
            omega (
              arith,
              later.lost,
              rw (← t.losses_are) at (raised_at (λ (y : Tally). y.lost) refl (λ (y z : Tally). refl) t.raised i),
            );
        handed =
            omega (
              arith,
              later.handed,
              rw (← hands) at (raised_at (λ (y : Tally). y.handed) refl (λ (y z : Tally). refl) t.raised i),
            );
      }

  no_tally_lem : (i : ℕ) → tally_of (start G starts W) i ≡ no_tally
  unfolding start
  no_tally_lem i = by W i
    where
      by : (k i : ℕ) → get_or (replicate k no_tally) i no_tally ≡ no_tally
      by zero i = refl
      by (suc k) zero = refl
      by (suc k) (suc i) = by k i

  pub tallies : (xs : List Entry) → Tallies G starts W g xs (result (outcome G starts W g xs)) (outcome G starts W g xs).tallies
  tallies xs =
      let S = sound A xs in
      let a = added (sound_start A) xs in
      record {
        each = S.sized.tallies_length;
        followed_total = S.tallies_followed;
        handed_total = S.tallies_handed;
        won_total = S.tallies_won;
        claims_followed = S.tallies_claims;
        followed_is = λ (b : ℕ). omega (arith, rw (no_tally_lem b) at (a b).followed);
        won_is = λ (b : ℕ). omega (arith, rw (no_tally_lem b) at (a b).won);
        lost_is = λ (b : ℕ). omega (arith, rw (no_tally_lem b) at (a b).lost);
        handed_is = λ (b : ℕ). omega (arith, rw (no_tally_lem b) at (a b).handed);
      }
