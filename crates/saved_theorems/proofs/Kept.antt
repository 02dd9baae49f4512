-- What follows from a saved collection: its state is sound, so every turn keeps it so; what a collection begun afresh saves is
-- sound; and the test finds exactly the words that hold a sound state.
use mathlib.Core.Path.{◌≡◌, refl, sym, subst}
use mathlib.Core.Bool.{true}
use mathlib.Core.List.{List}
use Prim.Native.Nat.{ℕ}
use native.Mathlib.Omega.{arith}
use lib.ListN.{length}
use Rattle.laws.proofs.Test.{both_true, both_is, same_equal, equal_same}
use Rattle.graph.specs.Graph.{Graph, objects}
use Rattle.desk.specs.Lengths.{saved_length}
use Rattle.machine.specs.Machine.{Setting, State, Entry, turns}
use Rattle.machine.specs.Accepted.{Accepted}
use Rattle.machine.specs.Sound.{Sound}
use Rattle.machine.specs.Demand2.{outcome}
use Rattle.theorems.specs.Waiting.{Waits}
use Rattle.theorems.proofs.Facts.{runs_room}
use Rattle.theorems.proofs.Demand3.{reached_limit, demand3}
use Rattle.theorems.proofs.Start.{sound, sound_turns}
use Rattle.theorems.proofs.Waiting.{waits_all}
use Rattle.saved.specs.Layout.{saved_words, state_of, Shaped}
use Rattle.saved.specs.Sound.{SavedRun}
use Rattle.saved.specs.Test.{sound?, held?, saved?}
use Rattle.saved_theorems.proofs.Exact.{from_test, to_test}
use Rattle.saved_theorems.proofs.RoundTrip.{state_sized, state_told}

-- ---- a sound state

module _ {G : Graph} {starts : List ℕ} {W : ℕ} {g : Setting} (A : Accepted G starts W g) where
  -- whoever wrote the words, and whatever turns follow: an asker waits no longer than SPECIFICATION 4.7 says
  pub saved_waits : {w : List ℕ} {s : State} → SavedRun G starts W g w s → (xs : List Entry) → Waits G W g (turns G g s xs)
  saved_waits X xs = waits_all A (sound_turns A X.saved.sound xs)

  module _ {s : State} (S : Sound G starts W g s) where
    pub shaped : Shaped (objects G) W s
    shaped = record { sized = S.sized; room = runs_room A S }

    -- the words of a sound state tell of it
    pub told_back : state_of (objects G) W (saved_words (objects G) s) ≡ s
    told_back = state_told shaped S.supplied S.rested_carrying

  -- ---- a collection begun afresh

  -- what it saves is sound
  pub fresh_run : (xs : List Entry) → SavedRun G starts W g (saved_words (objects G) (outcome G starts W g xs)) (outcome G starts W g xs)
  fresh_run xs =
      let D = demand3 A xs in
      record {
        words_are = refl;
        saved =
            record {
              sound = sound A xs;
              moved_limit = omega (arith, D.moved, reached_limit A);
              handed_limit = omega (arith, D.handed, reached_limit A);
            };
      }

  -- ---- the test

  module _ (w : List ℕ) (long : length w ≡ saved_length (objects G) W) where
    pub from_saved : saved? G starts W g w ≡ true → SavedRun G starts W g w (state_of (objects G) W w)
    unfolding saved? held?
    from_saved h =
        let t = both_true (held? (objects G) W w) (sound? G starts W g (state_of (objects G) W w)) h in
        record {
          words_are = same_equal w (saved_words (objects G) (state_of (objects G) W w)) t.0;
          saved = from_test A.formed starts W g (state_of (objects G) W w) (state_sized (objects G) W w long) t.1;
        }

  -- any words that hold a sound state pass, and they tell of that state
  pub run_told : {w : List ℕ} {s : State} → SavedRun G starts W g w s → state_of (objects G) W w ≡ s
  run_told X = rw X.words_are (told_back X.saved.sound)

  pub to_saved : {w : List ℕ} {s : State} → SavedRun G starts W g w s → saved? G starts W g w ≡ true
  unfolding saved? held?
  to_saved {w} {s} X =
      both_is
      (equal_same w (saved_words (objects G) (state_of (objects G) W w)) (rw (run_told X) X.words_are))
      (subst (λ (x : State). sound? G starts W g x ≡ true) (sym (run_told X)) (to_test A.formed starts W g s X.saved.sound.sized X.saved))
