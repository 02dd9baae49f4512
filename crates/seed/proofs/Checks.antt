-- The checks of the call in their order, and what it promises at each exit.
use Rattle.std.proofs.Common.{◌≡◌, Ok, Err, ℕ, suc, ◌<◌, ◌≤◌, true, false, eqb, ◌≢◌, List, length, sym, ◌∙◌, arith, le-ltb, lt-ltb, eq-eqb, ne_eqb}
use Rattle.refusal.specs.declared.Refusal.{Refusal}
use Rattle.refusal.specs.Number.{number}
use Rattle.desk.specs.Limits.{most_workers}
use Rattle.desk.specs.Checks.{outside}
use Rattle.hands.specs.Deck.{card_workers}
use Rattle.hands.specs.Hand.{turns_of, bytes_of}
use Rattle.hands.proofs.Stretches.{rounds_of_lem}
use Rattle.seed.specs.declared.Seed.{Seed}
use Rattle.seed.specs.Deal.{after_draws, hand_of, fault, Deals}
use Rattle.seed.proofs.Draws.{hand_long, hand_known, Drawable, draws_answer}

module _ (s : Seed) (k W n : ℕ) where
  pub finds_8 : outside most_workers W ≡ true → fault s k W n ≡ 8
  unfolding fault
  finds_8 h = rw h

  pub finds_16 : outside most_workers W ≡ false → s.first ≡ 0 → fault s k W n ≡ 16
  unfolding fault
  finds_16 h z = rw (h, eq-eqb s.first 0 z)

  pub finds_15 : outside most_workers W ≡ false → s.first ≢ 0 → card_workers < W → fault s k W n ≡ 15
  unfolding fault
  finds_15 h z g = rw (h, ne_eqb s.first 0 z, lt-ltb card_workers W g)

  pub finds_7 : outside most_workers W ≡ false → s.first ≢ 0 → W ≤ card_workers → eqb n (bytes_of W k) ≡ false → fault s k W n ≡ 7
  unfolding fault
  finds_7 h z g e = rw (h, ne_eqb s.first 0 z, le-ltb card_workers W g, e)

  pub finds_none : outside most_workers W ≡ false → s.first ≢ 0 → W ≤ card_workers → eqb n (bytes_of W k) ≡ true → fault s k W n ≡ 0
  unfolding fault
  finds_none h z g e = rw (h, ne_eqb s.first 0 z, le-ltb card_workers W g, e)

module _ (s : Seed) (k W : ℕ) (before : List ℕ) where
  -- beside a refusal the schedule and the seed are as they were
  pub refused : (r : Refusal) (j : ℕ) → number r ≡ suc j → fault s k W (length before) ≡ suc j → Deals s k W before (Err r) before
  refused r j n e =
      record {
        number_is = n ∙ sym e;
        schedule_is = rw e;
        seed_is = rw e;
        draws = λ z. absurd (omega arith);
        brings = λ z. absurd (omega arith);
      }

  pub dealt_all : fault s k W (length before) ≡ 0 → Drawable s → 1 ≤ W → W ≤ card_workers → {t : Seed} {after : List ℕ} → t ≡ after_draws k s
      → after ≡ turns_of W (hand_of k s) → Deals s k W before (Ok t) after
  dealt_all e d some few m w =
      record {
        number_is = sym e;
        schedule_is = rw e w;
        seed_is = rw e m;
        draws = λ z. draws_answer k s d;
        brings = λ z. rw w (rw (hand_long k s) at (rounds_of_lem W (hand_of k s) some few (hand_known k s)));
      }
