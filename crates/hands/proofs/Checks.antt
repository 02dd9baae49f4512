-- The checks of the calls in their order, and what they promise at each exit.
use mathlib.Core.Path.{◌≡◌, sym, ◌∙◌}
use mathlib.Core.Bool.{true, false}
use mathlib.Core.List.{List}
use Prim.Native.Nat.{ℕ, suc, ◌^◌, ◌≤◌, ◌<◌}
use native.Mathlib.Omega.{arith}
use lib.Dec.{eqb}
use lib.ListN.{length}
use borrow.Author.Tests.{lt-ltb, le-ltb, lt-leb, le-leb}
use Rattle.std.specs.Prelude.{Result}
use Rattle.refusal.specs.declared.Refusal.{Refusal}
use Rattle.refusal.specs.Number.{number_of}
use Rattle.graph.specs.Graph.{all_below}
use Rattle.desk.specs.Limits.{most_workers}
use Rattle.desk.specs.Checks.{outside}
use Rattle.hands.specs.Deck.{card_workers, deck_size}
use Rattle.hands.specs.Hand.{turns_of, bytes_of, fault, length_fault, length_of, Deals}
use Rattle.hands.proofs.Deck.{all_orders}
use Rattle.hands.proofs.Stretches.{rounds_of_lem}

-- ---- the checks

module _ (W : ℕ) (cards : List ℕ) (n : ℕ) where
  pub finds_8 : outside most_workers W ≡ true → fault W cards n ≡ 8
  unfolding fault
  finds_8 h = rw h

  pub finds_width : outside most_workers W ≡ false → card_workers < W → fault W cards n ≡ 15
  unfolding fault
  finds_width h g = rw (h, lt-ltb card_workers W g)

  pub finds_card : outside most_workers W ≡ false → W ≤ card_workers → all_below deck_size cards ≡ false → fault W cards n ≡ 15
  unfolding fault
  finds_card h g k = rw (h, le-ltb card_workers W g, k)

  pub finds_7 : outside most_workers W ≡ false → W ≤ card_workers → all_below deck_size cards ≡ true → eqb n (bytes_of W (length cards)) ≡ false
      → fault W cards n ≡ 7
  unfolding fault
  finds_7 h g k e = rw (h, le-ltb card_workers W g, k, e)

  pub finds_none : outside most_workers W ≡ false → W ≤ card_workers → all_below deck_size cards ≡ true → eqb n (bytes_of W (length cards)) ≡ true
      → fault W cards n ≡ 0
  unfolding fault
  finds_none h g k e = rw (h, le-ltb card_workers W g, k, e)

-- beside a refusal the schedule is as it was
pub refused : (W : ℕ) (cards before : List ℕ) (k : ℕ) {A : Type 0} {v : Result A Refusal} → number_of v ≡ suc k → fault W cards (length before) ≡ suc k → Deals W cards before v before
refused W cards before k n e =
    record { deck_is = all_orders; number_is = n ∙ sym e; schedule_is = rw e; brings = λ z. absurd (omega arith) }

pub dealt_all : (W : ℕ) (cards before : List ℕ) {A : Type 0} {v : Result A Refusal} {after : List ℕ} → number_of v ≡ 0 → fault W cards (length before) ≡ 0 → 1 ≤ W
    → W ≤ card_workers → all_below deck_size cards ≡ true → after ≡ turns_of W cards → Deals W cards before v after
dealt_all W cards before n e some few known w =
    record { deck_is = all_orders; number_is = n ∙ sym e; schedule_is = rw e w; brings = λ z. rw w (rounds_of_lem W cards some few known) }

-- ---- the length

module _ (W k : ℕ) where
  pub length_8 : outside most_workers W ≡ true → length_of W k ≡ record { number = 8; long = 0 }
  unfolding length_fault
  length_8 h = rw h

  pub length_15 : outside most_workers W ≡ false → card_workers < W → length_of W k ≡ record { number = 15; long = 0 }
  unfolding length_fault
  length_15 h g = rw (h, lt-ltb card_workers W g)

  pub length_7 : outside most_workers W ≡ false → W ≤ card_workers → 2 ^ 64 ≤ bytes_of W k → length_of W k ≡ record { number = 7; long = 0 }
  unfolding length_fault
  length_7 h g b = rw (h, le-ltb card_workers W g, le-leb (2 ^ 64) (bytes_of W k) b)

  pub length_is : outside most_workers W ≡ false → W ≤ card_workers → bytes_of W k < 2 ^ 64 → length_of W k ≡ record { number = 0; long = bytes_of W k }
  unfolding length_fault
  length_is h g b = rw (h, le-ltb card_workers W g, lt-leb (2 ^ 64) (bytes_of W k) b)
