-- How long a schedule is, and comparing lengths by division, so that no product wraps.
use mathlib.Core.Path.{◌≡◌}
use mathlib.Core.Bool.{true}
use mathlib.Core.List.{List}
use Prim.Native.Nat.{ℕ, ◌*◌, ◌≤◌, ◌<◌}
use native.Mathlib.Omega.{arith}
use lib.ListN.{length, get_or}
use Rattle.laws.proofs.Blocks.{length_laid}
use Rattle.graph.specs.Graph.{all_below}
use Rattle.graph.proofs.Formed.{below_at}
use Rattle.hands.specs.Deck.{card_workers, deck_size, card, digits}
use Rattle.hands.specs.Hand.{dealt, round_of, turns_of, bytes_of}
use Rattle.hands.proofs.Circle.{order_long, circle_long}
use Rattle.hands.proofs.Deck.{card_right}

-- a card of a hand that is in the deck
pub known_at : (cards : List ℕ) → all_below deck_size cards ≡ true → (i : ℕ) → get_or cards i 0 < deck_size
known_at cards h = below_at deck_size cards h (omega arith)

-- one card's turns, and those of a hand
pub round_long : (W c : ℕ) → W ≤ card_workers → c < deck_size → length (round_of W c) ≡ 2 * W
unfolding round_of
round_long W c h g =
    omega (
      arith,
      circle_long (dealt W (digits (card c))),
      order_long W (digits (card c)) (card_right c g).order h,
    )

pub turns_long : (W : ℕ) (cards : List ℕ) → W ≤ card_workers → all_below deck_size cards ≡ true
    → length (turns_of W cards) ≡ bytes_of W (length cards)
unfolding turns_of
turns_long W cards h g = length_laid (round_of W) (2 * W) 0 cards (λ i. round_long W (get_or cards i 0) h (known_at cards g i))
