-- How one card's turns are written: worker by worker, the round closed after each.
use Rattle.std.specs.Prelude.{◌≡◌, true, List, [], ◌∷◌, ◌++◌, ℕ, ◌+◌, ◌*◌, ◌≤◌, ◌<◌, length}
use Rattle.slices.specs.Put.{Put}
use Rattle.hands.specs.Deck.{card_workers, deck_size, Order}
use Rattle.graph.specs.Graph.{all_below}
use Rattle.hands.specs.Hand.{dealt, circle, round_of, bytes_of}

-- a round begins at `at`, and its next entry at `next`; there is room for it where it is needed
pub record Seats (long at next W b : ℕ) : Type 0 where
  pub begins : at ≤ next
  pub ends : next ≤ long
  pub room : b < W → next + 2 ≤ long
  pub digit : b < 256

-- where the round of some workers stood at `at`, that of these and one more stands there, if it is below W
pub record Seated (W b at : ℕ) (mid : List ℕ) (next : ℕ) (after : List ℕ) (end : ℕ) : Type 0 where
  pub more : (before xs : List ℕ) → Put before at (circle (dealt W xs)) mid next
      → Put before at (circle (dealt W (xs ++ (b ∷ [])))) after end

-- an order of the workers, and room for its round at `at`
pub record Seatable (W : ℕ) (order : List ℕ) (at long : ℕ) : Type 0 where
  pub few : W ≤ card_workers
  pub order_is : Order order
  pub room : at + 2 * W ≤ long

-- the round of this order stands at `at`
pub record Closed (W : ℕ) (order : List ℕ) (at : ℕ) (before after : List ℕ) (end : ℕ) : Type 0 where
  pub put : Put before at (circle (dealt W order)) after end
  pub ends : end ≡ at + 2 * W

-- card c is in the deck, and its round has room at `at`
pub record Roomy (W c at long : ℕ) : Type 0 where
  pub some : 1 ≤ W
  pub few : W ≤ card_workers
  pub known : c < deck_size
  pub room : at + 2 * W ≤ long

-- the round of card c stands at `at`
pub record Rounded (W c at : ℕ) (before after : List ℕ) (end : ℕ) : Type 0 where
  pub put : Put before at (round_of W c) after end
  pub ends : end ≡ at + 2 * W

-- a hand of cards that are in the deck, and a schedule of its length
pub record Dealing (cards : List ℕ) (W long : ℕ) : Type 0 where
  pub some : 1 ≤ W
  pub few : W ≤ card_workers
  pub known : all_below deck_size cards ≡ true
  pub exact : long ≡ bytes_of W (length cards)
