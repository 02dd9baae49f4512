-- SPECIFICATION 9: the schedule of a hand of cards, its checks (8, 15, 7), and what such a schedule brings about.
use Rattle.std.specs.Prelude.{◌≡◌, not, Result, List, [], ◌∷◌, ◌++◌, ℕ, ◌*◌, ◌^◌, length, take, drop, ltb, leb, eqb}
use Rattle.laws.specs.Blocks.{laid}
use Rattle.laws.specs.Choice.{pick}
use Rattle.refusal.specs.declared.Refusal.{Refusal}
use Rattle.refusal.specs.Number.{number_of}
use Rattle.refusal.specs.Order.{raise, first}
use Rattle.graph.specs.Graph.{all_below}
use Rattle.desk.specs.Checks.{workers_fault}
use Rattle.desk.specs.Kept.{unless_refused}
use Rattle.desk.specs.Length.{LengthRow, length_by}
use Rattle.machine.specs.Machine.{entries}
use Rattle.machine.specs.Demand3.{Cut}
use Rattle.theorems.specs.Finishing.{Finishes}
use Rattle.hands.specs.Deck.{card_workers, deck_size, card, digits, AllOrders}

-- ---- the turns of a hand

-- the workers below W, in their order; the others are skipped
unfoldable pub dealt : ℕ → List ℕ → List ℕ
dealt W [] = []
dealt W (b ∷ l) = pick (ltb b W) (b ∷ dealt W l) (dealt W l)

-- entries of two bytes: a worker, and whom it asks
unfoldable pub asking : List ℕ → List ℕ → List ℕ
asking [] vs = []
asking (b ∷ bs) [] = []
asking (b ∷ bs) (v ∷ vs) = b ∷ v ∷ asking bs vs

-- each asks the one after it, the last the first
unfoldable pub circle : List ℕ → List ℕ
unfolding asking
circle ws = asking ws (drop 1 ws ++ take 1 ws)

-- the turns of card c
unfoldable pub round_of : ℕ → ℕ → List ℕ
unfolding circle dealt
round_of W c = circle (dealt W (digits (card c)))

-- the turns of a hand
unfoldable pub turns_of : ℕ → List ℕ → List ℕ
unfolding round_of laid
turns_of W cards = laid (round_of W) cards

-- two bytes for each worker below W, for each card
abbrev pub bytes_of : ℕ → ℕ → ℕ
bytes_of W k = k * (2 * W)

-- ---- the checks

-- 15: more workers than a card has
abbrev pub width_fault : ℕ → ℕ
width_fault W = raise (ltb card_workers W) 15 0

-- 15: a card that is not in the deck
abbrev pub cards_fault : List ℕ → ℕ
cards_fault cards = raise (not (all_below deck_size cards)) 15 0

-- 7: the schedule is not exactly as long as the turns
abbrev pub schedule_fault : ℕ → ℕ → ℕ → ℕ
schedule_fault W k long = raise (not (eqb long (bytes_of W k))) 7 0

-- the number of the first fault of a hand, which has no D and no K, for W workers and a schedule of so many bytes, or 0
unfoldable pub fault : ℕ → List ℕ → ℕ → ℕ
fault W cards long =
    first (workers_fault W)
    (first (width_fault W)
    (first (cards_fault cards) (schedule_fault W (length cards) long)))

-- ---- how long the schedule of k cards is

-- the first fault: 8, 15, and 7 where no buffer is so long
unfoldable pub length_fault : ℕ → ℕ → ℕ
length_fault W k = first (workers_fault W) (first (width_fault W) (raise (leb (2 ^ 64) (bytes_of W k)) 7 0))

-- what the call for the length answers
abbrev pub length_of : ℕ → ℕ → LengthRow
length_of W k = length_by (length_fault W k) (bytes_of W k)

-- ---- what a schedule of k rounds brings about

pub record Rounds (W k : ℕ) (schedule : List ℕ) : Type 0 where
  -- each round is a stretch: it has an entry for every worker below W
  pub cut : Cut W k (entries schedule)
  -- so enough rounds finish
  pub brings : Finishes W k schedule

-- ---- the promise of the call, for all inputs

pub record Deals {A : Type 0} (W : ℕ) (cards before : List ℕ) (answer : Result A Refusal) (after : List ℕ) : Type 0 where
  -- the deck of which the cards are
  pub deck_is : AllOrders
  pub number_is : number_of answer ≡ fault W cards (length before)
  pub schedule_is : after ≡ unless_refused (fault W cards (length before)) (turns_of W cards) before
  pub brings : fault W cards (length before) ≡ 0 → Rounds W (length cards) after
