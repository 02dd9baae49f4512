-- Hands computed: the turns of some cards, and the numbers of calls with one fault or two.
use Rattle.std.specs.Prelude.{◌≡◌, refl, List, [], ◌∷◌, map, ℕ}
use Rattle.laws.specs.Blocks.{laid}
use Rattle.graph.specs.Graph.{all_below}
use Rattle.hands.specs.Deck.{taken, orders, read_on, deck}
use Rattle.hands.specs.Hand.{dealt, asking, circle, round_of, turns_of, fault, length_fault, length_of}

-- W, the cards, and the bytes of the schedule
pub record Hand : Type 0 where
  pub workers : ℕ
  pub cards : List ℕ
  pub turns : List ℕ

abbrev pub hand : ℕ → List ℕ → List ℕ → Hand
hand W cards turns = record { workers = W; cards = cards; turns = turns }

-- card 0 is 012345, 119 is 054321, 120 is 102345, 719 is 543210
abbrev pub hands : List Hand
hands =
    hand 1 (0 ∷ []) (0 ∷ 0 ∷ [])
    ∷ hand 2 (0 ∷ 719 ∷ []) (0 ∷ 1 ∷ 1 ∷ 0 ∷ 1 ∷ 0 ∷ 0 ∷ 1 ∷ [])
    ∷ hand 3 (120 ∷ []) (1 ∷ 0 ∷ 0 ∷ 2 ∷ 2 ∷ 1 ∷ [])
    ∷ hand 4 (119 ∷ []) (0 ∷ 3 ∷ 3 ∷ 2 ∷ 2 ∷ 1 ∷ 1 ∷ 0 ∷ [])
    ∷ hand 6 (719 ∷ []) (5 ∷ 4 ∷ 4 ∷ 3 ∷ 3 ∷ 2 ∷ 2 ∷ 1 ∷ 1 ∷ 0 ∷ 0 ∷ 5 ∷ [])
    ∷ hand 6 [] []
    ∷ []

pub hands_hold : map (λ (h : Hand). turns_of h.workers h.cards) hands ≡ map (λ (h : Hand). h.turns) hands
unfolding taken orders read_on deck laid dealt asking circle round_of turns_of
hands_hold = refl

-- W, the cards, how long the lent schedule is, and the number of the refusal
pub record Lent : Type 0 where
  pub workers : ℕ
  pub cards : List ℕ
  pub bytes : ℕ
  pub number : ℕ

abbrev pub lent : ℕ → List ℕ → ℕ → ℕ → Lent
lent W cards bytes number = record { workers = W; cards = cards; bytes = bytes; number = number }

-- both edges of each check, and two faults at once
abbrev pub refusals : List Lent
refusals =
    lent 6 (719 ∷ []) 12 0
    ∷ lent 0 (720 ∷ []) 1 8
    ∷ lent 17 (720 ∷ []) 1 8
    ∷ lent 16 [] 0 15
    ∷ lent 7 (0 ∷ []) 14 15
    ∷ lent 6 (0 ∷ 720 ∷ []) 1 15
    ∷ lent 6 (0 ∷ []) 11 7
    ∷ lent 6 (0 ∷ []) 13 7
    ∷ lent 1 [] 0 0
    ∷ []

pub refusals_hold : map (λ (l : Lent). fault l.workers l.cards l.bytes) refusals ≡ map (λ (l : Lent). l.number) refusals
unfolding fault all_below
refusals_hold = refl

-- the length of so many cards' turns, where it fits 64 bits and where not
pub length_most : length_of 6 1537228672809129301 ≡ record { number = 0; long = 18446744073709551612 }
unfolding length_fault
length_most = refl

pub length_more : length_of 6 1537228672809129302 ≡ record { number = 7; long = 0 }
unfolding length_fault
length_more = refl
