-- Draws computed: five cards of three seeds, the first word's five values from 1 on, and the numbers of calls with one fault or two.
use Rattle.std.specs.Prelude.{◌≡◌, ℕ, List, [], ◌∷◌, map, refl}
use Rattle.seed.specs.declared.Seed.{Seed}
use Rattle.seed.specs.Draw.{xorshifted, next, drawn, DrawRow, draw_row}
use Rattle.seed.specs.Deal.{after_draws, hand_of, fault}

abbrev pub seed : ℕ → ℕ → Seed
seed x y = record { first = x; second = y }

pub hands_hold : map (hand_of 5) (seed 1 0 ∷ seed 2463534242 0 ∷ seed 4294967295 4294967295 ∷ [])
    ≡ (646 ∷ 603 ∷ 612 ∷ 243 ∷ 538 ∷ []) ∷ (152 ∷ 660 ∷ 671 ∷ 130 ∷ 394 ∷ []) ∷ (99 ∷ 600 ∷ 257 ∷ 541 ∷ 489 ∷ []) ∷ []
unfolding hand_of xorshifted
hands_hold = refl

pub words_hold : map (λ (k : ℕ). after_draws k (seed 1 0)) (1 ∷ 2 ∷ 3 ∷ 4 ∷ 5 ∷ [])
    ≡ seed 270369 362437 ∷ seed 67634689 724874 ∷ seed 2647435461 1087311 ∷ seed 307599695 1449748 ∷ seed 2398689233 1812185 ∷ []
unfolding after_draws xorshifted
words_hold = refl

-- a first word of 0 is refused with 16, and the words are as they were
abbrev pub answered : ℕ → ℕ → DrawRow
answered number card = record { number = number; card = card }

pub draws_hold : map (λ (s : Seed). draw_row (drawn s)) (seed 0 7 ∷ seed 1 0 ∷ []) ≡ answered 16 0 ∷ answered 0 646 ∷ []
unfolding xorshifted
draws_hold = refl

pub zero_kept : next (seed 0 7) ≡ seed 0 7
zero_kept = refl

-- the first word, W, how many rounds, how long the lent schedule is, and the number of the refusal
pub record Lent : Type 0 where
  pub word : ℕ
  pub workers : ℕ
  pub rounds : ℕ
  pub bytes : ℕ
  pub number : ℕ

abbrev pub lent : ℕ → ℕ → ℕ → ℕ → ℕ → Lent
lent x W k bytes number = record { word = x; workers = W; rounds = k; bytes = bytes; number = number }

-- both edges of each check, and two faults at once
abbrev pub refusals : List Lent
refusals =
    lent 1 6 3 36 0
    ∷ lent 0 0 3 36 8
    ∷ lent 0 17 3 36 8
    ∷ lent 0 7 3 36 16
    ∷ lent 0 1 0 0 16
    ∷ lent 1 7 3 41 15
    ∷ lent 1 16 0 0 15
    ∷ lent 1 6 3 35 7
    ∷ lent 1 6 3 37 7
    ∷ lent 4294967295 1 0 0 0
    ∷ []

pub refusals_hold : map (λ (l : Lent). fault (seed l.word 0) l.rounds l.workers l.bytes) refusals ≡ map (λ (l : Lent). l.number) refusals
unfolding fault
refusals_hold = refl
