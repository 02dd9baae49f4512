-- SPECIFICATION 10: the draw. A seed is two words of 32 bits; a draw moves both, and the moved words give a card.
use Rattle.std.specs.Prelude.{Result, Ok, Err, ℕ, zero, suc, ◌+◌, ◌*◌, ◌/◌, ◌%◌, ◌^◌, bit_xor}
use Rattle.refusal.specs.declared.Refusal.{Refusal}
use Rattle.refusal.specs.declared.Refusal.TheVariants.{Seed as NoSeed}
use Rattle.refusal.specs.Number.{number}
use Rattle.hands.specs.Deck.{deck_size}
use Rattle.seed.specs.declared.Seed.{Seed}

-- modulo 4,294,967,296
abbrev pub wrap : ℕ → ℕ
wrap x = x % 2 ^ 32

-- a shift to the left by k bits drops what leaves the word
abbrev pub left : ℕ → ℕ → ℕ
left k x = wrap (x * 2 ^ k)

abbrev pub right : ℕ → ℕ → ℕ
right k x = x / 2 ^ k

-- Marsaglia's xorshift: left 13, right 17, left 5
abbrev pub shifted_once : ℕ → ℕ
shifted_once x = bit_xor x (left 13 x)

abbrev pub shifted_twice : ℕ → ℕ
shifted_twice x = bit_xor (shifted_once x) (right 17 (shifted_once x))

unfoldable pub xorshifted : ℕ → ℕ
xorshifted x = bit_xor (shifted_twice x) (left 5 (shifted_twice x))

-- the second word grows by
abbrev pub step_second : ℕ
step_second = 362437

-- the words after a draw
abbrev pub moved : Seed → Seed
moved s = record { first = xorshifted s.first; second = wrap (s.second + step_second) }

-- a first word of 0 is refused, and its seed is left alone
abbrev pub next_by : ℕ → Seed → Seed
next_by zero s = s
next_by (suc k) s = moved s

abbrev pub next : Seed → Seed
next s = next_by s.first s

-- the card that words give: the remainder of their sum
abbrev pub card_of : Seed → ℕ
card_of s = wrap (s.first + s.second) % deck_size

-- what moved words answer
abbrev pub drawn_by : ℕ → Seed → Result ℕ Refusal
drawn_by zero s = Err NoSeed
drawn_by (suc k) s = Ok (card_of s)

-- what a draw answers: 16 where the first word is 0, else the card of the moved words
abbrev pub drawn : Seed → Result ℕ Refusal
drawn s = drawn_by s.first (next s)

-- as a row of SPECIFICATION 2: the number, 0 for no fault, and the card, which is 0 beside a refusal
pub record DrawRow : Type 0 where
  pub number : ℕ
  pub card : ℕ

abbrev pub draw_row : Result ℕ Refusal → DrawRow
draw_row (Ok c) = record { number = 0; card = c }
draw_row (Err r) = record { number = number r; card = 0 }
