-- SPECIFICATION 9: the deck as text, a card of six digits to a line.
use Rattle.std.specs.Prelude.{◌≡◌, List, map, ℕ, ◌+◌, ◌≤◌, ◌<◌, length}
use Rattle.laws.specs.Blocks.{laid}
use Rattle.slices.specs.Put.{Put}
use Rattle.text.specs.Text.{line}
use Rattle.hands.specs.Deck.{deck, digits}

-- a card's line
abbrev pub card_line : ℕ → List ℕ
card_line n = line (map (λ (d : ℕ). 48 + d) (digits n))

-- the cards in their order
unfoldable pub deck_text : List ℕ
unfolding laid deck
deck_text = laid card_line deck

-- how many bytes that is
abbrev pub deck_bytes : ℕ
deck_bytes = 5040

-- the text at the beginning of a buffer that has room for it, the bytes behind it unchanged; a shorter buffer is left as it is
pub record Prints (before after : List ℕ) (bytes : ℕ) : Type 0 where
  pub text : deck_bytes ≤ length before → Put before 0 deck_text after bytes
  pub too_short : length before < deck_bytes → (bytes ≡ 0) × (after ≡ before)
  pub inside : bytes ≤ length after
