-- The lines of the deck, one card after the other, and the digits of a card.
use Rattle.std.proofs.Common.{◌≡◌, List, [], ◌∷◌, ◌++◌, map, ℕ, suc, ◌+◌, ◌<◌, length, get_or, take, ap, ◌∙◌, sym, take-suc, arith}
use Rattle.std.proofs.lemmas.List.{map-append}
use mathlib.Core.Logic.{by_cases}
use native.Mathlib.Decide.{dec_lt}
use Rattle.laws.specs.Blocks.{laid}
use Rattle.hands.specs.Deck.{deck_size, deck, card}
use Rattle.hands.proofs.Deck.{deck_long, all_orders}
use Rattle.hands.proofs.Rows.{laid_snoc}
use Rattle.deck.specs.Text.{card_line}

-- no card is above the last
pub card_low : (i : ℕ) → i < deck_size → card i < 1000000
card_low i h =
    by_cases (dec_lt i 719)
    (λ (p : i < 719). omega (arith, all_orders.ascending i 719 p (omega arith), all_orders.last))
    (λ (p : ¬ (i < 719)). let e : i ≡ 719 = omega arith in rw e (omega (arith, all_orders.last)))

pub card_more : (i : ℕ) → i < deck_size → laid card_line (take i deck) ++ card_line (card i) ≡ laid card_line (take (suc i) deck)
card_more i h =
    sym (ap (laid card_line) (take-suc deck i 0 (omega (arith, deck_long))) ∙ laid_snoc card_line (take i deck) (card i))

pub digit_more : (ds : List ℕ) (i : ℕ) → i < length ds
    → map (λ (d : ℕ). 48 + d) (take i ds) ++ ((48 + get_or ds i 0) ∷ []) ≡ map (λ (d : ℕ). 48 + d) (take (suc i) ds)
digit_more ds i h =
    let f : ℕ → ℕ = λ d. 48 + d in
    sym (ap (map f) (take-suc ds i 0 h) ∙ map-append f (take i ds) (get_or ds i 0 ∷ []))
