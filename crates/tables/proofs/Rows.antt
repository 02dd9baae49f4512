-- The round of card c stands in row c.
use Rattle.std.proofs.Common.{◌≡◌, ℕ, ◌<◌, [], get_or, arith}
use Rattle.std.proofs.lemmas.List.{get_or-map}
use Rattle.hands.specs.Deck.{deck_size, deck, digits}
use Rattle.hands.specs.Hand.{dealt, circle, round_of}
use Rattle.hands.proofs.Deck.{deck_long}
use Rattle.tables.specs.Table.{rounds}

pub row_is : (W c : ℕ) → c < deck_size → get_or (rounds W) c [] ≡ round_of W c
unfolding rounds round_of
row_is W c h = get_or-map (λ (n : ℕ). circle (dealt W (digits n))) deck c 0 [] (omega (arith, deck_long))
