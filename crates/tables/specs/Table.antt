-- The rounds of all cards for W workers, one behind the other.
use Rattle.std.specs.Prelude.{List, ℕ, map}
use Rattle.hands.specs.Deck.{deck, digits}
use Rattle.hands.specs.Hand.{dealt, circle}

unfoldable pub rounds : ℕ → List (List ℕ)
unfolding deck dealt circle
rounds W = map (λ (n : ℕ). circle (dealt W (digits n))) deck
