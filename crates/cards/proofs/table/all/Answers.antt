-- The numbers are the deck, as antt computes it.
use Rattle.std.proofs.Common.{refl}
use Rattle.hands.specs.Deck.{deck}
use Rattle.cards.proofs.table.all.Goals as goal

pub returns : goal.returns
unfolding deck
returns c = refl
