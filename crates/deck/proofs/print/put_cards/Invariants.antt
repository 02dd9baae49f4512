-- A loop: the lines of the cards before this one are written.
use Rattle.std.proofs.Common.{◌*◌, take}
use Rattle.laws.specs.Blocks.{laid}
use Rattle.text.specs.Pages.{Wrote}
use Rattle.hands.specs.Deck.{deck}
use Rattle.deck.specs.Text.{card_line}
use Rattle.deck.proofs.print.put_cards.Given as goal

abbrev pub invariant-loop-n : goal.invariant-loop-n
invariant-loop-n l = Wrote (7 * l.n-index) (laid card_line (take l.n-index deck)) l.initial.page l.page
