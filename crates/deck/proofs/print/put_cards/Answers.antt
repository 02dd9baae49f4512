use Rattle.std.proofs.Common.{◌≡◌, ◌*◌, suc, ap, take_all, add-one, arith}
use Rattle.laws.specs.Blocks.{laid}
use Rattle.text.proofs.Pages.{blank, then, as_page}
use Rattle.hands.specs.Deck.{deck}
use Rattle.hands.proofs.Deck.{deck_long}
use Rattle.deck.specs.Text.{card_line, deck_text}
use Rattle.deck.proofs.Printing.{card_low, card_more}
use Rattle.deck.proofs.print.put_cards.Goals as goal

pub loop-n-init : goal.loop-n-init
unfolding laid
loop-n-init c = blank _ (omega arith)

pub put_card-requires-clause-six_digits : goal.put_card-requires-clause-six_digits
put_card-requires-clause-six_digits c = rw c.all-n-items.ensures (card_low c.loop-n.n-index c.loop-n-test.true)

pub loop-n-preserved : goal.loop-n-preserved
loop-n-preserved c =
    let i = c.loop-n.n-index in
    let put = rw c.all-n-items.ensures at c.put_card.ensures in
    rw add-one (as_page (then c.loop-n.invariant (7 * suc i) (omega arith) put) (card_more i c.loop-n-test.true))

pub returns : goal.returns
unfolding deck_text
returns c =
    let e : c.loop-n.n-index ≡ 720 = omega arith in
    as_page (rw e at c.loop-n.invariant) (ap (laid card_line) (take_all 720 deck (omega (arith, deck_long))))
