use Rattle.std.proofs.Common.{◌≡◌, suc, add-one, arith}
use Rattle.text.proofs.Pages.{then, as_page}
use Rattle.hands.specs.Deck.{digits}
use Rattle.deck.proofs.Printing.{digit_more}
use Rattle.deck.proofs.print.put_card.Goals as goal

pub loop-digit-preserved : goal.loop-digit-preserved
loop-digit-preserved c =
    let i = c.loop-digit.digit-index in
    let put = rw c.digits_of-digit-items.ensures at c.put.ensures in
    rw add-one (as_page (then c.loop-digit.invariant (suc i) (omega arith) put) (digit_more (digits c.args.n) i c.loop-digit-test.true))

pub returns : goal.returns
returns c =
    let e : c.loop-digit.digit-index ≡ 6 = omega arith in
    then (rw e at c.loop-digit.invariant) 7 (omega arith) c.put-2.ensures
