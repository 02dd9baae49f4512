-- At each exit the checks before it found nothing, and the product is taken only where it does not wrap.
use Rattle.std.proofs.Common.{sym, arith}
use Rattle.desk.proofs.Checks.{so}
use Rattle.hands.proofs.Checks.{length_8, length_15, length_7, length_is}
use Rattle.cards.proofs.schedule_length.Goals as goal

pub returns-then-workers_outside : goal.returns-then-workers_outside
returns-then-workers_outside c = sym (length_8 _ _ (so c.workers_outside.ensures c.if-workers_outside.true))

pub returns-then-workers-gt-CARD_WORKERS : goal.returns-then-workers-gt-CARD_WORKERS
returns-then-workers-gt-CARD_WORKERS c =
    sym (length_15 _ _ (so c.workers_outside.ensures c.if-workers_outside.false) c.if-workers-gt-CARD_WORKERS.true)

pub returns-in_default : goal.returns-in_default
returns-in_default c =
    sym (length_7 _ c.args.cards (so c.workers_outside.ensures c.if-workers_outside.false) c.if-workers-gt-CARD_WORKERS.false (omega (arith, c.in_default.ensures)))

pub returns : goal.returns
returns c =
    let e = c.in-Some.ensures in
    rw e.1 (sym (length_is _ c.args.cards (so c.workers_outside.ensures c.if-workers_outside.false) c.if-workers-gt-CARD_WORKERS.false e.0))
