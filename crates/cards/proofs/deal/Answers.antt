-- At each exit the checks before it found nothing, and this one what it says.
use Rattle.std.proofs.Common.{refl}
use Rattle.desk.specs.Limits.{most_workers}
use Rattle.desk.proofs.Checks.{so, inside}
use Rattle.hands.proofs.Checks.{finds_8, finds_width, finds_card, finds_7, finds_none, refused, dealt_all}
use Rattle.cards.proofs.deal.Goals as goal

pub returns-then-workers_outside : goal.returns-then-workers_outside
returns-then-workers_outside c = refused _ _ _ 7 refl (finds_8 _ _ _ (so c.workers_outside.ensures c.if-workers_outside.true))

pub returns-then-workers-gt-CARD_WORKERS : goal.returns-then-workers-gt-CARD_WORKERS
returns-then-workers-gt-CARD_WORKERS c =
    refused _ _ _ 14 refl (finds_width _ _ _ (so c.workers_outside.ensures c.if-workers_outside.false) c.if-workers-gt-CARD_WORKERS.true)

pub returns-then-not-is_below : goal.returns-then-not-is_below
returns-then-not-is_below c =
    refused _ _ _ 14 refl
    (finds_card _ _ _ (so c.workers_outside.ensures c.if-workers_outside.false) c.if-workers-gt-CARD_WORKERS.false (so c.is_below.ensures c.if-not-is_below.true))

pub is_schedule_of-requires : goal.is_schedule_of-requires
is_schedule_of-requires c = ((inside most_workers _ (so c.workers_outside.ensures c.if-workers_outside.false)).0, c.if-workers-gt-CARD_WORKERS.false)

pub returns-then-not-is_schedule_of : goal.returns-then-not-is_schedule_of
returns-then-not-is_schedule_of c =
    refused _ _ _ 6 refl
    (finds_7 _ _ _ (so c.workers_outside.ensures c.if-workers_outside.false) c.if-workers-gt-CARD_WORKERS.false (so c.is_below.ensures c.if-not-is_below.false)
    (so c.is_schedule_of.ensures c.if-not-is_schedule_of.true))

pub returns : goal.returns
returns c =
    let within = so c.workers_outside.ensures c.if-workers_outside.false in
    let known = so c.is_below.ensures c.if-not-is_below.false in
    let exact = so c.is_schedule_of.ensures c.if-not-is_schedule_of.false in
    dealt_all _ _ _ refl (finds_none _ _ _ within c.if-workers-gt-CARD_WORKERS.false known exact) (inside most_workers _ within).0 c.if-workers-gt-CARD_WORKERS.false known
    c.put_hand.ensures
