-- At each exit the checks before it found nothing, and this one what it says.
use Rattle.std.proofs.Common.{refl, arith}
use borrow.Author.Tests.{eqb-true}
use Rattle.desk.specs.Limits.{most_workers}
use Rattle.desk.proofs.Checks.{so, inside}
use Rattle.refusal.specs.declared.Refusal.TheVariants.{Setting, Cards, Buffer, Seed as NoSeed}
use Rattle.seed.proofs.Checks.{finds_8, finds_16, finds_15, finds_7, finds_none, refused, dealt_all}
use Rattle.seed_deal.proofs.deal_seed.Goals as goal

pub returns-then-workers_outside : goal.returns-then-workers_outside
returns-then-workers_outside c = refused _ _ _ _ Setting 7 refl (finds_8 _ _ _ _ (so c.workers_outside.ensures c.if-workers_outside.true))

pub returns-then-seed-eq0 : goal.returns-then-seed-eq0
returns-then-seed-eq0 c =
    refused _ _ _ _ NoSeed 15 refl (finds_16 _ _ _ _ (so c.workers_outside.ensures c.if-workers_outside.false) c.if-seed-eq0.true)

pub returns-then-workers-gt-CARD_WORKERS : goal.returns-then-workers-gt-CARD_WORKERS
returns-then-workers-gt-CARD_WORKERS c =
    refused _ _ _ _ Cards 14 refl
    (finds_15 _ _ _ _ (so c.workers_outside.ensures c.if-workers_outside.false) c.if-seed-eq0.false c.if-workers-gt-CARD_WORKERS.true)

pub is_schedule_of-requires : goal.is_schedule_of-requires
is_schedule_of-requires c = ((inside most_workers _ (so c.workers_outside.ensures c.if-workers_outside.false)).0, c.if-workers-gt-CARD_WORKERS.false)

pub returns-then-not-is_schedule_of : goal.returns-then-not-is_schedule_of
returns-then-not-is_schedule_of c =
    refused _ _ _ _ Buffer 6 refl
    (finds_7 _ _ _ _ (so c.workers_outside.ensures c.if-workers_outside.false) c.if-seed-eq0.false c.if-workers-gt-CARD_WORKERS.false
    (so c.is_schedule_of.ensures c.if-not-is_schedule_of.true))

pub put_seed-requires : goal.put_seed-requires
put_seed-requires c =
    record {
      some = (inside most_workers _ (so c.workers_outside.ensures c.if-workers_outside.false)).0;
      few = c.if-workers-gt-CARD_WORKERS.false;
      exact = eqb-true _ _ (so c.is_schedule_of.ensures c.if-not-is_schedule_of.false);
    }

pub returns : goal.returns
returns c =
    let within = so c.workers_outside.ensures c.if-workers_outside.false in
    let exact = so c.is_schedule_of.ensures c.if-not-is_schedule_of.false in
    dealt_all _ _ _ _ (finds_none _ _ _ _ within c.if-seed-eq0.false c.if-workers-gt-CARD_WORKERS.false exact)
    (record { some = c.if-seed-eq0.false; low = omega arith }) (inside most_workers _ within).0 c.if-workers-gt-CARD_WORKERS.false c.put_seed.ensures.seed_is
    c.put_seed.ensures.schedule_is
