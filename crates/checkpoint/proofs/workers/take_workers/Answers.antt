use Rattle.std.proofs.Common.{refl}
use Rattle.checkpoint.proofs.Restoring.{one_restored, taking_all}
use Rattle.checkpoint.proofs.workers.take_workers.Goals as goal

pub loop-b-preserved : goal.loop-b-preserved
loop-b-preserved c =
    λ x. one_restored x c.loop-b-test.true refl c.saved_at-w.ensures c.block_of-r.result c.block_of-r.ensures (c.loop-b.invariant x) c.store.ensures

pub returns : goal.returns
returns c = record { long = c.loop-b.auto.regs; done = λ x. taking_all x (c.loop-b.invariant x) c.loop-b-test.false }
