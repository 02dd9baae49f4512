use Rattle.std.proofs.Common.{refl, ap, arith}
use Rattle.worker.specs.declared.registers.Block.{Block}
use Rattle.checkpoint.proofs.Putting.{put_next, put_all}
use Rattle.checkpoint.proofs.workers.put_runs.Goals as goal

pub loop-b-preserved : goal.loop-b-preserved
loop-b-preserved c =
    let used = ap (λ (r : Block). r.used) c.load-r.ensures in
    λ x. put_next x c.loop-b.b c.loop-b-test.true (c.loop-b.invariant x) refl (λ u. omega (arith, u, used, c.min-count.ensures)) c.copy_first.ensures

pub returns : goal.returns
returns c = put_all c.requires (c.loop-b.invariant c.requires) c.loop-b-test.false
