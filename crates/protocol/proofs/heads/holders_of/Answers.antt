use Rattle.std.proofs.Common.{suc, add-one}
use Rattle.protocol.proofs.HeadLaws.{holders_start, holders_next, counted}
use Rattle.protocol.proofs.heads.holders_of.Goals as goal

pub loop-b-init : goal.loop-b-init
loop-b-init c = holders_start

pub loop-b-preserved : goal.loop-b-preserved
loop-b-preserved c =
    holders_next c.loop-b.invariant c.loop-b-test.true
    (counted c.loop-b.found (suc c.args.a) (rw add-one at c.from-found.ensures) c.of.ensures.cell)
