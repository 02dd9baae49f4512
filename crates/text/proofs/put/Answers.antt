use Rattle.std.proofs.Common.{add-one, arith}
use lib.Seq.{paste-suc}
use Rattle.text.proofs.put.Goals as goal

pub loop-i-preserved : goal.loop-i-preserved
loop-i-preserved c =
    let l = c.loop-i in
    rw (l.invariant, add-one) (paste-suc c.args.out.now c.args.at c.args.s.now l.i 0 (omega arith) c.loop-i-test.true)
