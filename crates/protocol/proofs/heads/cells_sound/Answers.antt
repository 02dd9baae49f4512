use Rattle.std.proofs.Common.{arith, below_more}
use Rattle.laws.proofs.Decides.{decides_no}
use Rattle.protocol.proofs.HeadLaws.{counted}
use Rattle.protocol.proofs.heads.cells_sound.Goals as goal

pub returns-then-holders_of-wanted : goal.returns-then-holders_of-wanted
returns-then-holders_of-wanted c =
    decides_no (λ h. c.if-holders_of-wanted.true (omega (arith, h c.loop-a.a c.loop-a-test.true, c.holders_of.ensures, counted 0 1 c.from-wanted.ensures c.of-status.ensures.status)))

pub loop-a-preserved : goal.loop-a-preserved
loop-a-preserved c =
    below_more _ _ c.loop-a.invariant (omega (arith, c.holders_of.ensures, c.if-holders_of-wanted.false, counted 0 1 c.from-wanted.ensures c.of-status.ensures.status))
