use Rattle.std.proofs.Common.{arith}
use Rattle.lookup.proofs.Sliding.{skip_other, skip_slid, skip_hit, skip_end}
use Rattle.lookup.proofs.next_place.Goals as goal

pub loop-at-preserved-in-Some : goal.loop-at-preserved-in-Some
loop-at-preserved-in-Some c = skip_other c.loop-at.invariant (omega (arith, c.loop-at.invariant.high)) c.in-Some.ensures

pub returns-in-Ok : goal.returns-in-Ok
returns-in-Ok c = skip_hit c.loop-at.invariant c.in-Ok.ensures

pub loop-at-preserved : goal.loop-at-preserved
loop-at-preserved c = skip_slid c.loop-at.invariant c.in-Err.ensures

pub returns : goal.returns
returns c = skip_end c.loop-at.invariant c.loop-at-test.false
