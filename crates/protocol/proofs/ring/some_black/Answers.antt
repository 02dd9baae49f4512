use Rattle.std.proofs.Common.{refl}
use Rattle.laws.specs.Span.{span}
use Rattle.laws.proofs.Decides.{decides_yes}
use Rattle.protocol.proofs.BlackBits.{bits_next, bits_some}
use Rattle.protocol.proofs.ring.some_black.Goals as goal

pub loop-b-init : goal.loop-b-init
unfolding span
loop-b-init c = refl

pub returns-then-black-b-eq1 : goal.returns-then-black-b-eq1
returns-then-black-b-eq1 c =
    decides_yes (bits_some c.args.black c.args.count c.loop-b.b c.loop-b-test.true c.if-black-b-eq1.true)

pub loop-b-preserved : goal.loop-b-preserved
loop-b-preserved c = bits_next c.args.black c.loop-b.b c.loop-b.invariant c.if-black-b-eq1.false
