use Rattle.std.proofs.Common.{arith}
use Rattle.seats.proofs.Seating.{sit_start, sit_ready, sit_next, sit_end}
use Rattle.seats.proofs.put_round.Goals as goal

pub loop-b-init : goal.loop-b-init
loop-b-init c = sit_start (omega (arith, c.requires.room))

pub seat-next-requires : goal.seat-next-requires
seat-next-requires c =
    rw c.digits_of-b-items.ensures (sit_ready c.requires.order_is c.requires.few c.loop-b.invariant c.loop-b-test.true c.requires.room)

pub loop-b-preserved : goal.loop-b-preserved
loop-b-preserved c =
    sit_next c.requires.order_is c.requires.few c.loop-b.invariant c.loop-b-test.true (rw c.digits_of-b-items.ensures at c.seat-next.ensures)

pub returns : goal.returns
returns c =
    let e = sit_end c.requires.order_is c.requires.few c.loop-b.invariant c.loop-b-test.false in
    record { put = e.0; ends = e.1 }
