use Rattle.std.proofs.Common.{refl, arith}
use Rattle.laws.specs.Span.{span}
use Rattle.changes.proofs.Gathering.{named_next}
use Rattle.remove.proofs.count_by.Goals as goal

pub loop-from-init : goal.loop-from-init
unfolding span
loop-from-init c = record { within = omega arith; count_is = refl; count_low = omega arith }

pub loop-from-preserved : goal.loop-from-preserved
loop-from-preserved c =
    record {
      within = omega arith;
      count_is = named_next c.args.numbers.now c.loop-from.invariant.count_is (omega arith) c.gather-count.ensures;
      count_low = omega (arith, c.gather-count.ensures.count_low);
    }
