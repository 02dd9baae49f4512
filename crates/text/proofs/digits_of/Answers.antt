use Rattle.std.proofs.Common.{◌-◌, refl, ◌∙◌, append-nil, arith, length-set}
use Rattle.text.specs.Text.{decimal}
use Rattle.text.proofs.Decimal.{digit_last, digit_more, none_left}
use Rattle.text.proofs.digits_of.Goals as goal

pub loop-i-init : goal.loop-i-init
unfolding decimal
loop-i-init c = record { long = refl; digits = append-nil (decimal c.args.v) }

pub returns-then-left-lt10 : goal.returns-then-left-lt10
returns-then-left-lt10 c =
    let l = c.loop-i in
    record {
      long = rw length-set l.invariant.long;
      inside = omega arith;
      digits = digit_last (l.i - 1) l.i l.left l.bytes (omega arith) (omega arith) c.if-left-lt10.true ∙ l.invariant.digits;
    }

pub loop-i-preserved : goal.loop-i-preserved
loop-i-preserved c =
    let l = c.loop-i in
    record {
      long = rw length-set l.invariant.long;
      digits = digit_more (l.i - 1) l.i l.left l.bytes (omega arith) (omega arith) c.if-left-lt10.false ∙ l.invariant.digits;
    }

pub returns : goal.returns
returns c =
    let l = c.loop-i in
    record { long = l.invariant.long; inside = omega arith; digits = none_left l.i l.left l.bytes (omega arith) ∙ l.invariant.digits }
