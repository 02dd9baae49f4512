-- `parse::short_field`: four or five digits are passed, and the wanted byte is behind them.
use Rattle.std.proofs.Common.{refl, arith}
use Rattle.matrix.proofs.Fields.{four_field, five_field}
use Rattle.parse.proofs.short_field.Goals as goal

pub returns-then-e-stop : goal.returns-then-e-stop
returns-then-e-stop c = (
  rw c.four_value-four.ensures.0
      (four_field _ c.args.at c.requires.0 refl refl refl refl (c.if-not-are_digits.ensures refl) c.if-e-stop.true c.requires.1),
  omega arith,
)

pub returns : goal.returns
returns c =
    let d = c.if-not-is_ascii_digit.ensures.cases in (
      rw (c.four_value-four.ensures.0, c.from.ensures)
          (five_field _ c.args.at c.requires.0 refl refl refl refl (c.if-not-are_digits.ensures refl) refl (record { low = d.0; high = d.1 }) c.if-text-at.false c.requires.1),
      omega arith,
    )
