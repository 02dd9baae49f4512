-- `print::more_digits`: one digit for each power of ten that is reached.
use Rattle.matrix.proofs.Texts.{digits_few}
use Rattle.print.proofs.more_digits.Goals as goal

pub returns : goal.returns
returns c = digits_few _ c.requires c.from.ensures c.from-2.ensures c.from-3.ensures c.from-4.ensures
