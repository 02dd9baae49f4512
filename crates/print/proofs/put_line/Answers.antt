-- `print::put_line`: two numbers, each with its byte behind it.
use Rattle.matrix.proofs.Texts.{line_put}
use Rattle.print.proofs.put_line.Goals as goal

pub returns : goal.returns
returns c = line_put c.args.from c.args.to c.put_field-middle.ensures c.put_field.ensures
