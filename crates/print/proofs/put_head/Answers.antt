-- `print::put_head`: the first line, and three numbers, each with its byte behind it.
use Rattle.matrix.proofs.Texts.{head_put}
use Rattle.print.proofs.put_head.Goals as goal

pub returns : goal.returns
returns c =
    head_put c.args.n c.args.m c.put-first.ensures c.put_field-second.ensures c.put_field-third.ensures c.put_field.ensures
