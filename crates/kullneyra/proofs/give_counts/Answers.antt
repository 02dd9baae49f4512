use Rattle.std.proofs.Common.{arith}
use Rattle.machine.specs.Row.{count_words}
use Rattle.kullneyra.proofs.Results.{first_and_rest}
use Rattle.kullneyra.proofs.give_counts.Goals as goal

pub returns : goal.returns
returns c =
    let a = c.args in
    let long = c.requires in
    rw c.put_counts.ensures (first_and_rest a.res.now (count_words a.counts) a.finished (omega arith))
