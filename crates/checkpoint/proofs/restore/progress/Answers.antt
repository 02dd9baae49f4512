use Rattle.std.proofs.Common.{arith}
use Rattle.checkpoint.proofs.Running.{won_sums, same_starts}
use Rattle.checkpoint.proofs.restore.progress.Goals as goal

pub overflow_sub-result : goal.overflow_sub-result
overflow_sub-result c =
    let x = c.requires in
    omega (arith, c.total.ensures (won_sums x), x.won_live)

pub returns : goal.returns
returns c = λ x. same_starts c.args.numbers.now c.args.running c.args.ring (c.total.ensures (won_sums x))
