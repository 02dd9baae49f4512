-- `print::width`: each branch knows the powers of ten around the number.
use Rattle.std.proofs.Common.{sym, arith}
use Rattle.text.specs.Text.{decimal}
use Rattle.matrix.proofs.Decimals.{width_one, width_more}
use Rattle.print.proofs.width.Goals as goal

pub returns-then-v-ge1000000 : goal.returns-then-v-ge1000000
unfolding decimal
returns-then-v-ge1000000 c = (sym (width_more 5 13 c.args.v (omega arith) (omega arith)), omega arith)

pub returns-then-v-ge100000 : goal.returns-then-v-ge100000
unfolding decimal
returns-then-v-ge100000 c = (sym (width_more 4 14 c.args.v (omega arith) (omega arith)), omega arith)

pub returns-then-v-ge10000 : goal.returns-then-v-ge10000
unfolding decimal
returns-then-v-ge10000 c = (sym (width_more 3 15 c.args.v (omega arith) (omega arith)), omega arith)

pub returns-then-v-ge1000 : goal.returns-then-v-ge1000
unfolding decimal
returns-then-v-ge1000 c = (sym (width_more 2 16 c.args.v (omega arith) (omega arith)), omega arith)

pub returns-then-v-ge100 : goal.returns-then-v-ge100
unfolding decimal
returns-then-v-ge100 c = (sym (width_more 1 17 c.args.v (omega arith) (omega arith)), omega arith)

pub returns-then-v-ge10 : goal.returns-then-v-ge10
unfolding decimal
returns-then-v-ge10 c = (sym (width_more 0 18 c.args.v (omega arith) (omega arith)), omega arith)

pub returns-else-v-ge10 : goal.returns-else-v-ge10
unfolding decimal
returns-else-v-ge10 c = (sym (width_one 19 c.args.v (omega arith)), omega arith)
