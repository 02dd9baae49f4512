use Rattle.std.proofs.Common.{arith}
use Rattle.frontier.proofs.WindowLaws.{carried_none, carried_row}
use Rattle.frontier.proofs.windows.carry.Goals as goal

pub returns-then-high-low : goal.returns-then-high-low
returns-then-high-low c =
    let a = c.args in
    carried_none a.base a.end a.from a.to (omega (arith, c.if-high-low.true, c.min-high.ensures, c.max-low.ensures))

pub returns : goal.returns
returns c =
    let a = c.args in
    carried_row a.base a.end a.from a.to c.max-low.ensures c.min-high.ensures c.if-high-low.false c.insert.ensures
