-- `parse::body_at`: one law of `Bodies` for each way on and out.
use Rattle.matrix.proofs.Bodies.{passing_next, body_bad, body_longer, body_end}
use Rattle.parse.proofs.body_at.Goals as goal

pub returns-in_err-line : goal.returns-in_err-line
returns-in_err-line c = rw c.from_residual.ensures (body_bad c.loop-e.invariant c.loop-e-test.true c.in_err-line.ensures)

pub loop-e-preserved : goal.loop-e-preserved
loop-e-preserved c = rw c.is_inside-fits.ensures (passing_next c.loop-e.invariant c.loop-e-test.true c.in_ok-line.ensures)

pub returns-then-i-text : goal.returns-then-i-text
returns-then-i-text c = body_end c.loop-e.invariant c.loop-e-test.false c.if-i-text.true

pub returns-else-i-text : goal.returns-else-i-text
returns-else-i-text c = body_longer c.loop-e.invariant c.loop-e-test.false c.if-i-text.false
