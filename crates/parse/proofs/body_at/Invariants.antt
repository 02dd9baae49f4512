-- `parse::body_at`: the lines passed are lines of pairs.
use Rattle.matrix.proofs.Bodies.{Passing}
use Rattle.parse.proofs.body_at.Given as goal

abbrev pub invariant-loop-e : goal.invariant-loop-e
invariant-loop-e l = Passing l.text l.at l.n l.m l._e l.i l.fits
