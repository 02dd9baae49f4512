-- What is left of this run, the run pushed last, or none.
use native.Mathlib.Omega.{arith}
use Rattle.alone.proofs.Parts.{left_told, none_told, last_told}
use Rattle.alone.proofs.next.Goals as goal

pub returns-then-first-end : goal.returns-then-first-end
returns-then-first-end c = λ more rs e h. left_told more rs e h c.if-first-end.true

pub returns-then-used-lt2 : goal.returns-then-used-lt2
returns-then-used-lt2 c = λ more rs e h. none_told more rs e h (omega (arith, c.if-first-end.false)) c.if-used-lt2.true

pub returns : goal.returns
returns c =
    λ more rs e h. last_told more rs e h (omega (arith, c.if-first-end.false)) (omega (arith, c.if-used-lt2.false))
