-- The front is cut, or the uppermost pair comes up.
use Rattle.std.proofs.Common.{arith}
use Rattle.worker.proofs.Parting.{behind_cut, behind_bounds, behind_whole}
use Rattle.worker.proofs.stretch.behind_front.Goals as goal

pub returns-then-first-end : goal.returns-then-first-end
returns-then-first-end c = λ x. behind_cut x c.if-first-end.true

pub overflow_sub-at : goal.overflow_sub-at
overflow_sub-at c = (behind_bounds c.requires c.if-first-end.false).0

pub overflow_sub-result : goal.overflow_sub-result
overflow_sub-result c = (behind_bounds c.requires c.if-first-end.false).0

pub bounds-s-at : goal.bounds-s-at
bounds-s-at c = let b = behind_bounds c.requires c.if-first-end.false in omega arith

pub bounds-s-at-2 : goal.bounds-s-at-2
bounds-s-at-2 c = let b = behind_bounds c.requires c.if-first-end.false in omega arith

pub returns : goal.returns
returns c = λ x. behind_whole x c.if-first-end.false
