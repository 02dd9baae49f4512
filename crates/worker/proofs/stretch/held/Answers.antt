-- The front, the back and the middle, each by one law.
use Rattle.std.proofs.Common.{arith}
use Rattle.worker.proofs.Parting.{back_room, back_order, held_front, held_back, held_middle}
use Rattle.worker.proofs.stretch.held.Goals as goal

pub returns-then-keep-top : goal.returns-then-keep-top
returns-then-keep-top c = λ x. held_front x c.if-keep-top.true

pub bounds-s-1 : goal.bounds-s-1
bounds-s-1 c = omega (arith, back_room c.requires c.if-keep-top.false)

pub bounds-s-0 : goal.bounds-s-0
bounds-s-0 c = omega (arith, back_room c.requires c.if-keep-top.false)

pub overflow_sub-s : goal.overflow_sub-s
overflow_sub-s c = back_order c.requires c.if-keep-top.false

pub returns-then-rest-s : goal.returns-then-rest-s
returns-then-rest-s c = λ x. held_back x c.if-keep-top.false c.if-rest-s.true

pub returns : goal.returns
returns c = λ x. held_middle x c.if-keep-top.false c.if-rest-s.false
