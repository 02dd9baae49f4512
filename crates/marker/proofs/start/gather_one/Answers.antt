-- By the mark that stands there, and by whether the start has references.
use mathlib.Core.Path.{refl}
use native.Mathlib.Omega.{arith}
use lib.ListN.{length-set}
use Rattle.marker.proofs.Gather.{mark_there, offset_there, live_small, gathered_again, gathered_none, room_more, carried_small, gathered_more}
use Rattle.marker.proofs.start.gather_one.Goals as goal

pub bounds-marks-i : goal.bounds-marks-i
bounds-marks-i c = mark_there c.requires

pub bounds-marks-i-2 : goal.bounds-marks-i-2
bounds-marks-i-2 c = mark_there c.requires

pub returns-then-was-ne0 : goal.returns-then-was-ne0
returns-then-was-ne0 c = λ x. gathered_again x c.if-was-ne0.true

pub overflow_add-live : goal.overflow_add-live
overflow_add-live c = omega (arith, live_small c.requires)

pub bounds-offsets-i : goal.bounds-offsets-i
bounds-offsets-i c = omega (arith, offset_there c.requires)

pub bounds-offsets-i-2 : goal.bounds-offsets-i-2
bounds-offsets-i-2 c = offset_there c.requires

pub returns-then-end-first : goal.returns-then-end-first
returns-then-end-first c = λ x. gathered_none x c.if-was-ne0.false c.if-end-first.true

pub overflow_sub-at : goal.overflow_sub-at
overflow_sub-at c =
    room_more c.requires c.if-was-ne0.false _ _ refl refl c.if-end-first.false

pub bounds-s-at-2 : goal.bounds-s-at-2
bounds-s-at-2 c =
    let x = c.requires in
    simp length-set (omega (arith, room_more x c.if-was-ne0.false _ _ refl refl c.if-end-first.false, x.gathered.ends.place))

pub overflow_add-result : goal.overflow_add-result
overflow_add-result c =
    omega (arith, carried_small c.requires c.if-was-ne0.false _ _ refl refl c.if-end-first.false)

pub returns : goal.returns
returns c =
    λ x. gathered_more x c.if-was-ne0.false _ _ refl refl c.if-end-first.false
