-- A marked object is passed over, and another gets the mark and its place on the list.
use Rattle.std.proofs.Common.{arith}
use Rattle.changes.proofs.Touching.{touched_known, touched_new, room_for}
use Rattle.changes.proofs.marking.touch.Goals as goal

pub bounds-list-top : goal.bounds-list-top
bounds-list-top c = room_for _ _ _ _ c.requires.0 c.requires.1 c.if-marks-i-eq0.true

pub returns-then-marks-i-eq0 : goal.returns-then-marks-i-eq0
returns-then-marks-i-eq0 c =
    touched_new _ _ _ _ _ c.if-marks-i-eq0.true c.requires.1 (room_for _ _ _ _ c.requires.0 c.requires.1 c.if-marks-i-eq0.true) c.requires.2

pub returns : goal.returns
returns c = touched_known _ _ _ _ _ (omega (arith, c.if-marks-i-eq0.false))
