-- A marked target is followed, an unmarked one is claimed next.
use Rattle.std.proofs.Common.{arith}
use Rattle.machine.specs.Tally.{tally}
use Rattle.step.specs.Raising.{raised_words}
use Rattle.step.proofs.Raising.{raisable}
use Rattle.step.proofs.Bounds.{roomy}
use Rattle.follow.proofs.Looking.{look_low, look_there, seen, holds_claims}
use Rattle.follow.proofs.look.Goals as goal

pub bounds-marks-t : goal.bounds-marks-t
bounds-marks-t c = rw c.load-r.ensures (look_there c.requires)

pub follow-q-requires-clause-by_index : goal.follow-q-requires-clause-by_index
follow-q-requires-clause-by_index c =
    let n = rw c.load-r.ensures at c.if-seen-ne0.true in
    let marks = c.args.marks.now in
    let tallies = c.args.tallies.now in
    (marks, (marks, (tallies, (raised_words tallies c.args.step.entry.worker (tally 1 0 0 0), seen c.requires n))))

pub raise-requires : goal.raise-requires
raise-requires c =
    let x = c.requires in
    raisable x.scene x.holds c.args.step.entry.worker (look_low x) _ (omega arith) (omega arith) (omega arith) (omega arith)

pub returns-then-seen-ne0 : goal.returns-then-seen-ne0
returns-then-seen-ne0 c =
    let n = rw c.load-r.ensures at c.if-seen-ne0.true in
    λ v x. rw c.raise.ensures (c.follow-q.ensures _ _ _ _ v (seen x n))

pub moved-requires : goal.moved-requires
moved-requires c = (roomy c.requires.scene c.requires.holds, omega arith, omega arith)

pub returns : goal.returns
returns c =
    let z = rw c.load-r.ensures at c.if-seen-ne0.false in
    λ v x. rw (c.put.ensures, c.moved.ensures) (holds_claims x z v)
