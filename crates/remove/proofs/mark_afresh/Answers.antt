-- From zeros to the starts' marks, to what they reach.
use Rattle.std.proofs.Common.{length, arith}
use Rattle.changes.proofs.Touching.{left_then}
use Rattle.changes.proofs.Afresh.{afresh_room, afresh_followable, afresh_between}
use Rattle.remove.proofs.mark_afresh.Goals as goal

pub touch_all-count-requires : goal.touch_all-count-requires
touch_all-count-requires c =
    let p = c.requires in
    (afresh_room p.0 (length c.args.marks.now) p.2 c.args.work.now p.3 p.4 (c.fill.ensures.after (λ y e. e)), rw c.fill.ensures.len p.1, omega arith)

pub follow-requires : goal.follow-requires
follow-requires c =
    let p = c.requires in
    afresh_followable p.0 (length c.args.marks.now) p.2 c.args.work.now p.3 p.4 (c.fill.ensures.after (λ y e. e)) c.touch_all-count.ensures

pub returns : goal.returns
returns c =
    let p = c.requires in
    let cleared = c.fill.ensures.after (λ y e. e) in
    let all = c.touch_all-count.ensures in (
      c.follow.ensures.0 _ (afresh_between p.0 (length c.args.marks.now) p.2 c.args.work.now p.3 p.4 cleared all),
      rw cleared at (left_then all.left (omega (arith, all.sized)) c.follow.ensures.1),
    )
