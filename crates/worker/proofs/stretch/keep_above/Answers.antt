-- Words are moved down, with the pair at the cut shortened or left out.
use Rattle.std.proofs.Common.{refl, arith}
use Rattle.worker.proofs.Cutting.{cut_first, kept_whole, kept_cut}
use Rattle.worker.proofs.stretch.keep_above.Goals as goal

pub returns-then-left-eq0 : goal.returns-then-left-eq0
returns-then-left-eq0 c =
    let a = c.args in
    rw c.copy_within.ensures.after (kept_whole a.s.now a.used a.cut.place a.cut.left c.if-left-eq0.true)

pub overflow_add-s : goal.overflow_add-s
overflow_add-s c =
    let a = c.args in
    let i = c.requires.split in
    omega (arith, c.requires.fits, cut_first a.s.now a.used c.requires.holds i.above i.first i.more i.below i.whole a.cut.place i.at)

pub returns : goal.returns
returns c =
    let a = c.args in
    rw c.copy_within-2.ensures.after (kept_cut a.s.now a.used a.cut.place a.cut.left c.if-left-eq0.false _ refl)
