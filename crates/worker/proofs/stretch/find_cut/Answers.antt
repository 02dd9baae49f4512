-- The walk stops at the pair in which the first k references end.
use Rattle.std.proofs.Common.{arith}
use Rattle.worker.proofs.Cutting.{inside_start, cut_size, cut_stop, cut_go}
use Rattle.worker.proofs.stretch.find_cut.Goals as goal

pub loop-left-init : goal.loop-left-init
loop-left-init c =
    let a = c.args in
    let p = c.requires in
    let i = inside_start a.s.now a.used a.k p.runs p.holds p.enough in (
      (omega (arith, i.at), (omega arith, p.holds.room)),
      λ rs h l. inside_start a.s.now a.used a.k rs h l,
    )

pub overflow_sub-size-in-loop-left-2 : goal.overflow_sub-size-in-loop-left-2
overflow_sub-size-in-loop-left-2 c =
    let p = c.requires in
    (cut_size p.holds (c.loop-left.invariant.1 p.runs p.holds p.enough)).0

pub returns-then-left-size : goal.returns-then-left-size
returns-then-left-size c = record { split = λ rs h e. cut_stop h (c.loop-left.invariant.1 rs h e) c.if-left-size.true }

pub loop-left-preserved : goal.loop-left-preserved
loop-left-preserved c =
    let p = c.requires in
    let l = c.loop-left in
    let n = cut_go p.holds (l.invariant.1 p.runs p.holds p.enough) c.if-left-size.false in (
      (omega (arith, n.at), (omega arith, omega arith)),
      λ rs h e. cut_go h (l.invariant.1 rs h e) c.if-left-size.false,
    )
