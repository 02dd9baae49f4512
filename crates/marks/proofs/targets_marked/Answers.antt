use Rattle.std.proofs.Common.{◌≡◌, arith}
use Rattle.laws.proofs.Decides.{decides_no, refuted}
use Rattle.marks.proofs.MarkLaws.{rows_start, row_passed, row_known, gap_passed, rows_end}
use Rattle.marks.proofs.targets_marked.Goals as goal

pub loop-v-init : goal.loop-v-init
loop-v-init c = (c.requires.some, rows_start c.requires)

pub returns-then-not-rows_marked : goal.returns-then-not-rows_marked
returns-then-not-rows_marked c =
    let p = c.requires in
    let row = c.alike_end-next.ensures in
    let reached = row_passed p c.loop-v.invariant.1 p.objects row in
    decides_no (λ all. refuted c.rows_marked.ensures c.if-not-rows_marked.true
    (row_known p reached (omega (arith, row.high, p.objects)) (omega (arith, c.min-to.ensures)) (omega (arith, c.min-to.ensures)) all))

pub loop-v-preserved : goal.loop-v-preserved
loop-v-preserved c =
    let p = c.requires in
    let gap = c.alike_end-v.ensures in
    let reached = row_passed p c.loop-v.invariant.1 p.objects c.alike_end-next.ensures in
    (gap.high, gap_passed p reached p.objects gap c.min-to.ensures c.max-from.ensures (c.rows_marked.ensures.right c.if-not-rows_marked.false))

pub returns : goal.returns
returns c =
    let all : c.loop-v.v ≡ c.args.window.last = omega (arith, c.loop-v.invariant.0, c.loop-v-test.false) in
    rows_end c.requires (rw all at c.loop-v.invariant.1) c.rows_marked-2.ensures
