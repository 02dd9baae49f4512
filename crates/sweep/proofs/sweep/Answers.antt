use Rattle.std.proofs.Common.{◌≡◌, ◌∙◌, ap, arith, ℕ, length}
use Rattle.slices.specs.Slices.{cleared}
use Rattle.slices.proofs.Clearing.{filled}
use Rattle.desk.proofs.Checks.{so}
use Rattle.sweep.specs.Sweep.{fault}
use Rattle.sweep.proofs.Collection.{collected}
use Rattle.sweep.proofs.Fault.{refusing, fault_count, fault_marks, fault_list, fault_size, fault_free}
use Rattle.sweep.proofs.Dead.{padded}
use Rattle.sweep.proofs.sweep.Goals as goal

pub returns-then-out_of_range : goal.returns-then-out_of_range
returns-then-out_of_range c =
    let p = collected _ _ _ (refusing _ _ _ 3 (fault_count _ _ _ (so c.out_of_range.ensures c.if-out_of_range.true))) in
    record { result_value = p.0; list_after = p.1.0; collection = p.1.1 }

pub returns-then-marks-n : goal.returns-then-marks-n
returns-then-marks-n c =
    let n = so c.out_of_range.ensures c.if-out_of_range.false in
    let p = collected _ _ _ (refusing _ _ _ 6 (fault_marks _ _ _ n c.if-marks-n.true)) in
    record { result_value = p.0; list_after = p.1.0; collection = p.1.1 }

pub returns-then-list-n : goal.returns-then-list-n
returns-then-list-n c =
    let n = so c.out_of_range.ensures c.if-out_of_range.false in
    let p = collected _ _ _ (refusing _ _ _ 6 (fault_list _ _ _ n c.if-marks-n.false c.if-list-n.true)) in
    record { result_value = p.0; list_after = p.1.0; collection = p.1.1 }

pub returns-then-not-sizes_fit : goal.returns-then-not-sizes_fit
returns-then-not-sizes_fit c =
    let n = so c.out_of_range.ensures c.if-out_of_range.false in
    let fits = so c.sizes_fit.ensures c.if-not-sizes_fit.true in
    let p = collected _ _ _ (refusing _ _ _ 5 (fault_size _ _ _ n c.if-marks-n.false c.if-list-n.false fits)) in
    record { result_value = p.0; list_after = p.1.0; collection = p.1.1 }

pub returns : goal.returns
returns c =
    let n = so c.out_of_range.ensures c.if-out_of_range.false in
    let fits = so c.sizes_fit.ensures c.if-not-sizes_fit.false in
    let l = c.list_dead-count.ensures in
    let listed = c.list_dead-count.new.list in
    let count = c.list_dead-count.result.count in
    let long : length listed ≡ length c.args.sizes.now = l.long ∙ c.if-list-n.false in
    let free : fault c.args.marks.now c.args.sizes.now c.args.list.now ≡ 0 = fault_free _ _ _ n c.if-marks-n.false c.if-list-n.false fits in
    let zeros = filled listed count (length listed) l.room (omega arith) (c.fill.ensures.after (λ y e. e)) in
    let p =
    collected c.args.marks.now c.args.sizes.now c.args.list.now
    (rw (free, l.counted, l.summed), rw free (padded l c.if-list-n.false (zeros ∙ ap (λ (k : ℕ). cleared listed count k) long))) in
    record { result_value = p.0; list_after = p.1.0; collection = p.1.1 }
