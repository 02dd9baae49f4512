-- The words below the pair are copied, then those above it are moved down.
use Rattle.std.proofs.Common.{◌-◌, arith}
use Rattle.poll.proofs.Dividing.{copy_room, placed, cleft, divided_below}
use Rattle.poll.proofs.cut_middle.Goals as goal

pub overflow_sub-below : goal.overflow_sub-below
overflow_sub-below c = (placed (record { cutting = c.requires.1; small = λ i. omega (arith, c.type_inv.work i) })).low

pub bounds-work-at : goal.bounds-work-at
bounds-work-at c =
    let p = placed (record { cutting = c.requires.1; small = λ i. omega (arith, c.type_inv.work i) }) in
    omega arith

pub overflow_add-next : goal.overflow_add-next
overflow_add-next c =
    omega (arith, (placed (record { cutting = c.requires.1; small = λ i. omega (arith, c.type_inv.work i) })).fits)

pub bounds-work-at-2 : goal.bounds-work-at-2
bounds-work-at-2 c =
    let p = placed (record { cutting = c.requires.1; small = λ i. omega (arith, c.type_inv.work i) }) in
    omega arith

pub copy_within-requires-clause-in_bounds : goal.copy_within-requires-clause-in_bounds
copy_within-requires-clause-in_bounds c =
    let p = placed (record { cutting = c.requires.1; small = λ i. omega (arith, c.slice_known-1.given i) }) in
    omega arith

pub copy_within-requires-clause-dest_in_bounds : goal.copy_within-requires-clause-dest_in_bounds
copy_within-requires-clause-dest_in_bounds c =
    let p = placed (record { cutting = c.requires.1; small = λ i. omega (arith, c.slice_known-1.given i) }) in
    omega (arith, (copy_room c.requires.1.dividing (c.args.cut.place - 2) (omega arith)).1)

pub keep_above-used-requires : goal.keep_above-used-requires
keep_above-used-requires c =
    cleft (record { cutting = c.requires.1; small = λ i. omega (arith, c.slice_known-1.given i) }) _ c.copy_within.ensures.after

pub returns-clause-by_index : goal.returns-clause-by_index
returns-clause-by_index c = λ k x.
    divided_below (record { cutting = x; small = λ i. omega (arith, c.slice_known-1.given i) }) _ c.copy_within.ensures.after
    _ _ c.keep_above-used.auto.s c.keep_above-used.ensures
