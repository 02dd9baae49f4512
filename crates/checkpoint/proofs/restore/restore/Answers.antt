use Rattle.std.proofs.Common.{◌-◌, length, refl, ◌∙◌, arith}
use Rattle.checkpoint.proofs.Parts.{rest_lent}
use Rattle.checkpoint.proofs.Resuming.{long, few, marks_bytes, work_room, work_is, records_lent, all_restorable, puttable, telling, numbers_are, tallies_are, marks_are, all_held}
use Rattle.checkpoint.proofs.restore.restore.Goals as goal

pub counts_from-requires : goal.counts_from-requires
counts_from-requires c = (omega (arith, long c.requires), refl)

pub tallies_from-requires : goal.tallies_from-requires
tallies_from-requires c =
    let x = c.requires in
    omega (arith, long x, x.tallies_long, few x, c.tallies-tallies_place.ensures)

pub marks_from-requires : goal.marks_from-requires
marks_from-requires c =
    let x = c.requires in
    (omega (arith, long x, x.marks_long, c.marks.ensures), marks_bytes x c.marks.ensures)

pub overflow_sub-at : goal.overflow_sub-at
overflow_sub-at c = let x = c.requires in omega (arith, long x, work_room x)

pub take_workers-requires : goal.take_workers-requires
take_workers-requires c =
    let x = c.requires in
    all_restorable x (records_lent x c.tallies-tallies_place.ensures) (rest_lent c.args.saved.now (length c.args.saved.now - length c.args.work.now) ∙ work_is x)

pub put_runs-requires : goal.put_runs-requires
put_runs-requires c =
    let x = c.requires in
    puttable x (records_lent x c.tallies-tallies_place.ensures) (rest_lent c.args.saved.now (length c.args.saved.now - length c.args.work.now) ∙ work_is x) c.take_workers.ensures.long

pub progress-requires : goal.progress-requires
progress-requires c =
    let x = c.requires in
    telling x (records_lent x c.tallies-tallies_place.ensures) (rest_lent c.args.saved.now (length c.args.saved.now - length c.args.work.now) ∙ work_is x) (c.counts_from.ensures ∙ numbers_are x)
    (c.tallies_from.ensures ∙ tallies_are x c.tallies-tallies_place.ensures)

pub returns : goal.returns
returns c =
    λ x.
    all_held x (records_lent x c.tallies-tallies_place.ensures) (rest_lent c.args.saved.now (length c.args.saved.now - length c.args.work.now) ∙ work_is x)
    (c.counts_from.ensures ∙ numbers_are x)
    (c.tallies_from.ensures ∙ tallies_are x c.tallies-tallies_place.ensures) (c.marks_from.ensures ∙ marks_are x c.marks.ensures)
    c.put_runs.ensures c.take_workers.ensures c.running.ensures c.ring_from.ensures c.progress.ensures
