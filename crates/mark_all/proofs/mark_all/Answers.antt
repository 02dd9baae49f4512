-- The checks, the start, all turns, the stretches written out and the answer, each on what the one before left.
use Rattle.std.proofs.Common.{[]}
use Rattle.std.proofs.lemmas.Result.{err_from_is_err_and}
use Rattle.marker.specs.Answer.{call_of}
use Rattle.marker.proofs.Stages.{registers_room, registers_long, runnable, passed, start_ready, work_long}
use Rattle.mark_all.proofs.Calling.{finds_whole, begun_ready, whole_settle, whole_runs, all_refused, all_fine}
use Rattle.mark_all.proofs.mark_all.Goals as goal

pub returns-in_err-setup : goal.returns-in_err-setup
returns-in_err-setup c =
    let a = c.args in
    let p = err_from_is_err_and c.from_residual.result c.from_residual.ensures.1 in
    rw (p.1, p.2)
    (all_refused (call_of a.offsets.now a.targets.now a.starts.now a.settings []) c.in_err-setup.ensures.finds)

pub slice_bounds-registers-end : goal.slice_bounds-registers-end
slice_bounds-registers-end c = let e = c.in_ok-setup.ensures in registers_room e.setup_is (passed e.finds)

pub slice_bounds-regs-end : goal.slice_bounds-regs-end
slice_bounds-regs-end c = let e = c.in_ok-setup.ensures in registers_long e.setup_is (passed e.finds)

pub afresh-progress-requires : goal.afresh-progress-requires
afresh-progress-requires c =
    let a = c.args in
    let e = c.in_ok-setup.ensures in
    let f = finds_whole (call_of a.offsets.now a.targets.now a.starts.now a.settings []) e.finds in
    let x = runnable e.setup_is a.marks.now a.work.now a.tallies.now (passed f) in
    (start_ready x e.setup_is, work_long x e.setup_is)

pub take_all-p-requires : goal.take_all-p-requires
take_all-p-requires c =
    let a = c.args in
    let e = c.in_ok-setup.ensures in
    let call = call_of a.offsets.now a.targets.now a.starts.now a.settings [] in
    let x = runnable e.setup_is a.marks.now a.work.now a.tallies.now (passed (finds_whole call e.finds)) in
    begun_ready call x e.setup_is c.afresh-progress.ensures.started c.afresh-progress.ensures.tallies_after

pub settle-requires : goal.settle-requires
settle-requires c =
    let a = c.args in
    let e = c.in_ok-setup.ensures in
    let call = call_of a.offsets.now a.targets.now a.starts.now a.settings [] in
    let x = runnable e.setup_is a.marks.now a.work.now a.tallies.now (passed (finds_whole call e.finds)) in
    whole_settle call x e.setup_is c.afresh-progress.ensures.started c.afresh-progress.ensures.tallies_after c.take_all-p.ensures

pub answer-requires : goal.answer-requires
answer-requires c =
    let a = c.args in
    let e = c.in_ok-setup.ensures in
    let call = call_of a.offsets.now a.targets.now a.starts.now a.settings [] in
    let x = runnable e.setup_is a.marks.now a.work.now a.tallies.now (passed (finds_whole call e.finds)) in
    let r = whole_runs call x e.setup_is c.afresh-progress.ensures.started c.afresh-progress.ensures.tallies_after c.take_all-p.ensures c.settle.ensures in
    rw e.setup_is r.countable

pub returns : goal.returns
returns c =
    let a = c.args in
    let e = c.in_ok-setup.ensures in
    let call = call_of a.offsets.now a.targets.now a.starts.now a.settings [] in
    let x = runnable e.setup_is a.marks.now a.work.now a.tallies.now (passed (finds_whole call e.finds)) in
    let r = whole_runs call x e.setup_is c.afresh-progress.ensures.started c.afresh-progress.ensures.tallies_after c.take_all-p.ensures c.settle.ensures in
    all_fine call e.finds r e.setup_is c.answer.ensures
