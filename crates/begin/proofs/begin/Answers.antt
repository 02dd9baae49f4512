-- What the checks find decides: a refusal, or the start with registers that are all zero, the turns, the stretches written out, and the
-- state saved, each on what the one before it left.
use Rattle.std.proofs.Common.{arith}
use Rattle.std.proofs.lemmas.Result.{err_from_is_err_and}
use Rattle.marker.proofs.Stages.{registers_room, registers_long, runnable, passed, start_ready, work_long, turns_ready, settle_ready, leaves, run_leaves}
use Rattle.begin.proofs.Calling.{begin_savable, begun_refused, begun_fine}
use Rattle.begin.proofs.begin.Goals as goal

pub returns-in_err-setup : goal.returns-in_err-setup
returns-in_err-setup c =
    let p = err_from_is_err_and c.from_residual.result c.from_residual.ensures.1 in
    rw (p.1, p.2) (begun_refused (rw c.lent-lengths.ensures at c.in_err-setup.ensures.finds))

pub slice_bounds-registers-end : goal.slice_bounds-registers-end
slice_bounds-registers-end c = let e = c.in_ok-setup.ensures in registers_room e.setup_is (passed e.finds)

pub slice_bounds-regs-end : goal.slice_bounds-regs-end
slice_bounds-regs-end c = let e = c.in_ok-setup.ensures in registers_long e.setup_is (passed e.finds)

pub afresh-begun-requires : goal.afresh-begun-requires
afresh-begun-requires c =
    let e = c.in_ok-setup.ensures in
    let f = rw c.lent-lengths.ensures at e.finds in
    let x = runnable e.setup_is c.args.marks.now c.args.work.now c.args.tallies.now (passed f) in
    (start_ready x e.setup_is, work_long x e.setup_is)

pub take_turns-p-requires : goal.take_turns-p-requires
take_turns-p-requires c =
    let e = c.in_ok-setup.ensures in
    let f = rw c.lent-lengths.ensures at e.finds in
    let x = runnable e.setup_is c.args.marks.now c.args.work.now c.args.tallies.now (passed f) in
    turns_ready x e.setup_is c.afresh-begun.ensures.started c.afresh-begun.ensures.tallies_after (omega arith)

pub settle-requires : goal.settle-requires
settle-requires c =
    let e = c.in_ok-setup.ensures in
    let f = rw c.lent-lengths.ensures at e.finds in
    let x = runnable e.setup_is c.args.marks.now c.args.work.now c.args.tallies.now (passed f) in
    let r = turns_ready x e.setup_is c.afresh-begun.ensures.started c.afresh-begun.ensures.tallies_after (omega arith) in
    settle_ready r (c.take_turns-p.ensures r)

pub save-requires : goal.save-requires
unfolding turns_ready
save-requires c =
    let e = c.in_ok-setup.ensures in
    let f = rw c.lent-lengths.ensures at e.finds in
    let x = runnable e.setup_is c.args.marks.now c.args.work.now c.args.tallies.now (passed f) in
    let r = turns_ready x e.setup_is c.afresh-begun.ensures.started c.afresh-begun.ensures.tallies_after (omega arith) in
    rw e.setup_is (begin_savable (passed f) (run_leaves x e.setup_is (leaves r (c.take_turns-p.ensures r) c.settle.ensures)))

pub answer-requires : goal.answer-requires
unfolding turns_ready
answer-requires c =
    let e = c.in_ok-setup.ensures in
    let f = rw c.lent-lengths.ensures at e.finds in
    let x = runnable e.setup_is c.args.marks.now c.args.work.now c.args.tallies.now (passed f) in
    let r = turns_ready x e.setup_is c.afresh-begun.ensures.started c.afresh-begun.ensures.tallies_after (omega arith) in
    (leaves r (c.take_turns-p.ensures r) c.settle.ensures).countable

pub returns : goal.returns
unfolding turns_ready
returns c =
    let e = c.in_ok-setup.ensures in
    let f = rw c.lent-lengths.ensures at e.finds in
    let x = runnable e.setup_is c.args.marks.now c.args.work.now c.args.tallies.now (passed f) in
    let r = turns_ready x e.setup_is c.afresh-begun.ensures.started c.afresh-begun.ensures.tallies_after (omega arith) in
    begun_fine f (run_leaves x e.setup_is (leaves r (c.take_turns-p.ensures r) c.settle.ensures)) e.setup_is c.save.ensures c.answer.ensures
