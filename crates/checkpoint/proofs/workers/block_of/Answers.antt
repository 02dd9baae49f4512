use Rattle.std.proofs.Common.{arith}
use Rattle.checkpoint.proofs.Restoring.{measurable, loaded, words_are, top_fits, batch_low, first_low, heavy}
use Rattle.checkpoint.proofs.workers.block_of.Goals as goal

pub measure-m-requires : goal.measure-m-requires
measure-m-requires c = measurable c.requires.is

pub overflow_sub-used : goal.overflow_sub-used
overflow_sub-used c =
    let x = c.requires.is in
    omega (arith, words_are x (loaded x c.if-status-lt-GIVEN.false) c.measure-m.ensures)

pub bounds-s-at : goal.bounds-s-at
bounds-s-at c =
    let x = c.requires.is in
    let l = loaded x c.if-status-lt-GIVEN.false in
    omega (arith, words_are x l c.measure-m.ensures, top_fits x l c.measure-m.ensures)

pub overflow_sub-result : goal.overflow_sub-result
overflow_sub-result c =
    let x = c.requires.is in
    batch_low x (loaded x c.if-status-lt-GIVEN.false) c.measure-m.ensures

pub bounds-s-at-2 : goal.bounds-s-at-2
bounds-s-at-2 c =
    let x = c.requires.is in
    let l = loaded x c.if-status-lt-GIVEN.false in
    omega (arith, words_are x l c.measure-m.ensures, top_fits x l c.measure-m.ensures)

pub bounds-targets-first : goal.bounds-targets-first
bounds-targets-first c =
    let x = c.requires.is in
    first_low x (loaded x c.if-status-lt-GIVEN.false) c.measure-m.ensures

pub returns : goal.returns
returns c = λ G u n x. heavy x (loaded x c.if-status-lt-GIVEN.false) c.measure-m.ensures
