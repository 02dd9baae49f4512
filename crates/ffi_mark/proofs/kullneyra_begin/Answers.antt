use Rattle.std.proofs.Common.{refl, length}
use borrow.Author.Tests.{eq-eqb}
use Rattle.kullneyra.specs.Calls.{stop_word_count}
use Rattle.kullneyra.proofs.Promise.{begin_promise}
use Rattle.kullneyra.proofs.Saving.{begins_in}
use Rattle.ffi_mark.proofs.kullneyra_begin.Goals as goal

pub returns : goal.returns
returns c =
    let given = c.give_stopped.ensures in
    record {
      words =
          begins_in (eq-eqb (length c.args.res.now) stop_word_count c.if-res-ne-STOP_WORDS.false) given.value given.res_after c.begin-answer.ensures
          refl;
      promise = begin_promise _ _ given.value given.res_after c.begin-answer.ensures refl;
    }
