use Rattle.std.proofs.Common.{length}
use borrow.Author.Tests.{eq-eqb}
use Rattle.kullneyra.specs.Calls.{stop_word_count}
use Rattle.kullneyra.proofs.Promise.{resume_exactly, resume_promise}
use Rattle.kullneyra.proofs.Saving.{resumes_in}
use Rattle.ffi_mark.proofs.kullneyra_resume.Goals as goal

pub returns-in-Ok : goal.returns-in-Ok
returns-in-Ok c =
    let given = c.give_stopped.ensures in
    let goes_on = rw c.in-Ok.is at c.resume.ensures in
    record {
      words = resumes_in (eq-eqb (length c.args.res.now) stop_word_count c.if-res-ne-STOP_WORDS.false) given.value given.res_after goes_on;
      exactly = λ l b. resume_exactly _ _ given.value given.res_after goes_on b;
      promise = resume_promise _ _ given.value given.res_after goes_on;
    }
