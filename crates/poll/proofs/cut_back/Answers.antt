-- One word of the giver's stretch is written.
use Rattle.std.proofs.Common.{arith}
use Rattle.poll.proofs.Dividing.{back_read, back_lent, divided_back}
use Rattle.poll.proofs.cut_back.Goals as goal

pub bounds-work-from : goal.bounds-work-from
bounds-work-from c = back_read c.requires.1.1

pub cut_back-first-requires : goal.cut_back-first-requires
cut_back-first-requires c = back_lent c.requires.1.1

pub returns-clause-by_index : goal.returns-clause-by_index
returns-clause-by_index c =
    let e = c.cut_back-first.ensures in
    λ a k x. rw (e.value, e.s_after) (divided_back x (λ i. omega (arith, c.slice_known-1.given i)))
