-- The part that holds the last reference kept says which cut is made.
use Rattle.std.proofs.Common.{sym, ◌∙◌, arith}
use Rattle.worker.proofs.Parting.{told_front, told_middle}
use Rattle.poll.proofs.Dividing.{top_order, held_same, sharing_lent, cuttable, cutting_found}
use Rattle.poll.proofs.divide.Goals as goal

pub held-held-requires : goal.held-held-requires
held-held-requires c = sharing_lent c.args.len c.args.b c.args.work.now c.requires.1

pub cut_front-requires : goal.cut_front-requires
cut_front-requires c =
    let is = sym (c.held-held.ensures (sharing_lent c.args.len c.args.b c.args.work.now c.requires.1)) ∙ c.in-Front.is in
    (c.requires.0, told_front c.requires.1 is)

pub cut_back-requires : goal.cut_back-requires
cut_back-requires c =
    let is = sym (c.held-held.ensures (sharing_lent c.args.len c.args.b c.args.work.now c.requires.1)) ∙ c.in-Back.is in
    (c.args.asker, (c.args.k, record { dividing = c.requires.0; sharing = c.requires.1; held_is = is }))

pub overflow_sub-beyond : goal.overflow_sub-beyond
overflow_sub-beyond c = top_order c.requires.0

pub overflow_sub-beyond-in-Middle : goal.overflow_sub-beyond-in-Middle
overflow_sub-beyond-in-Middle c =
    let is = sym (c.held-held.ensures (sharing_lent c.args.len c.args.b c.args.work.now c.requires.1)) ∙ c.in-Middle.is in
    omega (arith, told_middle c.requires.1 is)

pub find_cut-cut-requires : goal.find_cut-cut-requires
find_cut-cut-requires c =
    let is = sym (c.held-held.ensures (sharing_lent c.args.len c.args.b c.args.work.now c.requires.1)) ∙ c.in-Middle.is in
    cuttable c.requires.0 (omega (arith, told_middle c.requires.1 is))

pub cut_middle-requires : goal.cut_middle-requires
cut_middle-requires c =
    let is = sym (c.held-held.ensures (sharing_lent c.args.len c.args.b c.args.work.now c.requires.1)) ∙ c.in-Middle.is in
    (c.args.k, cutting_found c.requires.0 (omega (arith, told_middle c.requires.1 is)) c.find_cut-cut.ensures)

pub returns-in-Front : goal.returns-in-Front
returns-in-Front c =
    let is = sym (c.held-held.ensures (sharing_lent c.args.len c.args.b c.args.work.now c.requires.1)) ∙ c.in-Front.is in
    let e = c.cut_front.ensures in
    record { held_in = λ x. held_same x c.requires.1 is e.held_value; divided = e.divided }

pub returns-in-Back : goal.returns-in-Back
returns-in-Back c =
    let is = sym (c.held-held.ensures (sharing_lent c.args.len c.args.b c.args.work.now c.requires.1)) ∙ c.in-Back.is in
    let e = c.cut_back.ensures in
    record {
      held_in = λ x. held_same x c.requires.1 is e.held_value;
      divided =
          e.by_index c.args.asker c.args.k (record { dividing = c.requires.0; sharing = c.requires.1; held_is = is });
    }

pub returns-in-Middle : goal.returns-in-Middle
returns-in-Middle c =
    let is = sym (c.held-held.ensures (sharing_lent c.args.len c.args.b c.args.work.now c.requires.1)) ∙ c.in-Middle.is in
    let e = c.cut_middle.ensures in
    record {
      held_in = λ x. held_same x c.requires.1 is e.held_value;
      divided = e.by_index c.args.k (cutting_found c.requires.0 (omega (arith, told_middle c.requires.1 is)) c.find_cut-cut.ensures);
    }
