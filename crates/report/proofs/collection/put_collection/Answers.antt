-- Marks, work words and tallies are cut to the lengths that the settings ask for, so the marker can find no fault but in the
-- schedule.
use Rattle.std.proofs.Common.{sym, ap, ◌∙◌}
use Rattle.std.specs.Prelude.{Ok, Err}
use Rattle.refusal.proofs.Numbers.{when_faulty}
use Rattle.lines.specs.Lines.{refusal_line}
use Rattle.text.proofs.Pages.{tight, as_page}
use Rattle.report.proofs.Parts.{part_long}
use Rattle.report.proofs.Ordering.{words_few, cut}
use Rattle.report.proofs.Printed.{answer_text_lem}
use Rattle.report.proofs.collection.put_collection.Goals as goal

pub slice_bounds-mark-end : goal.slice_bounds-mark-end
slice_bounds-mark-end c = sym (part_long _ _ (words_few c.requires c.stretch.ensures))

pub returns-in_default : goal.returns-in_default
returns-in_default c =
    let number = when_faulty (sym c.number_of.ensures) c.in_default.is in
    let e = answer_text_lem (cut c.requires c.stretch.ensures) c.args.schedule.now (Err c.in_default.field-0) c.in_default.ensures in
    tight (as_page c.put_refusal.ensures (sym (ap refusal_line number) ∙ e))

pub returns : goal.returns
returns c =
    let e = answer_text_lem (cut c.requires c.stretch.ensures) c.args.schedule.now (Ok _) c.in-Ok.ensures in
    rw e at c.put_marked.ensures
