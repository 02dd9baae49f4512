-- The reader's answer decides; what it read passes every later check of it.
use Rattle.std.proofs.Common.{sym, ap, ◌∙◌}
use Rattle.refusal.proofs.Numbers.{when_faulty}
use Rattle.lines.specs.Lines.{refusal_line}
use Rattle.text.proofs.Pages.{tight, as_page}
use Rattle.report.proofs.Reading.{due_catalogue, due_read, orderly}
use Rattle.report.proofs.store.put_read.Goals as goal

pub returns-in_default : goal.returns-in_default
returns-in_default c =
    let number = when_faulty (sym c.number_of.ensures) c.in_default.is in
    let e = due_catalogue c.requires c.in_default.field-0 c.in_default.ensures.reads in
    tight (as_page c.put_refusal.ensures (sym (e ∙ ap refusal_line number)))

pub put_ordered-requires : goal.put_ordered-requires
put_ordered-requires c = orderly c.requires c.in-Ok.ensures.reads

pub returns : goal.returns
returns c = rw (due_read c.requires c.in-Ok.ensures.reads) at c.put_ordered.ensures
