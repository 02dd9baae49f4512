-- `parse::head_of`: one law of `Heads` for each way out.
use Rattle.std.proofs.Common.{arith}
use Rattle.matrix.specs.Layout.{banner}
use Rattle.matrix.proofs.Heads.{begun, head_banner, head_rows, head_columns, head_entries, head_square, head_of}
use Rattle.parse.proofs.head_of.Goals as goal

pub returns-then-not-starts_with : goal.returns-then-not-starts_with
returns-then-not-starts_with c = head_banner _ (begun banner _ c.starts_with.ensures.value c.if-not-starts_with.true)

pub returns-in_err-rows : goal.returns-in_err-rows
returns-in_err-rows c = rw c.from_residual.ensures (head_rows _ _ (begun banner _ c.starts_with.ensures.value c.if-not-starts_with.false) c.skip_lines-counts.ensures.text_value c.in_err-rows.ensures)

pub returns-in_err-columns : goal.returns-in_err-columns
returns-in_err-columns c =
    rw c.from_residual-in_err-columns.ensures (head_columns _ _ (begun banner _ c.starts_with.ensures.value c.if-not-starts_with.false) c.skip_lines-counts.ensures.text_value c.in_ok-rows.ensures c.in_err-columns.ensures)

pub returns-in_err-entries : goal.returns-in_err-entries
returns-in_err-entries c =
    rw c.from_residual-in_err-entries.ensures
    (head_entries _ _ (begun banner _ c.starts_with.ensures.value c.if-not-starts_with.false) c.skip_lines-counts.ensures.text_value c.in_ok-rows.ensures c.in_ok-columns.ensures c.in_err-entries.ensures)

pub returns-then-rows-columns : goal.returns-then-rows-columns
returns-then-rows-columns c =
    head_square _ _ (begun banner _ c.starts_with.ensures.value c.if-not-starts_with.false) c.skip_lines-counts.ensures.text_value c.in_ok-rows.ensures c.in_ok-columns.ensures c.in_ok-entries.ensures (omega (arith, c.if-rows-columns.true))

pub returns : goal.returns
returns c =
    head_of _ _ (begun banner _ c.starts_with.ensures.value c.if-not-starts_with.false) c.skip_lines-counts.ensures.text_value c.in_ok-rows.ensures c.in_ok-columns.ensures c.in_ok-entries.ensures (omega (arith, c.if-rows-columns.false))
