-- `market::export`: a refusal, a buffer of another length, or the text.
use Rattle.std.proofs.Common.{sym, ◌∙◌}
use Rattle.refusal.proofs.Numbers.{passed_on}
use Rattle.matrix.proofs.Exports.{exportable, export_refused, export_unfit, export_written}
use Rattle.matrix.proofs.RoundTrip.{promised}
use Rattle.market.proofs.export.Goals as goal

pub returns-in_err-check_graph-clause-result_value : goal.returns-in_err-check_graph-clause-result_value
returns-in_err-check_graph-clause-result_value c =
    let r = c.in_err-check_graph.field-0.0 in
    rw (passed_on c.from_residual.result r c.from_residual.ensures.1) (export_refused _ _ c.args.out.now r c.in_err-check_graph.ensures).0

pub returns-in_err-check_graph-clause-out_after : goal.returns-in_err-check_graph-clause-out_after
returns-in_err-check_graph-clause-out_after c =
    (export_refused c.args.offsets.now c.args.targets.now c.args.out.now c.in_err-check_graph.field-0.0 c.in_err-check_graph.ensures).1

pub text_length-requires : goal.text_length-requires
text_length-requires c = exportable _ _ (sym c.in_ok-check_graph.ensures)

pub returns-then-out-text_length-clause-result_value : goal.returns-then-out-text_length-clause-result_value
returns-then-out-text_length-clause-result_value c =
    (export_unfit _ _ c.args.out.now (sym c.in_ok-check_graph.ensures) c.text_length.ensures.0 c.if-out-text_length.true).0

pub returns-then-out-text_length-clause-out_after : goal.returns-then-out-text_length-clause-out_after
returns-then-out-text_length-clause-out_after c =
    (export_unfit _ _ c.args.out.now (sym c.in_ok-check_graph.ensures) c.text_length.ensures.0 c.if-out-text_length.true).1

pub put_text-requires : goal.put_text-requires
put_text-requires c = (exportable _ _ (sym c.in_ok-check_graph.ensures), c.if-out-text_length.false ∙ c.text_length.ensures.0)

pub returns-clause-result_value : goal.returns-clause-result_value
returns-clause-result_value c =
    (export_written _ _ c.args.out.now (sym c.in_ok-check_graph.ensures) (c.if-out-text_length.false ∙ c.text_length.ensures.0) c.put_text.ensures).0

pub returns-clause-out_after : goal.returns-clause-out_after
returns-clause-out_after c =
    (export_written _ _ c.args.out.now (sym c.in_ok-check_graph.ensures) (c.if-out-text_length.false ∙ c.text_length.ensures.0) c.put_text.ensures).1

pub returns-clause-returns : goal.returns-clause-returns
returns-clause-returns c = promised _ _ _ (returns-clause-result_value c)
