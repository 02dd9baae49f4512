-- `market::export_length`: a graph without fault can be written.
use Rattle.std.proofs.Common.{sym}
use Rattle.matrix.proofs.Exports.{exportable}
use Rattle.market.proofs.export_length.Goals as goal

pub text_length-requires : goal.text_length-requires
text_length-requires c = exportable _ _ (sym c.in_ok-check_graph.ensures)
