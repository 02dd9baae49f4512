-- `market::market_header`: one law of `Checks` for each way out.
use Rattle.std.proofs.Common.{sym}
use Rattle.matrix.proofs.Checks.{header_text, header_counts, header_read}
use Rattle.market.proofs.market_header.Goals as goal

pub returns-in_default : goal.returns-in_default
returns-in_default c = header_text _ c.in_default.ensures

pub returns-then-counts_outside : goal.returns-then-counts_outside
returns-then-counts_outside c = header_counts c.in-Some.ensures (sym c.if-counts_outside.ensures)

pub returns : goal.returns
returns c = header_read c.in-Some.ensures (sym c.if-counts_outside.ensures)
