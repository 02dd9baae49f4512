-- The line end behind the rest.
use Rattle.std.proofs.Common.{arith}
use Rattle.text.proofs.Pages.{then}
use Rattle.text.proofs.Page.put_line.Goals as goal

pub returns : goal.returns
returns c = then c.put_named.ensures _ (omega arith) c.put.ensures
