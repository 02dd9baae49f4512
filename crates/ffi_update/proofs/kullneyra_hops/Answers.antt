use Rattle.std.proofs.Common.{◌∙◌}
use Rattle.kullneyra.proofs.Hops.{hops_in}
use Rattle.ffi_update.proofs.kullneyra_hops.Goals as goal

pub returns : goal.returns
returns c = hops_in c.hops.ensures (c.from.ensures ∙ c.number_of.ensures)
