use Rattle.std.proofs.Common.{◌∙◌}
use Rattle.kullneyra.proofs.Updates.{removes_in}
use Rattle.ffi_update.proofs.kullneyra_remove.Goals as goal

pub returns : goal.returns
returns c = removes_in c.remove.ensures (c.from.ensures ∙ c.number_of.ensures)
