use Rattle.std.proofs.Common.{◌∙◌}
use Rattle.kullneyra.proofs.Updates.{adds_in}
use Rattle.ffi_update.proofs.kullneyra_add.Goals as goal

pub returns : goal.returns
returns c = adds_in c.add.ensures (c.from.ensures ∙ c.number_of.ensures)
