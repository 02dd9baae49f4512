use Rattle.std.proofs.Common.{refl}
use Rattle.graph.proofs.View.{view_found}
use Rattle.graph.proofs.references.Goals as goal

pub returns : goal.returns
returns c = view_found (c.part_of-part.ensures c.args.targets.now refl)
