use Rattle.std.proofs.Common.{refl}
use Rattle.frontier.proofs.RunLaws.{indexable}
use Rattle.frontier.proofs.check_each.Goals as goal

pub fill-requires : goal.fill-requires
fill-requires c = (indexable c.requires, refl)
