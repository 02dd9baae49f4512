use Rattle.std.proofs.Common.{rules}
use Rattle.lookup.specs.Index.{tail_at}
use Rattle.lookup.proofs.tail.Goals as goal

pub returns : goal.returns
unfolding tail_at
returns c = search rules
