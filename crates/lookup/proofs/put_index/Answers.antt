use Rattle.lookup.proofs.Gathering.{filled}
use Rattle.lookup.proofs.put_index.Goals as goal

pub returns-then-width-ge-TAIL : goal.returns-then-width-ge-TAIL
returns-then-width-ge-TAIL c = filled c.put_names.ensures c.fill_hints.ensures
