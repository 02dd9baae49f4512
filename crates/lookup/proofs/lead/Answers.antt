use Rattle.std.proofs.Common.{rules}
use Rattle.lookup.specs.Index.{lead_of}
use Rattle.lookup.proofs.lead.Goals as goal

pub returns-in-Some : goal.returns-in-Some
unfolding lead_of
returns-in-Some c = search rules

pub returns-in-None : goal.returns-in-None
unfolding lead_of
returns-in-None c = search rules
