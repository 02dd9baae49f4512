use Rattle.frontier.proofs.LoadLaws.{loaded}
use Rattle.frontier.proofs.check_loads.Goals as goal

pub returns : goal.returns
returns c = loaded c.requires c.in_ok-loads.ensures c.check_references.ensures c.if-not-check_references.false
