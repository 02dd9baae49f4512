use Rattle.scan.proofs.Counting.{mentions_few}
use Rattle.scan.proofs.passes.Finder.mentions.Goals as goal

pub returns-clause-few : goal.returns-clause-few
returns-clause-few c = rw c.self.view_is at (mentions_few c.self.invariant c.args.text.now)
