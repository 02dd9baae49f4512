-- The uppermost pair is read, and the words below it are moved to the beginning.
use Rattle.worker.proofs.Ends.{lowered}
use Rattle.worker.proofs.stretch.lower.Goals as goal

pub returns : goal.returns
returns c = record { told = λ rs x h. rw c.copy_within.ensures.after (lowered c.args.s.now c.args.at rs x h) }
