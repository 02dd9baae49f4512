-- The bit is the worker's.
use Rattle.step.proofs.Ringing.{read}
use Rattle.step.proofs.ring.shade.Goals as goal

pub returns : goal.returns
returns c = λ x. read x
