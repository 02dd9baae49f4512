-- Each worker passed is not above the holder, or carries nothing.
use Rattle.std.proofs.Common.{ℕ, ◌<◌}
use Rattle.worker.specs.Registers.{status_given}
use Rattle.saved.specs.Layout.{worker_word}
use Rattle.protocol.proofs.ring.clear_above.Given as goal

abbrev pub invariant-loop-b : goal.invariant-loop-b
invariant-loop-b l = (i : ℕ) → i < l.b → l.holder < i → worker_word l.saved i 0 < status_given
