-- Each worker passed is in as many cells as it has to be.
use Rattle.std.proofs.Common.{◌≡◌, ℕ, ◌<◌}
use Rattle.laws.specs.Sum.{hit}
use Rattle.worker.specs.Registers.{status_asking}
use Rattle.saved.specs.Layout.{worker_word}
use Rattle.protocol.specs.Heads.{holders}
use Rattle.protocol.proofs.heads.cells_sound.Given as goal

abbrev pub invariant-loop-a : goal.invariant-loop-a
invariant-loop-a l = (b : ℕ) → b < l.a → holders l.saved b l.workers ≡ hit status_asking (worker_word l.saved b 0)
