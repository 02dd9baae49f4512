-- As long as no mark passed was 0, all of them are marked.
use Rattle.std.proofs.Common.{◌≡◌, true}
use Rattle.sweep.specs.Sweep.{LiveFor}
use Rattle.sweep.proofs.block_live.Given as goal

abbrev pub invariant-loop-mark : goal.invariant-loop-mark
invariant-loop-mark l = l.live ≡ true → LiveFor l.block 0 l.mark-index
