-- What is left of the sizes decides, as long as none that passed is too large.
use Rattle.std.proofs.Common.{◌≡◌, true, drop}
use Rattle.sweep.specs.Sweep.{all_fit}
use Rattle.sweep.proofs.sizes_below.Given as goal

abbrev pub invariant-loop-size : goal.invariant-loop-size
invariant-loop-size l = l.below ≡ true → all_fit (drop l.size-index l.sizes) ≡ all_fit l.sizes
