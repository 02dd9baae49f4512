-- What is left of the sizes decides the answer for all of them.
use Rattle.std.proofs.Common.{◌≡◌, drop}
use Rattle.sweep.specs.Sweep.{all_fit}
use Rattle.sweep.proofs.sizes_fit.Given as goal

abbrev pub invariant-loop-size : goal.invariant-loop-size
invariant-loop-size l = all_fit (drop l.size-index l.sizes) ≡ all_fit l.sizes
