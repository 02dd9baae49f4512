use Rattle.std.proofs.Common.{◌≡◌, length}
use Rattle.lookup.proofs.fill_hints.Given as goal

abbrev pub invariant-loop-hint : goal.invariant-loop-hint
invariant-loop-hint l = length l.hint-items ≡ length l.initial.hint-items
