-- `parse::field_at`: the bytes passed are digits.
use Rattle.matrix.proofs.Fields.{Scanning}
use Rattle.parse.proofs.field_at.Given as goal

abbrev pub invariant-loop-k : goal.invariant-loop-k
invariant-loop-k l = Scanning l.b-items l.k l.value
