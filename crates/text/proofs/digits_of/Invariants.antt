-- A loop: the digits of what is left stand in front of those made.
use Rattle.std.proofs.Common.{◌≡◌, ◌++◌, length, drop}
use Rattle.text.specs.Text.{digits_in, decimal}
use Rattle.text.proofs.digits_of.Given as goal

abbrev pub invariant-loop-i : goal.invariant-loop-i
invariant-loop-i l = record { long : length l.bytes ≡ 20; digits : digits_in l.i l.left ++ drop l.i l.bytes ≡ decimal l.v }
