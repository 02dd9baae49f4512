use Rattle.std.proofs.Common.{◌≡◌, take}
use Rattle.laws.specs.Test.{all}
use Rattle.names.specs.Names.{is_digit}
use Rattle.lookup.proofs.all_digits.Given as goal

abbrev pub invariant-loop-b : goal.invariant-loop-b
invariant-loop-b l = l.right ≡ all is_digit (take l.b-index l.bytes)
