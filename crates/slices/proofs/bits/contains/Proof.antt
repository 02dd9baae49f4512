-- `slices::bits::contains` meets its contract: the bit is read as it is defined.
use borrow.Author.Rules.{rules}
use mathlib.Core.Path.{refl}
use Rattle.slices.specs.Bits.{bit}
use Rattle.slices.proofs.bits.contains.Statement.{statement}
use Rattle.slices.proofs.bits.contains.Tie as tie

returns : tie.Need-returns
unfolding bit
returns c = refl

pub contains_spec : {M : Type 1} → statement M
contains_spec = tie.close (tie.spec (λ c. search rules) (λ c. search rules) (λ c. search rules) (λ c. search rules) returns)
