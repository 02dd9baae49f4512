-- `slices::bits::insert` meets its contract: a power of two is added to a word that lacks it.
use borrow.Author.Rules.{rules}
use native.Mathlib.Omega.{arith}
use Prim.Native.Nat.{◌/◌}
use Rattle.slices.proofs.BitWords.{insert_fits, inserts, inserts_not}
use Rattle.slices.proofs.bits.insert.Statement.{statement}
use Rattle.slices.proofs.bits.insert.Tie as tie

returns-then-word-shift-eq1 : tie.Need-returns-then-word-shift-eq1
returns-then-word-shift-eq1 c = inserts_not _ _ c.if-word-shift-eq1.true

overflow_add-words : tie.Need-overflow_add-words
overflow_add-words c =
    let a = c.args in
    record { fits = insert_fits a.words.now a.i c.if-word-shift-eq1.false (c.slice_known-1.given (a.i / 32)).fits }

returns : tie.Need-returns
returns c = let a = c.args in inserts a.words.now a.i c.if-word-shift-eq1.false (omega arith)

pub insert_spec : {M : Type 1} → statement M
insert_spec =
    tie.close
    (tie.spec (λ c. search rules) (λ c. search rules) (λ c. search rules) (λ c. search rules) returns-then-word-shift-eq1
    (λ c. search rules) overflow_add-words (λ c. search rules) (λ c. search rules) (λ c. search rules) returns)
