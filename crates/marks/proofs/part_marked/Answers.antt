use Rattle.std.proofs.Common.{◌-◌, sym, ◌∙◌, arith}
use borrow.Author.Tests.{eqb-false}
use Rattle.laws.proofs.Decides.{decides_no}
use Rattle.slices.proofs.BitWords.{bit_clear}
use Rattle.marks.proofs.part_marked.Goals as goal

pub returns-then-not-contains : goal.returns-then-not-contains
returns-then-not-contains c =
    let e = c.loop-e.e in
    let clear = bit_clear _ (e - c.args.base) (eqb-false _ 1 (sym c.contains.ensures ∙ c.if-not-contains.true)) in
    decides_no (λ h. omega (arith, h e c.loop-e.auto.e c.loop-e-test.true clear, c.if-marks-target-eq0.true))
