use Rattle.std.proofs.Common.{◌∙◌, sym}
use borrow.Author.Tests.{ltb-true}
use Rattle.laws.proofs.Test.{and_parts}
use Rattle.sweep.proofs.Dead.{upper_fits, fit_step, fit_end}
use Rattle.sweep.proofs.sizes_below.Goals as goal

pub loop-size-preserved : goal.loop-size-preserved
loop-size-preserved c e =
    let p = and_parts _ _ e in
    fit_step _ _ c.loop-size-test.true (upper_fits _ (ltb-true _ 256 p.1)) ∙ c.loop-size.invariant p.0

pub returns : goal.returns
returns c e = sym (c.loop-size.invariant e) ∙ fit_end _ _ c.loop-size-test.false
