use Rattle.std.proofs.Common.{◌∙◌, sym, arith}
use borrow.Author.Tests.{eqb-true, leb-true}
use Rattle.laws.proofs.Test.{and_true, and_parts}
use Rattle.catalogue.proofs.Checking.{looking_none, looking_next, object_right}
use Rattle.catalogue.proofs.check.objects_right.Goals as goal

pub loop-i-init : goal.loop-i-init
loop-i-init c = looking_none _ _ _ _ (omega arith)

pub loop-i-preserved : goal.loop-i-preserved
loop-i-preserved c =
    looking_next c.loop-i.invariant c.loop-i-test.true
    (λ e.
    let p = and_parts _ _ e in
    let head = and_parts _ _ p.0 in
    let size = and_parts _ _ p.1 in (
      and_true _ _ head.0 size.0,
      object_right c.args.n c.loop-i.i c.args.bytes.now (λ k. let known = c.type_inv.bytes k in omega arith) (omega arith) c.loop-i-test.true
          (sym c.word4.ensures.0 ∙ eqb-true _ _ head.1) (let h = leb-true c.word8.result 1099511627776 size.1 in rw c.word8.ensures.0 at h),
    ))
