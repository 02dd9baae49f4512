use Rattle.std.proofs.Common.{◌∙◌, sym, arith}
use mathlib.Core.Logic.{inl, inr, ⊎_elim}
use borrow.Author.Tests.{ltb-true}
use Rattle.laws.proofs.Test.{and_true, and_parts}
use Rattle.catalogue.proofs.Checking.{looking_none, looking_next, link_right, link_head}
use Rattle.catalogue.proofs.check.references_right.Goals as goal

pub loop-i-init : goal.loop-i-init
loop-i-init c = looking_none _ _ _ _ (omega arith)

pub loop-i-preserved : goal.loop-i-preserved
loop-i-preserved c =
    looking_next c.loop-i.invariant c.loop-i-test.true
    (λ e.
    let p = and_parts _ _ e in
    let q = and_parts _ _ p.0 in
    let head = and_parts _ _ q.0 in
    let from = and_parts _ _ q.1 in
    let to = and_parts _ _ p.1 in
    let w = sym c.word4.ensures.0 in (
      and_true _ _ (and_true _ _ head.0 from.0) to.0,
      link_right c.args.n c.loop-i.i c.args.bytes.now (λ k. let known = c.type_inv.bytes k in omega arith) (omega arith) c.loop-i.invariant.begun
          (⊎_elim (λ h. inl (w ∙ h)) (λ h. inr (w ∙ h)) (link_head _ (sym c.is_link-headed.ensures ∙ head.1)))
          (let h = ltb-true c.word4-in-loop-i.result c.args.n from.1 in rw c.word4-in-loop-i.ensures.0 at h)
          (let h = ltb-true c.word4-in-loop-i-2.result c.args.n to.1 in rw c.word4-in-loop-i-2.ensures.0 at h),
    ))
