use Rattle.std.proofs.Common.{◌≡◌, ◌∙◌, ◌+◌, ◌-◌, sym, arith}
use Rattle.refusal.proofs.Numbers.{passed_on}
use Rattle.catalogue.proofs.Leases.{leases_begin, leases_done, leases_over, leases_fault, leases_next}
use Rattle.catalogue.proofs.check.leases_fault.Goals as goal

pub loop-k-init : goal.loop-k-init
loop-k-init c = leases_begin _ _ _ c.requires

pub returns-then-at-bytes : goal.returns-then-at-bytes
returns-then-at-bytes c = leases_done c.loop-k.invariant c.if-at-bytes.true

pub loop-k-preserved : goal.loop-k-preserved
loop-k-preserved c =
    let e : 256 - c.loop-k.k - 1 ≡ 256 - (c.loop-k.k + 1) = omega arith in
    rw e at (leases_next c.loop-k.invariant (omega (arith, c.loop-k-test.true)) c.if-at-bytes.false (sym (rw c.from.ensures at c.in_ok-fault_at.ensures)))

pub returns-in_err-fault_at : goal.returns-in_err-fault_at
returns-in_err-fault_at c =
    let r = c.in_err-fault_at.field-0.0 in
    rw (passed_on c.from_residual.result r c.from_residual.ensures.1)
    (leases_fault c.loop-k.invariant (omega (arith, c.loop-k-test.true)) c.if-at-bytes.false r (rw c.from.ensures at c.in_err-fault_at.ensures))

pub returns : goal.returns
returns c = c.surplus_fault.ensures ∙ leases_over c.loop-k.invariant (omega (arith, c.loop-k-test.false))
