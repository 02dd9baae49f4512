use Rattle.std.proofs.Common.{◌∙◌, ap, sym, ℕ, drop}
use Rattle.refusal.proofs.Numbers.{passed_on}
use Rattle.records.specs.Reading.{record_fault}
use Rattle.catalogue.proofs.Checking.{checking_none, checking_fault, checking_next, checking_end}
use Rattle.catalogue.proofs.check.first_fault.Goals as goal

pub loop-i-init : goal.loop-i-init
loop-i-init c = checking_none _ _ _ c.requires.0

pub returns-in_err-fault_at : goal.returns-in_err-fault_at
returns-in_err-fault_at c =
    let r = c.in_err-fault_at.field-0.0 in
    rw (passed_on c.from_residual.result r c.from_residual.ensures.1)
    (checking_fault c.loop-i.invariant c.loop-i-test.true r
    (c.in_err-fault_at.ensures ∙ ap (λ (due : ℕ). record_fault due c.args.n (drop c.loop-i.at c.args.bytes.now)) (c.from.ensures ∙ c.due_at.ensures)))

pub loop-i-preserved : goal.loop-i-preserved
loop-i-preserved c =
    checking_next c.loop-i.invariant c.loop-i-test.true
    (sym (c.in_ok-fault_at.ensures ∙ ap (λ (due : ℕ). record_fault due c.args.n (drop c.loop-i.at c.args.bytes.now)) (c.from.ensures ∙ c.due_at.ensures)))

pub returns : goal.returns
returns c = c.leases_fault.ensures ∙ checking_end c.loop-i.invariant c.loop-i-test.false
