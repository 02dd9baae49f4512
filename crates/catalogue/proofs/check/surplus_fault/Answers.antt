use Rattle.std.proofs.Common.{◌∙◌, arith}
use Rattle.catalogue.proofs.Leases.{surplus_some}
use Rattle.catalogue.proofs.check.surplus_fault.Goals as goal

pub returns : goal.returns
returns c =
    let a = c.args in
    c.fault_at.ensures ∙ surplus_some a.n a.at a.bytes.now (omega (arith, c.if-at-bytes.false))
