-- What is written for these files keeps the promise.
use Rattle.std.proofs.Common.{arith}
use Rattle.program.specs.Program.{files}
use Rattle.report.proofs.Opening.{promised}
use Rattle.report.proofs.answer.Goals as goal

pub returns-clause-promise : goal.returns-clause-promise
returns-clause-promise c =
    let a = c.args in
    promised (files a.storefile a.store.now a.orderfile a.order.now) (λ i. omega (arith, c.type_inv.store i)) c.put_text.ensures
