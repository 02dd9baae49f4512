-- What the checks in front of the store found is what the store needs.
use Rattle.refusal.proofs.Numbers.{when_fine}
use Rattle.program.specs.Program.{files}
use Rattle.report.proofs.Opening.{Headed, holding}
use Rattle.report.proofs.put_answer.Goals as goal

pub put_store-requires : goal.put_store-requires
put_store-requires c =
    let a = c.args in
    let h : Headed (files a.storefile a.store.now a.orderfile a.order.now) c.in-Ok-head.field-0 =
    record { none = when_fine c.check-found.ensures c.in-Ok.is; read = c.in-Ok-head.ensures } in
    holding h (when_fine c.check_counts-counted.ensures c.in-Ok-counted.is) c.requires
