use Rattle.std.proofs.Common.{◌∙◌, sym, arith}
use Rattle.refusal.proofs.Numbers.{passed_on}
use Rattle.catalogue.proofs.Checking.{whole_fault, whole_rest}
use Rattle.catalogue.proofs.Faults.{good_header_record}
use Rattle.catalogue.proofs.check.catalogue_fault.Goals as goal

pub returns-in_err-record_fault : goal.returns-in_err-record_fault
returns-in_err-record_fault c =
    let r = c.in_err-record_fault.field-0.0 in
    rw (passed_on c.from_residual.result r c.from_residual.ensures.1) (whole_fault r _ (rw c.from.ensures at c.in_err-record_fault.ensures))

pub header_of-head-requires : goal.header_of-head-requires
header_of-head-requires c = (good_header_record 0 _ (sym (rw c.from.ensures at c.in_ok-record_fault.ensures))).frame.long

pub records_fault-requires : goal.records_fault-requires
records_fault-requires c =
    let g = good_header_record 0 c.args.bytes.now (sym (rw c.from.ensures at c.in_ok-record_fault.ensures)) in
    let h = c.header_of-head.ensures in
    (g.frame.long, (omega (arith, g.few, h.n_is), omega (arith, g.few_references, h.m_is)))

pub returns : goal.returns
returns c =
    let h = c.header_of-head.ensures in
    c.records_fault.ensures ∙ whole_rest _ (sym (rw c.from.ensures at c.in_ok-record_fault.ensures)) h.n_is h.m_is
