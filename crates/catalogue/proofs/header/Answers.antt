use Rattle.std.proofs.Common.{◌∙◌, sym}
use Rattle.refusal.proofs.Numbers.{passed_on}
use Rattle.catalogue.specs.Answer.{header_row}
use Rattle.records.specs.Layout.{header as header_kind}
use Rattle.records.specs.Reading.{n_field, record_fault}
use Rattle.catalogue.proofs.Checking.{header_any, header_refused}
use Rattle.catalogue.proofs.Faults.{good_header_record}
use Rattle.catalogue.proofs.header.Goals as goal

pub returns-in_err-record_fault : goal.returns-in_err-record_fault
unfolding header_row
returns-in_err-record_fault c =
    let b = c.args.bytes.now in
    let r = c.in_err-record_fault.field-0.0 in
    rw (passed_on c.from_residual.result r c.from_residual.ensures.1)
    (header_refused r (record_fault header_kind (n_field b) b) b ((rw c.from.ensures at c.in_err-record_fault.ensures) ∙ header_any 0 (n_field b) b))

pub header_of-requires : goal.header_of-requires
header_of-requires c = (good_header_record 0 _ (sym (rw c.from.ensures at c.in_ok-record_fault.ensures))).frame.long

pub returns : goal.returns
unfolding header_row
returns c =
    let b = c.args.bytes.now in
    let h = c.header_of.ensures in
    rw (header_any (n_field b) 0 b ∙ sym (rw c.from.ensures at c.in_ok-record_fault.ensures), h.n_is, h.m_is, h.index_is)
