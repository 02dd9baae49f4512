use Rattle.std.proofs.Common.{◌∙◌, sym, arith, length}
use Rattle.refusal.proofs.Numbers.{passed_on}
use Rattle.catalogue.proofs.Accepted.{whole_bytes, whole_fillable}
use Rattle.catalogue.proofs.Reader.{fits, read_fault, read_unfit, read_filled}
use Rattle.catalogue.proofs.Accepting.{acceptance}
use Rattle.catalogue.proofs.read.Goals as goal

pub returns-in_err-catalogue_fault : goal.returns-in_err-catalogue_fault
returns-in_err-catalogue_fault c =
    let r = c.in_err-catalogue_fault.field-0.0 in
    let d = read_fault r c.in_err-catalogue_fault.ensures in
    rw (passed_on c.from_residual.result r c.from_residual.ensures.1)
    (record { reads = d; acceptance = acceptance d (λ i. let k = c.type_inv.bytes i in omega arith) })

pub header_of-n-requires : goal.header_of-n-requires
header_of-n-requires c = (whole_bytes c.args.bytes.now (sym c.in_ok-catalogue_fault.ensures)).head.frame.long

pub lent_wrong-requires : goal.lent_wrong-requires
lent_wrong-requires c = let w = whole_bytes c.args.bytes.now (sym c.in_ok-catalogue_fault.ensures) in omega (arith, w.head.few, c.header_of-n.ensures.n_is)

pub returns-then-lent_wrong : goal.returns-then-lent_wrong
returns-then-lent_wrong c =
    let w = whole_bytes c.args.bytes.now (sym c.in_ok-catalogue_fault.ensures) in
    let d = read_unfit w.clear c.header_of-n.ensures (sym c.lent_wrong.ensures ∙ c.if-lent_wrong.true) in
    record { reads = d; acceptance = acceptance d (λ i. let k = c.type_inv.bytes i in omega arith) }

pub fill_sizes-requires : goal.fill_sizes-requires
fill_sizes-requires c =
    let w = whole_bytes c.args.bytes.now (sym c.in_ok-catalogue_fault.ensures) in
    let head = c.header_of-n.result in
    let a = c.args in
    let f =
    fits head.n head.m (length a.offsets.now) (length a.targets.now) (length a.sizes.now) (length a.starts.now)
    (sym c.lent_wrong.ensures ∙ c.if-lent_wrong.false) in
    omega (arith, w.length_is, f.sizes, c.header_of-n.ensures.n_is)

pub fill_graph-requires : goal.fill_graph-requires
fill_graph-requires c =
    let w = whole_bytes c.args.bytes.now (sym c.in_ok-catalogue_fault.ensures) in
    let head = c.header_of-n.result in
    let a = c.args in
    let f =
    fits head.n head.m (length a.offsets.now) (length a.targets.now) (length a.sizes.now) (length a.starts.now)
    (sym c.lent_wrong.ensures ∙ c.if-lent_wrong.false) in
    let h = c.header_of-n.ensures in
    (f.offsets, whole_fillable _ w h.n_is (f.targets ∙ h.m_is))

pub leases_place-requires : goal.leases_place-requires
leases_place-requires c =
    let w = whole_bytes c.args.bytes.now (sym c.in_ok-catalogue_fault.ensures) in
    let h = c.header_of-n.ensures in
    (omega (arith, w.head.few, h.n_is), omega (arith, w.head.few_references, h.m_is))

pub fill_starts-starts-requires : goal.fill_starts-starts-requires
fill_starts-starts-requires c =
    let w = whole_bytes c.args.bytes.now (sym c.in_ok-catalogue_fault.ensures) in
    let head = c.header_of-n.result in
    let a = c.args in
    let f =
    fits head.n head.m (length a.offsets.now) (length a.targets.now) (length a.sizes.now) (length a.starts.now)
    (sym c.lent_wrong.ensures ∙ c.if-lent_wrong.false) in
    let h = c.header_of-n.ensures in
    record {
      there = omega (arith, c.leases_place.ensures, w.length_is, h.n_is, h.m_is);
      few = omega (arith, c.leases_place.ensures, w.length_is, w.few_leases, h.n_is, h.m_is);
      words_of = f.starts;
    }

pub returns : goal.returns
returns c =
    let w = whole_bytes c.args.bytes.now (sym c.in_ok-catalogue_fault.ensures) in
    let fit = sym c.lent_wrong.ensures ∙ c.if-lent_wrong.false in
    let o = c.fill_graph.ensures in
    let s = c.fill_starts-starts.ensures in
    let d = read_filled w.clear c.header_of-n.ensures fit o.offsets_after o.targets_after c.fill_sizes.ensures c.leases_place.ensures s.value s.starts_after in
    record { reads = d; acceptance = acceptance d (λ i. let k = c.type_inv.bytes i in omega arith) }
