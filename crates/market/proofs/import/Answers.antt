-- `market::import`: one law of `Checks` for each way out; and what import promises of any text follows from its answer.
use Rattle.std.proofs.Common.{◌≡◌, ℕ, true, map, length, drop, replicate, refl, sym, ap, ◌∙◌}
use Rattle.matrix.specs.Import.{from_zero, misfits}
use Rattle.matrix.specs.Reading.{pairs_in}
use Rattle.matrix.proofs.Forms.{accepts}
use Rattle.matrix.proofs.Checks.{fault_head, fault_lines, fault_counts, fault_objects, fault_none, pairs_are, imports_refused, imports_unfit, imports_filled, lengths_fit, offsets_unfit, targets_unfit, sizes_unfit}
use Rattle.market.proofs.import.Goals as goal
use Rattle.market.proofs.import.Goals.{then-offsets-n-via-then-offsets-n, then-offsets-n-via-else-offsets-n+then-targets-m, then-offsets-n-via-else-offsets-n+else-targets-m+then-sizes-n}

pub returns-in_default : goal.returns-in_default
returns-in_default c =
    let a = imports_refused c.args.text.now _ _ _ (fault_head _ c.in_default.ensures) in
    record { imports = a; accepts = accepts a }

pub returns-in_default-body_at : goal.returns-in_default-body_at
returns-in_default-body_at c =
    let a = imports_refused c.args.text.now _ _ _ (fault_lines c.in-Some.ensures c.in_default-body_at.ensures) in
    record { imports = a; accepts = accepts a }

pub returns-then-counts_outside : goal.returns-then-counts_outside
returns-then-counts_outside c =
    let a = imports_refused c.args.text.now _ _ _ (fault_counts c.in-Some.ensures c.in-Some-body_at.ensures (sym c.if-counts_outside.ensures)) in
    record { imports = a; accepts = accepts a }

pub returns-then-not-fits : goal.returns-then-not-fits
returns-then-not-fits c =
    let a = imports_refused c.args.text.now _ _ _ (fault_objects c.in-Some.ensures c.in-Some-body_at.ensures (sym c.if-counts_outside.ensures) c.if-not-fits.true) in
    record { imports = a; accepts = accepts a }

pub returns-then-offsets-n : goal.returns-then-offsets-n
returns-then-offsets-n c =
    let none = fault_none c.in-Some.ensures c.in-Some-body_at.ensures (sym c.if-counts_outside.ensures) c.if-not-fits.false in
    let unfit : misfits c.in-Some.head.rows c.in-Some.head.entries (length c.args.offsets.now) (length c.args.targets.now) (length c.args.sizes.now) ≡ true =
    elim c.then-offsets-n.branch [
      | then-offsets-n-via-then-offsets-n w ↦ offsets_unfit _ _ _ _ _ w.if-offsets-n.true
      | then-offsets-n-via-else-offsets-n+then-targets-m w ↦ targets_unfit _ _ _ _ _ w.if-offsets-n.false w.if-targets-m.true
      | then-offsets-n-via-else-offsets-n+else-targets-m+then-sizes-n w ↦ sizes_unfit _ _ _ _ _ w.if-offsets-n.false w.if-targets-m.false w.if-sizes-n.true
    ] in
    let a = imports_unfit c.args.text.now _ _ _ none c.in-Some.ensures.rows_is c.in-Some.ensures.entries_is unfit refl in
    record { imports = a; accepts = accepts a }

pub returns : goal.returns
returns c =
    let text = c.args.text.now in
    let none = fault_none c.in-Some.ensures c.in-Some-body_at.ensures (sym c.if-counts_outside.ensures) c.if-not-fits.false in
    let ps = pairs_are c.in-Some.ensures c.in-Some-body_at.ensures ∙ ap (λ (k : ℕ). pairs_in k (drop c.in-Some.head.next text)) (sym c.if-targets-m.false) in
    let zeros = c.fill.ensures.after (λ y e. e) ∙ ap (λ (k : ℕ). replicate k 0) c.if-sizes-n.false in
    let a =
    imports_filled text _ _ _ none c.in-Some.ensures.rows_is c.in-Some.ensures.entries_is (lengths_fit _ _ _ _ _ c.if-offsets-n.false c.if-targets-m.false c.if-sizes-n.false)
    refl (ap (map from_zero) ps) c.fill_graph.ensures.offsets_after c.fill_graph.ensures.targets_after zeros in
    record { imports = a; accepts = accepts a }
