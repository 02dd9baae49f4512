-- The reader on buffers of exactly the lengths that the header says: what it refuses is the catalogue's first fault, and
-- what it accepts passes the marker's checks and the sweep's.
use mathlib.Core.Path.{◌≡◌, refl, sym, ap, subst, ◌∙◌}
use mathlib.Core.List.{List}
use Prim.Native.Nat.{ℕ, zero, suc, ◌+◌, ◌-◌, ◌≤◌, ◌<◌}
use native.Mathlib.Omega.{arith}
use lib.ListN.{length, take, replicate, length-append}
use lib.Seq.{take-append_seam}
use borrow.Author.Tests.{eq-eqb}
use Rattle.refusal.specs.declared.Refusal.{Refusal}
use Rattle.refusal.specs.Number.{number}
use Rattle.refusal.proofs.Numbers.{numbered, first_found}
use Rattle.graph.specs.Limits.{most_starts}
use Rattle.catalogue.specs.declared.Found.{Found}
use Rattle.std.specs.Prelude.{Ok, Err}
use Rattle.records.specs.Store.{Store, objects, references, starts_of}
use Rattle.records.specs.Reading.{Reading, accepted, judged, reading, catalogue_fault, store_of}
use Rattle.catalogue.specs.Answer.{ReadRow, found_row, unread, lent, taken, read_row, offsets_after, targets_after, sizes_after, starts_after, Reads}
use Rattle.lines.specs.Lines.{refusal_line}
use Rattle.program.specs.Program.{contents, contents_of, Contents, order_of, schedule_of, order_text, later_text}
use Rattle.program.specs.Passing.{Passing}
use Rattle.program.proofs.Printed.{printed_refusal}
use Rattle.program.proofs.Passing.{passing}
use Rattle.text.specs.declared.Page.{Page}
use Rattle.report.specs.Ready.{Orderly, Readable}

-- rows of a reading
row_refused : (k f : ℕ) (s : Store) → 0 < k → unread k ≡ read_row (judged f s) → k ≡ f
row_refused k zero s h e = let z = ap (λ (r : ReadRow). r.refusal) e in absurd (omega arith)
row_refused k (suc f) s h e = ap (λ (r : ReadRow). r.refusal) e

row_read : {x : Found} (f : ℕ) (s : Store) → found_row (Ok x) ≡ read_row (judged f s) → (f ≡ 0) × (x.starts ≡ length (starts_of s))
row_read zero s e = (refl, ap (λ (y : ReadRow). y.starts) e)
row_read (suc f) s e = let q = ap (λ (x : ReadRow). x.refusal) e in absurd (omega arith)

module _ {b order o t s w : List ℕ} {page : Page} (ready : Readable b order o t s w page) where
  taken_by : (k : ℕ) → lent (judged k (store_of b)) (length o) (length t) (length s) (length w) ≡ judged k (store_of b)
  taken_by zero =
      rw (
        eq-eqb (length o) (objects (store_of b) + 1) ready.all_offsets,
        eq-eqb (length t) (references (store_of b)) ready.all_targets,
        eq-eqb (length s) (objects (store_of b)) ready.all_sizes,
        eq-eqb (length w) most_starts ready.all_starts,
      )
  taken_by (suc k) = refl

  -- no other fault than the catalogue's own
  taken_is : taken b o t s w ≡ judged (catalogue_fault b) (store_of b)
  unfolding reading
  taken_is = taken_by (catalogue_fault b)

  module _ {o' t' s' w' : List ℕ} where
    pub due_catalogue : (r : Refusal) → Reads b o t s w (found_row (Err r)) o' t' s' w' → later_text b order ≡ refusal_line (number r)
    due_catalogue r d =
        let f = row_refused (number r) _ (store_of b) (numbered r) (d.returned ∙ ap read_row taken_is) in
        sym (printed_refusal (contents_of (store_of b)) (order_of order) (schedule_of order) r refl (first_found r (catalogue_fault b) _ f))

    module _ {x : Found} (d : Reads b o t s w (found_row (Ok x)) o' t' s' w') where
      clean : (catalogue_fault b ≡ 0) × (x.starts ≡ length (starts_of (store_of b)))
      clean = row_read (catalogue_fault b) (store_of b) (d.returned ∙ ap read_row taken_is)

      whole : taken b o t s w ≡ accepted (store_of b)
      whole = taken_is ∙ ap (λ (k : ℕ). judged k (store_of b)) clean.0

      same : contents o' t' s' (take x.starts w') ≡ contents_of (store_of b)
      same =
          let eo = d.offsets_are ∙ ap (λ (y : Reading). offsets_after y o) whole in
          let et = d.targets_are ∙ ap (λ (y : Reading). targets_after y t) whole in
          let es = d.sizes_are ∙ ap (λ (y : Reading). sizes_after y s) whole in
          let ew = d.starts_are ∙ ap (λ (y : Reading). starts_after y w) whole in
          rw (eo, et, es, ew, clean.1, take-append_seam (starts_of (store_of b)) (replicate (most_starts - length (starts_of (store_of b))) 0))

      pub starts_fit : x.starts ≤ length w'
      starts_fit =
          let ew = d.starts_are ∙ ap (λ (y : Reading). starts_after y w) whole in
          rw (ew, clean.1, length-append) (omega arith)

      pub due_read : order_text (contents o' t' s' (take x.starts w')) order ≡ later_text b order
      due_read = ap (λ (y : Contents). order_text y order) same ∙ rw clean.0

      pub orderly : Orderly (contents o' t' s' (take x.starts w')) order page
      orderly =
          let n : length s' ≡ length s = ap (λ (y : Contents). length y.sizes) same ∙ sym ready.all_sizes in
          let few = ready.few in
          record {
            passing = subst Passing (sym same) (passing b clean.0);
            few = omega arith;
            whole_order = ready.whole_order;
            room = ready.room;
          }
