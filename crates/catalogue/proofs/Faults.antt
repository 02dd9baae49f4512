-- What it means that no fault is found, record by record.
use mathlib.Core.Path.{◌≡◌, refl, ap, sym, subst, ◌∙◌}
use mathlib.Core.List.{List}
use mathlib.Core.Logic.{◌⊎◌, inl, inr, ⊎_elim}
use mathlib.Core.Bool.{Bool, true, false, not, ◌||◌, true≢false}
use Prim.Native.Nat.{ℕ, ◌≤◌, ◌<◌}
use native.Mathlib.Omega.{arith}
use borrow.Author.Tests.{ltb-true, ltb-false, eqb-true, not-false, lt-ltb, le-ltb}
use lib.ListN.{length}
use lib.Dec.{eqb, ltb}
use Rattle.refusal.specs.Order.{raise}
use Rattle.refusal.proofs.None.{raise_none, or_none}
use Rattle.faults.proofs.Cases.{Known, as_header, as_object, as_reference, as_lease, as_subject, number_for, kind_number, contents, placed, right_frame, whole}
use Rattle.records.specs.Layout.{header, object, reference, lease, subject}
use Rattle.graph.specs.Limits.{most_objects, most_references, largest_size}
use Rattle.records.specs.Store.{Ends}
use Rattle.records.specs.Reading.{Kind, header_kind, object_kind, reference_kind, lease_kind, subject_kind, unknown, kind_of, length_of, nothing}
use Rattle.records.specs.Reading.{length_field, kind_field, n_field, m_field, index_field, size_field, pair_field, lease_field}
use Rattle.records.specs.Reading.{short, misfit, misplaced, overfull, miscounted, misnamed, oversized, contents_fault, record_fault}

-- a record of a kind where one is due, without a fault
record Faultless (k : Kind) (due n : ℕ) (b : List ℕ) : Type 0 where
  pub whole : length_field b ≤ length b
  pub fits : misfit k b ≡ false
  pub placed : misplaced due k ≡ false
  pub room : overfull due k ≡ false
  pub contents : contents k n b ≡ 0

faultless : (due n : ℕ) (b : List ℕ) → record_fault due n b ≡ 0 → Faultless (kind_of (kind_field b)) due n b
unfolding record_fault
faultless due n b h =
    let k = kind_of (kind_field b) in
    let one = raise_none (short b) 0 (contents_fault k due n b) h in
    let two = raise_none (misfit k b) 1 (placed k due n b) one.1 in
    let three = raise_none (misplaced due k) 2 (raise (overfull due k) 13 (contents k n b)) two.1 in
    let thirteen = raise_none (overfull due k) 12 (contents k n b) three.1 in
    record {
      whole = ltb-false (length b) (length_field b) (or_none (ltb (length b) 4) (ltb (length b) (length_field b)) one.0).1;
      fits = two.0;
      placed = three.0;
      room = thirteen.0;
      contents = thirteen.1;
    }

not_not : (x y : ℕ) → not (eqb x y) ≡ false → x ≡ y
not_not x y h = eqb-true x y (not-false (eqb x y) h)

not_less : (x y : ℕ) → not (ltb x y) ≡ false → x < y
not_less x y h = ltb-true x y (not-false (ltb x y) h)

-- neither at the place of another kind nor behind the last lease
lease_due : (due : ℕ) (last : Bool) → not (last || eqb due lease) ≡ false → last ≡ false → due ≡ lease
lease_due due true h g = absurd (true≢false g)
lease_due due false h g = not_not due lease h

-- a record without a fault is of the kind that is due, or a subject where a reference is
kind_due : (k : Kind) (due n : ℕ) (b : List ℕ) → Faultless k due n b → (k ≡ kind_of due) ⊎ ((k ≡ subject_kind) × (due ≡ reference))
kind_due header_kind due n b f = inl (sym (ap kind_of (not_not due header f.placed)))
kind_due object_kind due n b f = inl (sym (ap kind_of (not_not due object f.placed)))
kind_due reference_kind due n b f = inl (sym (ap kind_of (not_not due reference f.placed)))
kind_due lease_kind due n b f = inl (sym (ap kind_of (lease_due due (eqb due nothing) f.placed f.room)))
kind_due subject_kind due n b f = inr (refl, not_not due reference f.placed)
kind_due unknown due n b f = absurd (true≢false f.fits)

-- where no reference is due, it is of the kind that is
same_kind : (due n : ℕ) (b : List ℕ) → (due ≡ reference → ⊥) → record_fault due n b ≡ 0 → kind_of (kind_field b) ≡ kind_of due
same_kind due n b g h =
    ⊎_elim (λ (e : kind_of (kind_field b) ≡ kind_of due). e) (λ p. absurd (g p.1)) (kind_due (kind_of (kind_field b)) due n b (faultless due n b h))

-- its length and its kind are what they must be
pub record Framed (x : ℕ) (k : Kind) (b : List ℕ) : Type 0 where
  pub long : length_of k ≤ length b
  pub length_is : length_field b ≡ length_of k
  pub kind_is : kind_field b ≡ x

module _ {x due : ℕ} {k : Kind} (w : Known x due k) (n : ℕ) (b : List ℕ) where
  framed : kind_of (kind_field b) ≡ k → record_fault due n b ≡ 0 → Framed x k b × Faultless k due n b
  framed e h =
      let g = subst (λ (j : Kind). Faultless j due n b) e (faultless due n b h) in
      let l = not_not (length_field b) (length_of k) (rw (w.by_length b) at g.fits) in (
        record {
          long = omega (arith, g.whole, l);
          length_is = l;
          kind_is = sym (kind_number (kind_field b)) ∙ ap (λ (j : Kind). number_for j (kind_field b)) e ∙ w.number_is (kind_field b);
        },
        g,
      )

  -- so framed, and with no fault in its contents, it has none
  no_fault : Framed x k b → contents k n b ≡ 0 → record_fault due n b ≡ 0
  no_fault g e =
      whole due n b (omega (arith, g.long, w.four)) (omega (arith, g.long, g.length_is))
      ∙ sym (right_frame (record { known = w; is = g.kind_is; length_is = refl }) due n g.length_is refl) ∙ e

-- a header without a fault
pub record GoodHeader (b : List ℕ) : Type 0 where
  pub frame : Framed header header_kind b
  pub some : 1 ≤ n_field b
  pub few : n_field b ≤ most_objects
  pub few_references : m_field b ≤ most_references
  pub index_below : index_field b < n_field b

-- an object without a fault
pub record GoodObject (b : List ℕ) : Type 0 where
  pub frame : Framed object object_kind b
  pub small : size_field b ≤ largest_size

-- a reference or a subject without a fault
pub record GoodLink (n : ℕ) (b : List ℕ) : Type 0 where
  pub frame : Framed reference reference_kind b ⊎ Framed subject subject_kind b
  pub ends : Ends n (pair_field b)

pub link_long : {n : ℕ} {b : List ℕ} → GoodLink n b → 12 ≤ length b
link_long g = ⊎_elim (λ f. f.long) (λ f. f.long) g.frame

-- a lease without a fault
pub record GoodLease (n : ℕ) (b : List ℕ) : Type 0 where
  pub frame : Framed lease lease_kind b
  pub below : lease_field b < n

module _ (n : ℕ) (b : List ℕ) where
  pub good_header_record : record_fault header n b ≡ 0 → GoodHeader b
  good_header_record h =
      let f = framed as_header n b (same_kind header n b (λ e. omega arith) h) h in
      let four = raise_none (miscounted header_kind b) 3 (raise (misnamed header_kind n b) 5 0) f.1.contents in
      let c = or_none (ltb (n_field b) 1 || ltb most_objects (n_field b)) (ltb most_references (m_field b)) four.0 in
      let d = or_none (ltb (n_field b) 1) (ltb most_objects (n_field b)) c.0 in
      record {
        frame = f.0;
        some = ltb-false (n_field b) 1 d.0;
        few = ltb-false most_objects (n_field b) d.1;
        few_references = ltb-false most_references (m_field b) c.1;
        index_below = not_less (index_field b) (n_field b) (raise_none (misnamed header_kind n b) 4 0 four.1).0;
      }

  pub good_object_record : record_fault object n b ≡ 0 → GoodObject b
  good_object_record h =
      let f = framed as_object n b (same_kind object n b (λ e. omega arith) h) h in
      record { frame = f.0; small = ltb-false largest_size (size_field b) (raise_none (oversized object_kind b) 5 0 f.1.contents).0 }

  ends_good : raise (misnamed reference_kind n b) 5 0 ≡ 0 → Ends n (pair_field b)
  ends_good h =
      let five = raise_none (misnamed reference_kind n b) 4 0 h in
      let d = or_none (not (ltb (pair_field b).from n)) (not (ltb (pair_field b).to n)) five.0 in
      record { from_below = not_less (pair_field b).from n d.0; to_below = not_less (pair_field b).to n d.1 }

  pub good_link_record : record_fault reference n b ≡ 0 → GoodLink n b
  good_link_record h =
      ⊎_elim
      (λ (e : kind_of (kind_field b) ≡ reference_kind). let f = framed as_reference n b e h in record { frame = inl f.0; ends = ends_good f.1.contents })
      (λ p. let f = framed as_subject n b p.0 h in record { frame = inr f.0; ends = ends_good f.1.contents })
      (kind_due (kind_of (kind_field b)) reference n b (faultless reference n b h))

  pub good_lease_record : record_fault lease n b ≡ 0 → GoodLease n b
  good_lease_record h =
      let f = framed as_lease n b (same_kind lease n b (λ e. omega arith) h) h in
      record { frame = f.0; below = not_less (lease_field b) n (raise_none (misnamed lease_kind n b) 4 0 f.1.contents).0 }

  -- where nothing is due, no record is without a fault
  pub never_good : record_fault nothing n b ≡ 0 → ⊥
  never_good h =
      let e = same_kind nothing n b (λ e. omega arith) h in
      true≢false (rw e at (faultless nothing n b h).fits)

  pub clear_header : GoodHeader b → record_fault header n b ≡ 0
  clear_header g =
      no_fault as_header n b g.frame
      (rw (
        le-ltb (n_field b) 1 g.some,
        le-ltb most_objects (n_field b) g.few,
        le-ltb most_references (m_field b) g.few_references,
        lt-ltb (index_field b) (n_field b) g.index_below,
      ))

  pub clear_object : GoodObject b → record_fault object n b ≡ 0
  clear_object g = no_fault as_object n b g.frame (rw (le-ltb largest_size (size_field b) g.small))

  pub clear_link : GoodLink n b → record_fault reference n b ≡ 0
  clear_link g =
      let e : raise (misnamed reference_kind n b) 5 0 ≡ 0 =
      rw (lt-ltb (pair_field b).from n g.ends.from_below, lt-ltb (pair_field b).to n g.ends.to_below) in
      ⊎_elim (λ f. no_fault as_reference n b f e) (λ f. no_fault as_subject n b f e) g.frame

  pub clear_lease : GoodLease n b → record_fault lease n b ≡ 0
  clear_lease g = no_fault as_lease n b g.frame (rw (lt-ltb (lease_field b) n g.below))
