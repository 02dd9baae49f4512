-- What bytes without a fault are: a header, n objects, m references, leases, and nothing more.
use mathlib.Core.Path.{◌≡◌}
use mathlib.Core.List.{List, [], ◌∷◌, map, append-nil}
use Prim.Native.Nat.{ℕ, ◌+◌, ◌*◌, ◌-◌, ◌≤◌, ◌<◌}
use native.Mathlib.Omega.{arith}
use lib.ListN.{length, drop, replicate, length-drop}
use lib.Seq.{drop-drop}
use Rattle.laws.specs.Every.{Every}
use Rattle.laws.proofs.Every.{every_map}
use Rattle.refusal.proofs.None.{first_none}
use Rattle.records.specs.Layout.{header, reference}
use Rattle.records.specs.Store.{Pair, Link, Ends, InRange, stored, most_leases}
use Rattle.records.specs.Reading.{n_field, m_field, size_field, link_field, lease_field, record_fault, faults, dues, catalogue_fault, records, leases_at, lease_count, store_of}
use Rattle.records.specs.Fill.{Fillable, pairs_of}
use Rattle.catalogue.proofs.Faults.{GoodHeader, GoodObject, GoodLink, GoodLease, good_header_record}
use Rattle.catalogue.proofs.Forms.{EachRecord, object_form, link_form, lease_form, form_good, form_long, form_legal}
use Rattle.catalogue.proofs.Leases.{Leased, leased}
use Rattle.records.proofs.Filling.{length_records, map_records}

-- bytes without a fault
pub record Whole (b : List ℕ) : Type 0 where
  pub clear : catalogue_fault b ≡ 0
  pub head : GoodHeader b
  pub objects_are : EachRecord 12 GoodObject (n_field b) (drop 16 b)
  pub references_are : EachRecord 12 (GoodLink (n_field b)) (m_field b) (drop (16 + 12 * n_field b) b)
  pub few_leases : lease_count (leases_at (n_field b) (m_field b)) b ≤ most_leases
  pub leases_are :
      EachRecord 8 (GoodLease (n_field b)) (lease_count (leases_at (n_field b) (m_field b)) b) (drop (leases_at (n_field b) (m_field b)) b)
  pub length_is : length b ≡ leases_at (n_field b) (m_field b) + 8 * lease_count (leases_at (n_field b) (m_field b)) b

pub whole_bytes : (b : List ℕ) → catalogue_fault b ≡ 0 → Whole b
unfolding catalogue_fault faults
whole_bytes b h =
    let n = n_field b in
    let m = m_field b in
    let p = first_none (record_fault header n b) (faults n (dues n m) (drop 16 b)) h in
    let g = good_header_record n b p.0 in
    let O = object_form n in
    let R = link_form g.few in
    let o = form_good O n (replicate m reference) (drop 16 b) p.1 in
    let r = form_good R m [] (drop (12 * n) (drop 16 b)) (rw append-nil o.1) in
    let s : EachRecord 12 (GoodLink n) m (drop (16 + 12 * n) b) = rw drop-drop at r.0 in
    let l : Leased n most_leases (drop (leases_at n m) b) =
    rw (drop-drop (12 * n) 16 b, drop-drop (12 * m) (16 + 12 * n) b) at (leased n most_leases (drop (12 * m) (drop (12 * n) (drop 16 b))) r.1) in
    let lo = rw length-drop at (form_long O n (drop 16 b) o.0) in
    let lr = rw length-drop at (form_long R m (drop (16 + 12 * n) b) s) in
    let ll : length b - leases_at n m ≡ 8 * l.count = rw length-drop at l.length_is in
    let k : l.count ≡ lease_count (leases_at n m) b = omega arith in
    record {
      clear = h;
      head = g;
      objects_are = o.0;
      references_are = s;
      few_leases = omega (arith, l.few);
      leases_are = rw k at l.each;
      length_is = omega (arith, g.frame.long);
    }

-- what holds of what is made of each element
module _ {A B : Type 0} (P : B → Type 0) (f : A → B) where
  every_mapped : (l : List A) → Every (λ (x : A). P (f x)) l → Every P (map f l)
  every_mapped [] h = tt
  every_mapped (x ∷ l) h = (h.0, every_mapped l h.1)

  pub mapped_every : (l : List A) → Every P (map f l) → Every (λ (x : A). P (f x)) l
  mapped_every [] h = tt
  mapped_every (x ∷ l) h = (h.0, mapped_every l h.1)

module _ (b : List ℕ) (w : Whole b) where
  abbrev links : List Link
  links = records 12 link_field (m_field b) (drop (16 + 12 * n_field b) b)

  stored_ends : Every (Ends (n_field b)) (map stored links)
  stored_ends =
      every_mapped (Ends (n_field b)) stored links
      (form_legal (link_form w.head.few) (m_field b) (drop (16 + 12 * n_field b) b) w.references_are)

  ends : Every (Ends (n_field b)) (pairs_of (n_field b) (m_field b) b)
  ends = rw (map_records 12 link_field stored (m_field b) (drop (16 + 12 * n_field b) b)) at stored_ends

  -- such bytes can be filled in, and the store that they tell is within the ranges
  pub whole_fillable : {n m : ℕ} → n ≡ n_field b → m ≡ m_field b → Fillable n m b
  whole_fillable en em =
      rw (en, em)
      (record {
        within = omega (arith, w.length_is);
        few = w.head.few;
        few_references = w.head.few_references;
        sources =
            every_map (Ends (n_field b)) (λ (p : Pair). p.from < n_field b) (pairs_of (n_field b) (m_field b) b) (λ p x. x.from_below) ends;
      })

  pub whole_range : InRange (store_of b)
  unfolding store_of
  whole_range =
      let n = n_field b in
      let l = length_records 12 size_field n (drop 16 b) in
      let k = length_records 12 link_field (m_field b) (drop (16 + 12 * n) b) in
      let at = leases_at n (m_field b) in
      let c = length_records 8 lease_field (lease_count at b) (drop at b) in
      record {
        some = rw l w.head.some;
        few = rw l w.head.few;
        few_references = rw k w.head.few_references;
        index_below = rw l w.head.index_below;
        sizes_small = form_legal (object_form n) n (drop 16 b) w.objects_are;
        ends_below = rw l stored_ends;
        few_leases = rw c w.few_leases;
        leases_below = rw l (form_legal (lease_form w.head.few) (lease_count at b) (drop at b) w.leases_are);
      }
