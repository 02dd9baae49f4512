-- Layout and reading are each other's inverse.
use mathlib.Core.Path.{◌≡◌, refl, ap, sym, subst, ◌∙◌}
use mathlib.Core.List.{List, [], ◌++◌, flat_map, append-nil}
use Prim.Native.Nat.{ℕ, ◌+◌, ◌*◌}
use native.Mathlib.Omega.{arith}
use lib.ListN.{length, take, drop, replicate, length-drop}
use lib.Seq.{take_all, drop-drop}
use Rattle.laws.specs.Every.{Every}
use Rattle.laws.specs.Words.{le, word, Bytes}
use Rattle.laws.proofs.Words.{word_le, le_field, take_join, bytes_drop}
use Rattle.records.specs.Store.{Store, Link, Ends, InRange, stored, objects, references, most_leases}
use Rattle.records.specs.Layout.{reference, header_record, object_record, link_record, lease_record, layout}
use Rattle.records.specs.Reading.{accepted, reading, faults, dues, catalogue_fault, records, leases_at, lease_count, leases_from, store_of}
use Rattle.records.specs.Reading.{n_field, m_field, index_field, size_field, link_field}
use Rattle.catalogue.proofs.Faults.{GoodHeader, clear_header}
use Rattle.catalogue.proofs.Forms.{object_form, link_form, lease_form, form_bytes, record_bytes, written_faults, written_records, written_behind, written_length}
use Rattle.catalogue.proofs.Leases.{written_leases}
use Rattle.catalogue.proofs.Accepted.{Whole, mapped_every}
use Rattle.catalogue.proofs.Reader.{store_objects, store_references}

-- ---- from bytes to the layout

header_bytes : (b : List ℕ) → Bytes b → GoodHeader b
    → (s : Store) → objects s ≡ n_field b → references s ≡ m_field b → s.index ≡ index_field b → header_record s ≡ take 16 b
header_bytes b h g s en em ei =
    let long = g.frame.long in
    record_bytes b h (le 4 (objects s) ++ (le 4 (references s) ++ le 4 s.index)) g.frame.length_is g.frame.kind_is (omega arith)
    ∙ rw (
      en,
      em,
      ei,
      le_field 4 4 b h (omega arith),
      le_field 4 8 b h (omega arith),
      le_field 4 12 b h (omega arith),
      take_join 8 4 4 b,
      take_join 4 4 8 b,
    ) (take_join 0 4 12 b)

pub whole_layout : (b : List ℕ) → Bytes b → Whole b → b ≡ layout (store_of b)
unfolding layout store_of
whole_layout b h w =
    let n = n_field b in
    let m = m_field b in
    let o = form_bytes (object_form n) n (drop 16 b) (bytes_drop 16 b h) w.objects_are in
    let r = form_bytes (link_form w.head.few) m (drop (16 + 12 * n) b) (bytes_drop (16 + 12 * n) b h) w.references_are in
    let at = leases_at n m in
    let c = lease_count at b in
    let l = form_bytes (lease_form w.head.few) c (drop at b) (bytes_drop at b h) w.leases_are in
    sym (rw (
      header_bytes b h w.head (store_of b) (store_objects b) (store_references b) refl,
      o,
      r,
      l,
      take_join (16 + 12 * n) (12 * m) (8 * c) b,
      take_join 16 (12 * n) (12 * m + 8 * c) b,
    )
    (take_join 0 16 (12 * n + (12 * m + 8 * c)) b ∙ take_all (16 + (12 * n + (12 * m + 8 * c))) b (omega (arith, w.length_is))))

-- ---- from the layout to the reading

-- a good header, and no fault behind it
clear_behind : (b : List ℕ) {n m : ℕ} → GoodHeader b → n_field b ≡ n → m_field b ≡ m → faults n (dues n m) (drop 16 b) ≡ 0
    → catalogue_fault b ≡ 0
unfolding catalogue_fault faults
clear_behind b {n = n} g p q h = rw (clear_header (n_field b) b g) (subst (λ k. faults k (dues k (m_field b)) (drop 16 b) ≡ 0) (sym p)
    (subst (λ k. faults n (dues n k) (drop 16 b) ≡ 0) (sym q) h))

module _ (s : Store) (r : InRange s) where
  abbrev n : ℕ
  n = objects s

  abbrev leases : List ℕ
  leases = flat_map lease_record s.leases

  abbrev pairs : List ℕ
  pairs = flat_map link_record s.links ++ leases

  abbrev behind : List ℕ
  behind = flat_map object_record s.sizes ++ pairs

  ends : Every (λ (x : Link). Ends n (stored x)) s.links
  ends = mapped_every (Ends n) stored s.links r.ends_below

  -- the written header
  header_n : n_field (layout s) ≡ n
  unfolding layout le
  header_n = word_le 4 n (le 4 (references s) ++ le 4 s.index ++ behind) (omega (arith, r.few))

  header_m : m_field (layout s) ≡ references s
  unfolding layout le
  header_m = word_le 4 (references s) (le 4 s.index ++ behind) (omega (arith, r.few_references))

  header_index : index_field (layout s) ≡ s.index
  unfolding layout le
  header_index = word_le 4 s.index behind (omega (arith, r.few, r.index_below))

  header_good : GoodHeader (layout s)
  unfolding layout le word
  header_good =
      record {
        frame = record { long = omega arith; length_is = refl; kind_is = refl };
        some = rw header_n r.some;
        few = rw header_n r.few;
        few_references = rw header_m r.few_references;
        index_below = rw (header_n, header_index) r.index_below;
      }

  header_behind : drop 16 (layout s) ≡ behind
  unfolding layout le
  header_behind = refl

  -- what stands behind it
  layout_faults : faults n (dues n (references s)) behind ≡ 0
  unfolding faults
  layout_faults =
      written_faults (object_form n) s.sizes (replicate (references s) reference) pairs r.sizes_small
      ∙ rw (← append-nil (replicate (references s) reference)) (written_faults (link_form r.few) s.links [] leases ends)
      ∙ written_leases r.few most_leases s.leases r.few_leases r.leases_below

  layout_clear : catalogue_fault (layout s) ≡ 0
  layout_clear = clear_behind (layout s) header_good header_n header_m (rw header_behind layout_faults)

  layout_sizes : records 12 size_field (n_field (layout s)) (drop 16 (layout s)) ≡ s.sizes
  layout_sizes = rw (header_n, header_behind) (written_records (object_form 0) s.sizes pairs r.sizes_small)

  pairs_behind : drop (16 + 12 * n) (layout s) ≡ pairs
  pairs_behind = rw (← drop-drop (12 * n) 16 (layout s), header_behind) (written_behind (object_form 0) s.sizes pairs)

  layout_pairs : records 12 link_field (m_field (layout s)) (drop (16 + 12 * n_field (layout s)) (layout s)) ≡ s.links
  layout_pairs = rw (header_n, header_m, pairs_behind) (written_records (link_form r.few) s.links leases ends)

  leases_behind : drop (leases_at n (references s)) (layout s) ≡ leases
  leases_behind =
      rw (← drop-drop (12 * references s) (16 + 12 * n) (layout s), pairs_behind) (written_behind (link_form r.few) s.links leases)

  count_behind : lease_count (leases_at n (references s)) (layout s) ≡ length s.leases
  count_behind =
      omega (
        arith,
        sym (length-drop (leases_at n (references s)) (layout s)) ∙ ap length leases_behind,
        written_length (lease_form r.few) s.leases,
      )

  layout_leases : leases_from (leases_at (n_field (layout s)) (m_field (layout s))) (layout s) ≡ s.leases
  layout_leases =
      rw (header_n, header_m, count_behind, leases_behind, ← append-nil leases)
      (written_records (lease_form r.few) s.leases [] r.leases_below)

  pub layout_accepted : reading (layout s) ≡ accepted s
  unfolding reading store_of
  layout_accepted = rw (layout_clear, header_index, layout_sizes, layout_pairs, layout_leases)
