-- The reader's answers, one for each way out.
use mathlib.Core.Path.{◌≡◌, ap, sym}
use mathlib.Core.Bool.{true, false, not, ◌||◌}
use mathlib.Core.List.{List, ◌∷◌, map}
use Prim.Native.Nat.{ℕ, zero, suc, ◌+◌, ◌*◌}
use native.Mathlib.Omega.{arith}
use borrow.Author.Tests.{eqb-true, not-false}
use lib.Dec.{eqb}
use lib.ListN.{length, drop}
use Rattle.laws.specs.Grouping.{grouped, starts}
use Rattle.refusal.specs.declared.Refusal.{Refusal}
use Rattle.refusal.specs.Number.{number}
use Rattle.refusal.proofs.Numbers.{numbered}
use Rattle.refusal.proofs.None.{or_none}
use Rattle.records.specs.Store.{Store, stored, start_words, padded}
use Rattle.records.specs.Reading.{Heads, refused, accepted, judged, reading, catalogue_fault, store_of}
use Rattle.records.specs.Reading.{records, size_field, link_field, lease_field, n_field, m_field, leases_at, lease_count, leases_from}
use Rattle.catalogue.specs.Answer.{unread, misfits, taken, Reads}
use Rattle.records.specs.Fill.{pairs_of, from_of, to_of}
use Rattle.records.proofs.Filling.{length_records, map_records}

judged_fault : (f : Refusal) (k : ℕ) (s : Store) → number f ≡ k → judged k s ≡ refused (number f)
judged_fault f zero s h = absurd (omega (arith, h, numbered f))
judged_fault f (suc k) s h = ap refused (sym h)

reading_refused : (f : Refusal) (b : List ℕ) → number f ≡ catalogue_fault b → reading b ≡ refused (number f)
unfolding reading
reading_refused f b h = judged_fault f (catalogue_fault b) (store_of b) h

reading_accepted : (b : List ℕ) → catalogue_fault b ≡ 0 → reading b ≡ accepted (store_of b)
unfolding reading
reading_accepted b h = rw h

-- n and m of the store are those of the header, and its leases are those that the bytes have
pub store_objects : (b : List ℕ) → length (store_of b).sizes ≡ n_field b
unfolding store_of
store_objects b = length_records 12 size_field (n_field b) (drop 16 b)

pub store_references : (b : List ℕ) → length (store_of b).links ≡ m_field b
unfolding store_of
store_references b = length_records 12 link_field (m_field b) (drop (16 + 12 * n_field b) b)

store_leases : (b : List ℕ) → length (store_of b).leases ≡ lease_count (leases_at (n_field b) (m_field b)) b
unfolding store_of
store_leases b = length_records 8 lease_field _ _

-- lengths that fit
pub record Fits (n m o t s w : ℕ) : Type 0 where
  pub offsets : o ≡ n + 1
  pub targets : t ≡ m
  pub sizes : s ≡ n
  pub starts : w ≡ start_words

pub fits : (n m o t s w : ℕ) → misfits n m o t s w ≡ false → Fits n m o t s w
fits n m o t s w h =
    let d = or_none (not (eqb o (n + 1)) || not (eqb t m) || not (eqb s n)) (not (eqb w start_words)) h in
    let a = or_none (not (eqb o (n + 1)) || not (eqb t m)) (not (eqb s n)) d.0 in
    let c = or_none (not (eqb o (n + 1))) (not (eqb t m)) a.0 in
    record {
      offsets = eqb-true o (n + 1) (not-false (eqb o (n + 1)) c.0);
      targets = eqb-true t m (not-false (eqb t m) c.1);
      sizes = eqb-true s n (not-false (eqb s n) a.1);
      starts = eqb-true w start_words (not-false (eqb w start_words) d.1);
    }

module _ {b o t s w : List ℕ} where
  -- a refusal leaves every lent word
  unchanged : (k : ℕ) → taken b o t s w ≡ refused k → Reads b o t s w (unread k) o t s w
  unchanged k e = record { returned = rw e; offsets_are = rw e; targets_are = rw e; sizes_are = rw e; starts_are = rw e }

  pub read_fault : (f : Refusal) → number f ≡ catalogue_fault b → Reads b o t s w (unread (number f)) o t s w
  read_fault f h = unchanged (number f) (rw (reading_refused f b h))

  -- a catalogue without a fault, and the lent lengths
  module _ (h : catalogue_fault b ≡ 0) {n m index : ℕ} (e : Heads b n m index) where
    pub read_unfit : misfits n m (length o) (length t) (length s) (length w) ≡ true → Reads b o t s w (unread 7) o t s w
    read_unfit x =
        unchanged 7 (rw (reading_accepted b h, store_objects b, store_references b, ← e.n_is, ← e.m_is, x))

    pub read_filled : misfits n m (length o) (length t) (length s) (length w) ≡ false → {o' t' s' w' : List ℕ} {c at : ℕ}
        → o' ≡ starts from_of n (pairs_of n (length t) b) → t' ≡ map to_of (grouped from_of n (pairs_of n (length t) b))
        → s' ≡ records 12 size_field (length s) (drop 16 b) → at ≡ leases_at n m → c ≡ suc (lease_count at b)
        → w' ≡ padded (index ∷ leases_from at b)
        → Reads b o t s w (record { refusal = 0; n = n; m = m; index = index; starts = c }) o' t' s' w'
    unfolding store_of
    read_filled x eo et es ea ec ew =
        let k : taken b o t s w ≡ accepted (store_of b) =
        rw (reading_accepted b h, store_objects b, store_references b, ← e.n_is, ← e.m_is, x) in
        let l = fits n m (length o) (length t) (length s) (length w) x in
        let p = map_records 12 link_field stored (m_field b) (drop (16 + 12 * n_field b) b) in
        record {
          returned = rw (k, store_objects b, store_references b, store_leases b, ec, ea, e.n_is, e.m_is, e.index_is);
          offsets_are = rw (k, store_objects b, p, eo, e.n_is, l.targets, e.m_is);
          targets_are = rw (k, store_objects b, p, et, e.n_is, l.targets, e.m_is);
          sizes_are = rw (k, es, l.sizes, e.n_is);
          starts_are = rw (k, ew, ea, e.n_is, e.m_is, e.index_is);
        }
