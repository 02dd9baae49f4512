-- The three forms of records behind the header: what a record without a fault says, and how it is written.
use mathlib.Core.Path.{◌≡◌, refl, ap, sym, ◌∙◌}
use mathlib.Core.List.{List, [], ◌∷◌, ◌++◌, flat_map, append_assoc}
use mathlib.Core.Logic.{inl, inr, ⊎_elim}
use Prim.Native.Nat.{ℕ, zero, suc, ◌+◌, ◌*◌, ◌≤◌, ◌<◌}
use native.Mathlib.Nat.{mul-zero}
use native.Mathlib.Omega.{arith}
use lib.ListN.{length, take, drop, replicate, length-append, length-drop}
use lib.Seq.{take-add, drop-drop}
use Rattle.laws.specs.Every.{Every}
use Rattle.laws.specs.Words.{le, word, Bytes}
use Rattle.laws.proofs.Words.{word_le, le_field, take_join, bytes_drop}
use Rattle.refusal.proofs.None.{first_none}
use Rattle.graph.specs.Limits.{most_objects, largest_size}
use Rattle.records.specs.Store.{Pair, Link, refers, names, stored, Ends}
use Rattle.records.specs.Layout.{object, reference, lease, subject, record_of, object_record, pair_record, link_record, lease_record}
use Rattle.records.specs.Reading.{kind_of, length_of, length_field, kind_field, size_field, pair_field, link_field, lease_field, record_fault, faults, records}
use Rattle.catalogue.proofs.Faults.{GoodObject, GoodLink, GoodLease, link_long, good_object_record, good_link_record, good_lease_record}
use Rattle.catalogue.proofs.Faults.{clear_object, clear_link, clear_lease}

-- so many records of a length one after the other, each with a property
abbrev pub EachRecord : ℕ → (List ℕ → Type 0) → ℕ → List ℕ → Type 0
EachRecord width G zero b = Unit
EachRecord width G (suc c) b = G b × EachRecord width G c (drop width b)

-- f reads a record of a length and of the kind that is due, `write` writes one, P is what is legal, and G is a record without a fault
pub record Form {A : Type 0} (width : ℕ) (f : List ℕ → A) (write : A → List ℕ) (P : A → Type 0) (G : List ℕ → Type 0) (due n : ℕ) : Type 0 where
  pub width_is : length_of (kind_of due) ≡ width
  pub good : (b : List ℕ) → record_fault due n b ≡ 0 → G b
  pub long : (b : List ℕ) → G b → width ≤ length b
  pub legal : (b : List ℕ) → G b → P (f b)
  pub rewrites : (b : List ℕ) → Bytes b → G b → write (f b) ≡ take width b
  pub clear : (x : A) (rest : List ℕ) → P x → record_fault due n (write x ++ rest) ≡ 0
  pub reads : (x : A) (rest : List ℕ) → P x → f (write x ++ rest) ≡ x
  pub behind : (x : A) (rest : List ℕ) → drop width (write x ++ rest) ≡ rest
  pub long_written : (x : A) → length (write x) ≡ width

module _ {A : Type 0} {width : ℕ} {f : List ℕ → A} {write : A → List ℕ} {P : A → Type 0} {G : List ℕ → Type 0} {due n : ℕ}
    (F : Form width f write P G due n) where
  -- where they have no fault, each record is good, and so is the rest
  pub form_good : (c : ℕ) (later b : List ℕ) → faults n (replicate c due ++ later) b ≡ 0
      → EachRecord width G c b × (faults n later (drop (width * c) b) ≡ 0)
  unfolding faults
  form_good zero later b h = (tt, rw mul-zero h)
  form_good (suc c) later b h =
      let p = first_none (record_fault due n b) (faults n (replicate c due ++ later) (drop (length_of (kind_of due)) b)) h in
      let r = form_good c later (drop width b) (rw F.width_is at p.1) in
      let q : width + width * c ≡ width * suc c = omega arith in
      ((F.good b p.0, r.0), rw (drop-drop, q) at r.1)

  pub form_long : (c : ℕ) (b : List ℕ) → EachRecord width G c b → width * c ≤ length b
  form_long zero b r = omega arith
  form_long (suc c) b r = omega (arith, F.long b r.0, rw length-drop at (form_long c (drop width b) r.1))

  pub form_legal : (c : ℕ) (b : List ℕ) → EachRecord width G c b → Every P (records width f c b)
  unfolding records
  form_legal zero b r = tt
  form_legal (suc c) b r = (F.legal b r.0, form_legal c (drop width b) r.1)

  -- what they say, written, are their bytes
  pub form_bytes : (c : ℕ) (b : List ℕ) → Bytes b → EachRecord width G c b → flat_map write (records width f c b) ≡ take (width * c) b
  unfolding records flat_map
  form_bytes zero b h r = rw mul-zero
  form_bytes (suc c) b h r =
      let q : width + width * c ≡ width * suc c = omega arith in
      rw (F.rewrites b h r.0, form_bytes c (drop width b) (bytes_drop width b h) r.1) (sym (take-add width (width * c) b) ∙ rw q)

  -- written records have no fault, read as what was written, and then comes what stands behind them
  pub written_faults : (xs : List A) (later rest : List ℕ) → Every P xs
      → faults n (replicate (length xs) due ++ later) (flat_map write xs ++ rest) ≡ faults n later rest
  unfolding faults flat_map
  written_faults [] later rest h = refl
  written_faults (x ∷ xs) later rest h =
      let tail = flat_map write xs ++ rest in
      rw (append_assoc (write x) (flat_map write xs) rest, F.clear x tail h.0, F.width_is, F.behind x tail) (written_faults xs later rest h.1)

  pub written_records : (xs : List A) (rest : List ℕ) → Every P xs → records width f (length xs) (flat_map write xs ++ rest) ≡ xs
  unfolding records flat_map
  written_records [] rest h = refl
  written_records (x ∷ xs) rest h =
      let tail = flat_map write xs ++ rest in
      rw (append_assoc (write x) (flat_map write xs) rest, F.reads x tail h.0, F.behind x tail)
      (ap (λ (l : List A). x ∷ l) (written_records xs rest h.1))

  pub written_behind : (xs : List A) (rest : List ℕ) → drop (width * length xs) (flat_map write xs ++ rest) ≡ rest
  unfolding flat_map
  written_behind [] rest = rw mul-zero
  written_behind (x ∷ xs) rest =
      let tail = flat_map write xs ++ rest in
      let q : width * suc (length xs) ≡ width + width * length xs = omega arith in
      rw (q, ← drop-drop (width * length xs) width (write x ++ flat_map write xs ++ rest), append_assoc (write x) (flat_map write xs) rest, F.behind x tail)
      (written_behind xs rest)

  pub written_length : (xs : List A) → length (flat_map write xs) ≡ width * length xs
  unfolding flat_map
  written_length [] = rw mul-zero
  written_length (x ∷ xs) = rw length-append (omega (arith, F.long_written x, written_length xs))

-- the bytes of a record are those that its numbers give
pub record_bytes : (b : List ℕ) → Bytes b → {l k : ℕ} (c : List ℕ) → length_field b ≡ l → kind_field b ≡ k → 4 ≤ length b
    → record_of l k c ≡ take 4 b ++ c
record_bytes b h c el ek g =
    rw (← el, ← ek, le_field 2 0 b h (omega arith), le_field 2 2 b h (omega arith))
    (sym (append_assoc (take 2 b) (take 2 (drop 2 b)) c) ∙ ap (λ (x : List ℕ). x ++ c) (take_join 0 2 2 b))

-- ---- objects

object_bytes : (b : List ℕ) → Bytes b → GoodObject b → object_record (size_field b) ≡ take 12 b
object_bytes b h g =
    let long = g.frame.long in
    record_bytes b h (le 8 (size_field b)) g.frame.length_is g.frame.kind_is (omega arith)
    ∙ rw (le_field 8 4 b h (omega arith)) (take_join 0 4 8 b)

module _ (x : ℕ) (rest : List ℕ) where
  object_size : x ≤ largest_size → size_field (object_record x ++ rest) ≡ x
  unfolding le
  object_size h = word_le 8 x rest (omega arith)

  object_good : x ≤ largest_size → GoodObject (object_record x ++ rest)
  unfolding le word
  object_good h =
      record { frame = record { long = omega arith; length_is = refl; kind_is = refl }; small = rw (object_size h) h }

  object_behind : drop 12 (object_record x ++ rest) ≡ rest
  unfolding le
  object_behind = refl

object_written : (x : ℕ) → length (object_record x) ≡ 12
unfolding le
object_written x = refl

pub object_form : (n : ℕ) → Form 12 size_field object_record (λ (x : ℕ). x ≤ largest_size) GoodObject object n
object_form n =
    record {
      width_is = refl;
      good = λ b. good_object_record n b;
      long = λ b g. g.frame.long;
      legal = λ b g. g.small;
      rewrites = object_bytes;
      clear = λ x rest h. clear_object n (object_record x ++ rest) (object_good x rest h);
      reads = object_size;
      behind = object_behind;
      long_written = object_written;
    }

-- ---- references and subjects

-- by its kind, what it says is written as its bytes
pair_bytes : (b : List ℕ) → Bytes b → (k : ℕ) → length_field b ≡ 12 → kind_field b ≡ k → 12 ≤ length b → pair_record k (pair_field b) ≡ take 12 b
pair_bytes b h k el ek long =
    record_bytes b h (le 4 (pair_field b).from ++ le 4 (pair_field b).to) el ek (omega arith)
    ∙ rw (le_field 4 4 b h (omega arith), le_field 4 8 b h (omega arith), take_join 4 4 4 b) (take_join 0 4 8 b)

link_bytes : {n : ℕ} (b : List ℕ) → Bytes b → GoodLink n b → link_record (link_field b) ≡ take 12 b
link_bytes b h g =
    ⊎_elim (λ f. rw f.kind_is (pair_bytes b h reference f.length_is f.kind_is f.long))
    (λ f. rw f.kind_is (pair_bytes b h subject f.length_is f.kind_is f.long)) g.frame

link_behind : (x : Link) (rest : List ℕ) → drop 12 (link_record x ++ rest) ≡ rest
unfolding le
link_behind (refers p) rest = refl
link_behind (names p) rest = refl

link_written : (x : Link) → length (link_record x) ≡ 12
unfolding le
link_written (refers p) = refl
link_written (names p) = refl

-- the two ends the other way round
exchanged : {n : ℕ} (p : Pair) → Ends n (stored (names p)) → Ends n p
exchanged p e = record { from_below = e.to_below; to_below = e.from_below }

pair_read : {n : ℕ} → n ≤ most_objects → (k : ℕ) (p : Pair) (rest : List ℕ) → Ends n p → pair_field (pair_record k p ++ rest) ≡ p
unfolding le
pair_read few k p rest e =
    rw (word_le 4 p.from (le 4 p.to ++ rest) (omega (arith, e.from_below)), word_le 4 p.to rest (omega (arith, e.to_below)))

module _ {n : ℕ} (few : n ≤ most_objects) where
  link_read : (x : Link) (rest : List ℕ) → Ends n (stored x) → link_field (link_record x ++ rest) ≡ x
  unfolding le word
  link_read (refers p) rest e = ap refers (pair_read few reference p rest e)
  link_read (names p) rest e = ap names (pair_read few subject p rest (exchanged p e))

  link_good : (x : Link) (rest : List ℕ) → Ends n (stored x) → GoodLink n (link_record x ++ rest)
  unfolding le word
  link_good (refers p) rest e =
      record {
        frame = inl (record { long = omega arith; length_is = refl; kind_is = refl });
        ends = rw (pair_read few reference p rest e) e;
      }
  link_good (names p) rest e =
      record {
        frame = inr (record { long = omega arith; length_is = refl; kind_is = refl });
        ends = rw (pair_read few subject p rest (exchanged p e)) (exchanged p e);
      }

-- the ends of what is stored
link_legal : {n : ℕ} (b : List ℕ) → GoodLink n b → Ends n (stored (link_field b))
link_legal b g =
    ⊎_elim (λ f. rw f.kind_is g.ends) (λ f. rw f.kind_is (exchanged (stored (names (pair_field b))) g.ends)) g.frame

pub link_form : {n : ℕ} → n ≤ most_objects → Form 12 link_field link_record (λ (x : Link). Ends n (stored x)) (GoodLink n) reference n
link_form {n} few =
    record {
      width_is = refl;
      good = λ b. good_link_record n b;
      long = λ b g. link_long g;
      legal = link_legal;
      rewrites = link_bytes;
      clear = λ x rest e. clear_link n (link_record x ++ rest) (link_good few x rest e);
      reads = λ x rest e. link_read few x rest e;
      behind = link_behind;
      long_written = link_written;
    }

-- ---- leases

lease_bytes : {n : ℕ} (b : List ℕ) → Bytes b → GoodLease n b → lease_record (lease_field b) ≡ take 8 b
lease_bytes b h g =
    let long = g.frame.long in
    record_bytes b h (le 4 (lease_field b)) g.frame.length_is g.frame.kind_is (omega arith)
    ∙ rw (le_field 4 4 b h (omega arith)) (take_join 0 4 4 b)

lease_behind : (x : ℕ) (rest : List ℕ) → drop 8 (lease_record x ++ rest) ≡ rest
unfolding le
lease_behind x rest = refl

lease_written : (x : ℕ) → length (lease_record x) ≡ 8
unfolding le
lease_written x = refl

module _ {n : ℕ} (few : n ≤ most_objects) (x : ℕ) (rest : List ℕ) (h : x < n) where
  lease_object : lease_field (lease_record x ++ rest) ≡ x
  unfolding le
  lease_object = word_le 4 x rest (omega arith)

  lease_good : GoodLease n (lease_record x ++ rest)
  unfolding le word
  lease_good =
      record { frame = record { long = omega arith; length_is = refl; kind_is = refl }; below = rw lease_object h }

pub lease_form : {n : ℕ} → n ≤ most_objects → Form 8 lease_field lease_record (λ (x : ℕ). x < n) (GoodLease n) lease n
lease_form {n} few =
    record {
      width_is = refl;
      good = λ b. good_lease_record n b;
      long = λ b g. g.frame.long;
      legal = λ b g. g.below;
      rewrites = lease_bytes;
      clear = λ x rest h. clear_lease n (lease_record x ++ rest) (lease_good few x rest h);
      reads = λ x rest h. lease_object few x rest h;
      behind = lease_behind;
      long_written = lease_written;
    }
