-- The checks record by record: what is left to check, and what the checks answer.
use mathlib.Core.Path.{◌≡◌, refl, ap, sym, ◌∙◌}
use mathlib.Core.List.{List}
use mathlib.Core.Logic.{by_cases, ◌⊎◌, inl, inr, ⊎_elim}
use mathlib.Core.Bool.{Bool, true, ◌||◌}
use Prim.Native.Nat.{ℕ, zero, suc, ◌+◌, ◌*◌, ◌-◌, ◌≤◌, ◌<◌}
use native.Mathlib.Numerals.{add-one}
use native.Mathlib.Decide.{dec_lt, ℕ_discrete}
use native.Mathlib.Omega.{arith}
use borrow.Author.Tests.{lt-ltb, le-ltb, ne_eqb, eqb-true}
use lib.Dec.{eqb}
use lib.ListN.{length, drop, get_or, replicate, length-append, length-drop, length-replicate, get_or-replicate, get_or-append, drop_of_length-le}
use lib.Seq.{drop-drop, drop-cons, get_or-append-add}
use Rattle.laws.specs.Words.{word, Bytes}
use Rattle.laws.proofs.Words.{word_two, word_double, bytes_drop}
use Rattle.refusal.specs.declared.Refusal.{Refusal}
use Rattle.refusal.specs.Number.{number}
use Rattle.refusal.specs.Order.{raise, first}
use Rattle.refusal.proofs.Numbers.{numbered, first_found}
use Rattle.graph.specs.Limits.{largest_size}
use Rattle.records.specs.Layout.{header, object, reference, subject}
use Rattle.records.specs.Reading.{Kind, header_kind, object_kind, reference_kind, lease_kind, subject_kind, unknown, kind_of, length_of, dues, due_at, leases_at}
use Rattle.records.specs.Reading.{kind_field, n_field, m_field, short, contents_fault, record_fault, lease_faults, faults, Clear, catalogue_fault}
use Rattle.records.specs.Store.{most_leases}
use Rattle.catalogue.specs.Answer.{refusal_row, header_values}
use Rattle.records.specs.Fill.{Listed}
use Rattle.catalogue.proofs.Faults.{Framed, good_object_record, good_link_record, link_long, clear_object, clear_link}

-- the fault of a header does not depend on n
header_kinds : (k : Kind) (n n' : ℕ) (b : List ℕ) → contents_fault k header n b ≡ contents_fault k header n' b
header_kinds header_kind n n' b = refl
header_kinds object_kind n n' b = refl
header_kinds reference_kind n n' b = refl
header_kinds lease_kind n n' b = refl
header_kinds subject_kind n n' b = refl
header_kinds unknown n n' b = refl

pub header_any : (n n' : ℕ) (b : List ℕ) → record_fault header n b ≡ record_fault header n' b
unfolding record_fault
header_any n n' b = ap (raise (short b) 1) (header_kinds (kind_of (kind_field b)) n n' b)

-- a header with a fault is refused by its number
pub header_refused : (f : Refusal) (k : ℕ) (b : List ℕ) → number f ≡ k → refusal_row (number f) ≡ header_values k b
header_refused f zero b h = absurd (omega (arith, h, numbered f))
header_refused f (suc k) b h = ap refusal_row h

-- which kind is due
dues_at : (n m i : ℕ) → i < n + m → get_or (dues n m) i 0 ≡ due_at n i
dues_at n m i h =
    by_cases (dec_lt i n)
    (λ (g : i < n).
    rw (lt-ltb i n g, get_or-append (replicate n object) (replicate m reference) 0 i (omega (arith, length-replicate {A = ℕ} n object)))
    (get_or-replicate n i object 0 g))
    (λ g.
    let e : i ≡ length (replicate {A = ℕ} n object) + (i - n) = omega (arith, g, length-replicate {A = ℕ} n object) in
    rw (le-ltb i n (omega (arith, g)))
    (ap (λ (j : ℕ). get_or (dues n m) j 0) e
    ∙ get_or-append-add (replicate n object) (replicate m reference) (i - n) 0 ∙ get_or-replicate m (i - n) reference 0 (omega (arith, g))))

due_either : (P : ℕ → Type 0) (n i : ℕ) → P object → P reference → P (due_at n i)
due_either P n i p q = by_cases (dec_lt i n) (λ (g : i < n). rw (lt-ltb i n g) p) (λ g. rw (le-ltb i n (omega (arith, g))) q)

due_long : (n i : ℕ) (b : List ℕ) → record_fault (due_at n i) n b ≡ 0 → 12 ≤ length b
due_long n i b =
    due_either (λ (d : ℕ). record_fault d n b ≡ 0 → 12 ≤ length b) n i (λ h. (good_object_record n b h).frame.long)
    (λ h. link_long (good_link_record n b h))

length_dues : (n m : ℕ) → length (dues n m) ≡ n + m
length_dues n m = rw (length-append, length-replicate, length-replicate)

-- the loop over the records after the header: i of them have no fault
pub record Checking (n m : ℕ) (b : List ℕ) (i at : ℕ) : Type 0 where
  pub within : i ≤ n + m
  pub place : at ≡ 16 + 12 * i
  pub there : at ≤ length b
  pub left : faults n (drop i (dues n m)) (drop at b) ≡ faults n (dues n m) (drop 16 b)

pub checking_none : (n m : ℕ) (b : List ℕ) → 16 ≤ length b → Checking n m b 0 16
checking_none n m b h = record { within = omega arith; place = refl; there = h; left = refl }

module _ {n m : ℕ} {b : List ℕ} {i at : ℕ} (a : Checking n m b i at) (h : i < n + m) where
  step : faults n (drop i (dues n m)) (drop at b)
      ≡ first (record_fault (due_at n i) n (drop at b)) (faults n (drop (suc i) (dues n m)) (drop (at + 12) b))
  unfolding faults
  step =
      rw (
        drop-cons (dues n m) i 0 (omega (arith, length_dues n m)),
        dues_at n m i h,
        due_either (λ (d : ℕ). length_of (kind_of d) ≡ 12) n i refl refl,
        drop-drop,
      )

  pub checking_fault : (f : Refusal) → number f ≡ record_fault (due_at n i) n (drop at b) → number f ≡ faults n (dues n m) (drop 16 b)
  checking_fault f e =
      first_found f (record_fault (due_at n i) n (drop at b)) (faults n (drop (suc i) (dues n m)) (drop (at + 12) b)) e ∙ sym step ∙ a.left

  pub checking_next : record_fault (due_at n i) n (drop at b) ≡ 0 → Checking n m b (i + 1) (at + 12)
  checking_next e =
      record {
        within = omega arith;
        place = omega (arith, a.place);
        there = omega (arith, a.there, rw length-drop at (due_long n i (drop at b) e));
        left = rw (add-one i) (sym (rw e at step) ∙ a.left);
      }

pub checking_end : {n m : ℕ} {b : List ℕ} {i at : ℕ} → Checking n m b i at → n + m ≤ i
    → lease_faults n most_leases (drop at b) ≡ faults n (dues n m) (drop 16 b)
unfolding faults
checking_end {n} {m} {b} {i} {at} a h = rw (drop_of_length-le (dues n m) {i = i} (omega (arith, length_dues n m))) at a.left

-- ---- the quick look

-- a record of the right form, by the word of its length and its kind
head_framed : (x : ℕ) (k : Kind) (b : List ℕ) → Bytes b → length_of k ≡ 12 → 12 ≤ length b → word 4 b ≡ 12 + 65536 * x → Framed x k b
head_framed x k b h e l w =
    let low = word_two 0 b in
    let both = word_double 2 0 b in
    record { long = omega arith; length_is = omega (arith, low, both, h 0, h 1); kind_is = omega (arith, low, both, h 0, h 1) }

-- an object, and a reference or a subject, by its place
module _ (n i : ℕ) (b : List ℕ) (h : Bytes b) (l : 16 + 12 * i + 12 ≤ length b) where
  framed_at : (x : ℕ) (k : Kind) → length_of k ≡ 12 → word 4 (drop (16 + 12 * i) b) ≡ 12 + 65536 * x → Framed x k (drop (16 + 12 * i) b)
  framed_at x k e w = head_framed x k (drop (16 + 12 * i) b) (bytes_drop (16 + 12 * i) b h) e (rw length-drop (omega arith)) w

  pub object_right : i < n → word 4 (drop (16 + 12 * i) b) ≡ 131084 → word 8 (drop (16 + 12 * i + 4) b) ≤ largest_size
      → record_fault (due_at n i) n (drop (16 + 12 * i) b) ≡ 0
  object_right g w s =
      rw (lt-ltb i n g)
      (clear_object n (drop (16 + 12 * i) b) (record { frame = framed_at object object_kind refl w; small = rw drop-drop s }))

  pub link_right : n ≤ i → (word 4 (drop (16 + 12 * i) b) ≡ 196620) ⊎ (word 4 (drop (16 + 12 * i) b) ≡ 327692)
      → word 4 (drop (16 + 12 * i + 4) b) < n → word 4 (drop (16 + 12 * i + 8) b) < n
      → record_fault (due_at n i) n (drop (16 + 12 * i) b) ≡ 0
  link_right g w f t =
      rw (le-ltb i n g)
      (clear_link n (drop (16 + 12 * i) b)
      (record {
        frame = ⊎_elim (λ e. inl (framed_at reference reference_kind refl e)) (λ e. inr (framed_at subject subject_kind refl e)) w;
        ends = record { from_below = rw drop-drop f; to_below = rw drop-drop t };
      }))

-- the head of a reference or of a subject
pub link_head : (x : ℕ) → (eqb x 196620 || eqb x 327692) ≡ true → (x ≡ 196620) ⊎ (x ≡ 327692)
link_head x e =
    by_cases (ℕ_discrete x 196620) (λ h. inl h)
    (λ h. let n = rw (ne_eqb x 196620 h) at e in inr (eqb-true x 327692 n))

-- from one number up to another, where i is the next: as long as all tests were passed no record has a fault
pub record Looking (n from to : ℕ) (b : List ℕ) (right : Bool) (i : ℕ) : Type 0 where
  pub begun : from ≤ i
  pub within : i ≤ to
  pub clear : right ≡ true → Clear n from i b

pub looking_none : (n from to : ℕ) (b : List ℕ) → from ≤ to → Looking n from to b true from
looking_none n from to b h = record { begun = omega arith; within = h; clear = λ e k g p. absurd (omega arith) }

module _ {n from to : ℕ} {b : List ℕ} {right : Bool} {i : ℕ} (a : Looking n from to b right i) where
  pub looking_next : i < to → {after : Bool} → (after ≡ true → (right ≡ true) × (record_fault (due_at n i) n (drop (16 + 12 * i) b) ≡ 0))
      → Looking n from to b after (i + 1)
  looking_next h f =
      record {
        begun = omega (arith, a.begun);
        within = omega arith;
        clear = λ e k g p.
            by_cases (ℕ_discrete k i) (λ (q : k ≡ i). rw q (f e).1) (λ q. a.clear (f e).0 k g (omega (arith, q)));
      }

-- all of them
clear_checking : (n m : ℕ) (b : List ℕ) → 16 ≤ length b → (i : ℕ) → i ≤ n + m → Clear n 0 i b → Checking n m b i (16 + 12 * i)
clear_checking n m b l zero h c = checking_none n m b l
clear_checking n m b l (suc i) h c =
    let a = clear_checking n m b l i (omega arith) (λ k g p. c k g (omega arith)) in
    let q : 16 + 12 * i + 12 ≡ 16 + 12 * suc i = omega arith in
    rw (add-one, q) at (checking_next a (omega arith) (c i (omega arith) (omega arith)))

pub clear_listed : (n m : ℕ) (b : List ℕ) → 16 + 12 * (n + m) ≤ length b → Clear n 0 n b → Clear n n (n + m) b → Listed n m b
clear_listed n m b l o r =
    let whole : Clear n 0 (n + m) b = λ k g h. by_cases (dec_lt k n) (λ (p : k < n). o k g p) (λ p. r k (omega (arith, p)) h) in
    let q : 16 + 12 * (n + m) ≡ leases_at n m = omega arith in
    record {
      there = omega arith;
      left = sym (rw q at (checking_end (clear_checking n m b (omega arith) (n + m) (omega arith) whole) (omega arith)));
    }

-- the header first, and then the rest
pub whole_fault : (f : Refusal) (b : List ℕ) → number f ≡ record_fault header 0 b → number f ≡ catalogue_fault b
unfolding catalogue_fault faults
whole_fault f b h =
    first_found f (record_fault header (n_field b) b) (faults (n_field b) (dues (n_field b) (m_field b)) (drop 16 b))
    (h ∙ header_any 0 (n_field b) b)

pub whole_rest : (b : List ℕ) → record_fault header 0 b ≡ 0 → {n m : ℕ} → n ≡ n_field b → m ≡ m_field b
    → faults n (dues n m) (drop 16 b) ≡ catalogue_fault b
unfolding catalogue_fault faults
whole_rest b h en em = rw (en, em, header_any (n_field b) 0 b ∙ h)
