-- The checks of a text in their order, and what import and the call for the counts answer at each exit.
use mathlib.Core.Path.{◌≡◌, refl, ap, sym, ◌∙◌}
use mathlib.Core.Bool.{Bool, true, false, not}
use mathlib.Core.List.{List, [], ◌∷◌, map}
use Prim.Native.Nat.{ℕ, suc, ◌+◌}
use lib.Dec.{leb, ltb}
use lib.ListN.{length, drop, replicate, length-replicate, length-map}
use native.Mathlib.Omega.{arith}
use borrow.Author.Tests.{eq-eqb, ne_eqb, leb-true, ltb-true, not-false}
use Rattle.laws.specs.Every.{Every}
use Rattle.laws.specs.Grouping.{grouped, starts}
use Rattle.laws.specs.Test.{all}
use Rattle.laws.proofs.Test.{both_true}
use Rattle.refusal.proofs.None.{raise_none}
use Rattle.graph.proofs.Formed.{well_formed_lem}
use Rattle.graph.proofs.Grouped.{grouped_graph, Inside, grouped_formed}
use Rattle.records.specs.Store.{Pair, refers, stored, objects, references, pairs as store_pairs}
use Rattle.records.specs.Reading.{Reading, judged}
use Rattle.catalogue.specs.Answer.{refusal_row, offsets_after, targets_after, sizes_after}
use Rattle.records.specs.Fill.{from_of, to_of}
use Rattle.desk.specs.Checks.{counts_outside}
use Rattle.matrix.specs.Reading.{is_head, is_text, are_lines, pairs_in, rows, entries, lines_in, pairs}
use Rattle.matrix.specs.Import.{from_zero, store_of, within, is_inside, inside, fault, head_fault, head_row, misfits, lent_to, lent, taken, answer_of, Imports}
use Rattle.matrix.specs.Steps.{HeadOf, BodyAt}
use Rattle.matrix.proofs.Filling.{length_pairs}

-- ---- the call for the counts

pub header_text : (text : List ℕ) → is_head text ≡ false → refusal_row 18 ≡ head_row text
unfolding head_fault
header_text text e = rw e

module _ {text : List ℕ} {n m next : ℕ} (a : HeadOf text n m next) where
  counts_are : {t : Bool} → counts_outside n m ≡ t → counts_outside (rows text) (entries text) ≡ t
  counts_are o = rw (← a.rows_is, ← a.entries_is) o

  pub header_counts : counts_outside n m ≡ true → refusal_row 4 ≡ head_row text
  unfolding head_fault
  header_counts o = rw (a.good, counts_are o)

  pub header_read : counts_outside n m ≡ false → record { refusal = 0; n = n; m = m; index = 0 } ≡ head_row text
  unfolding head_fault
  header_read o = rw (a.good, counts_are o, ← a.rows_is, ← a.entries_is)

-- ---- import

pub fault_head : (text : List ℕ) → is_head text ≡ false → fault text ≡ 18
unfolding fault is_text
fault_head text e = rw e

module _ {text : List ℕ} {n m next : ℕ} (a : HeadOf text n m next) where
  lines_are : are_lines (entries text) (lines_in text) ≡ are_lines m (drop next text)
  lines_are = ap (λ (k : ℕ). are_lines k (lines_in text)) (sym a.entries_is) ∙ ap (are_lines m) (sym a.next_is)

  pub fault_lines : are_lines m (drop next text) ≡ false → fault text ≡ 18
  unfolding fault is_text
  fault_lines r = rw (a.good, lines_are ∙ r)

  module _ {fits : Bool} (b : BodyAt text next n m fits) where
    its_text : is_text text ≡ true
    unfolding is_text
    its_text = rw a.good (lines_are ∙ b.good)

    pub fault_counts : counts_outside n m ≡ true → fault text ≡ 4
    unfolding fault
    fault_counts o = rw (its_text, counts_are a o)

    pub pairs_are : pairs text ≡ pairs_in m (drop next text)
    unfolding pairs
    pairs_are = ap (λ (k : ℕ). pairs_in k (lines_in text)) (sym a.entries_is) ∙ ap (pairs_in m) (sym a.next_is)

    its_objects : inside (rows text) (pairs text) ≡ fits
    its_objects = ap (λ (k : ℕ). inside k (pairs text)) (sym a.rows_is) ∙ ap (inside n) pairs_are ∙ sym b.fits_is

    module _ (o : counts_outside n m ≡ false) where
      pub fault_objects : fits ≡ false → fault text ≡ 5
      unfolding fault
      fault_objects f = rw (its_text, counts_are a o, its_objects ∙ f)

      pub fault_none : fits ≡ true → fault text ≡ 0
      unfolding fault
      fault_none f = rw (its_text, counts_are a o, its_objects ∙ f)

-- ---- the store of a text

pub store_objects : (text : List ℕ) → objects (store_of text) ≡ rows text
store_objects text = length-replicate (rows text) 0

store_references : (text : List ℕ) → references (store_of text) ≡ entries text
unfolding pairs
store_references text = length-map (pairs text) _ ∙ length_pairs (entries text) (lines_in text)

pub same_pairs : (ps : List Pair) → map stored (map (λ (p : Pair). refers (from_zero p)) ps) ≡ map from_zero ps
same_pairs [] = refl
same_pairs (p ∷ ps) = ap (λ (l : List Pair). from_zero p ∷ l) (same_pairs ps)

-- the pairs of a text without a fault lead from objects to objects
pairs_inside : (n : ℕ) (ps : List Pair) → inside n ps ≡ true → Every (Inside from_of to_of n) (map from_zero ps)
unfolding inside all
pairs_inside n [] h = tt
pairs_inside n (p ∷ ps) h =
    let t = both_true (is_inside n p) (inside n ps) h in
    let q = both_true (within n p.from) (within n p.to) t.0 in
    let a = both_true (ltb 0 p.from) (leb p.from n) q.0 in
    let b = both_true (ltb 0 p.to) (leb p.to n) q.1 in (
      (
        omega (arith, ltb-true 0 p.from a.0, leb-true p.from n a.1),
        omega (arith, ltb-true 0 p.to b.0, leb-true p.to n b.1),
      ),
      pairs_inside n ps t.1,
    )

-- ---- the answers of import

module _ (text os ts ss : List ℕ) where
  text_inside : fault text ≡ 0 → Every (Inside from_of to_of (rows text)) (map from_zero (pairs text))
  unfolding fault
  text_inside e =
      let a = raise_none (not (is_text text)) 17 _ e in
      let b = raise_none (counts_outside (rows text) (entries text)) 3 _ a.1 in
      pairs_inside (rows text) (pairs text) (not-false _ (raise_none (not (inside (rows text) (pairs text))) 4 0 b.1).0)

  pub imports_refused : {k : ℕ} → fault text ≡ suc k → Imports text os ts ss (refusal_row (suc k)) os ts ss
  imports_refused e =
      let t = ap (λ (j : ℕ). lent (judged j (store_of text)) (length os) (length ts) (length ss)) e in
      record {
        returned = sym (ap answer_of t);
        offsets_are = sym (ap (λ (r : Reading). offsets_after r os) t);
        targets_are = sym (ap (λ (r : Reading). targets_after r ts) t);
        sizes_are = sym (ap (λ (r : Reading). sizes_after r ss) t);
        passes = λ z. absurd (omega (arith, z));
      }

  module _ (none : fault text ≡ 0) {n m : ℕ} (n_is : n ≡ rows text) (m_is : m ≡ entries text) {wrong : Bool}
      (lengths : misfits n m (length os) (length ts) (length ss) ≡ wrong) where
    taken_is : taken text os ts ss ≡ lent_to wrong (store_of text)
    taken_is =
        ap (λ (j : ℕ). lent (judged j (store_of text)) (length os) (length ts) (length ss)) none
        ∙ ap (λ (j : ℕ). lent_to (misfits j (references (store_of text)) (length os) (length ts) (length ss)) (store_of text)) (store_objects text ∙ sym n_is)
        ∙ ap (λ (j : ℕ). lent_to (misfits n j (length os) (length ts) (length ss)) (store_of text)) (store_references text ∙ sym m_is)
        ∙ ap (λ (b : Bool). lent_to b (store_of text)) lengths

    pub imports_unfit : wrong ≡ true → Imports text os ts ss (refusal_row 7) os ts ss
    imports_unfit w =
        let t = taken_is ∙ ap (λ (b : Bool). lent_to b (store_of text)) w in
        record {
          returned = sym (ap answer_of t);
          offsets_are = sym (ap (λ (r : Reading). offsets_after r os) t);
          targets_are = sym (ap (λ (r : Reading). targets_after r ts) t);
          sizes_are = sym (ap (λ (r : Reading). sizes_after r ss) t);
          passes = λ z. absurd (omega (arith, z));
        }

    pub imports_filled : wrong ≡ false → {ps : List Pair} → map from_zero (pairs text) ≡ ps → {os' ts' ss' : List ℕ} → os' ≡ starts from_of n ps
        → ts' ≡ map to_of (grouped from_of n ps) → ss' ≡ replicate n 0 → Imports text os ts ss (record { refusal = 0; n = n; m = m; index = 0 }) os' ts' ss'
    imports_filled w {ps} p o g z =
        let t = taken_is ∙ ap (λ (b : Bool). lent_to b (store_of text)) w in
        let k : n ≡ objects (store_of text) = n_is ∙ sym (store_objects text) in
        let q : ps ≡ store_pairs (store_of text) = sym p ∙ sym (same_pairs (pairs text)) in
        record {
          returned =
              ap (λ (j : ℕ). record { refusal = 0; n = j; m = m; index = 0 }) k
              ∙ ap (λ (j : ℕ). record { refusal = 0; n = objects (store_of text); m = j; index = 0 }) (m_is ∙ sym (store_references text)) ∙ sym (ap answer_of t);
          offsets_are =
              o ∙ ap (λ (j : ℕ). starts from_of j ps) k ∙ ap (starts from_of (objects (store_of text))) q ∙ sym (ap (λ (r : Reading). offsets_after r os) t);
          targets_are =
              g ∙ ap (λ (j : ℕ). map to_of (grouped from_of j ps)) k ∙ ap (λ (l : List Pair). map to_of (grouped from_of (objects (store_of text)) l)) q
              ∙ sym (ap (λ (r : Reading). targets_after r ts) t);
          sizes_are = z ∙ ap (λ (j : ℕ). replicate j 0) n_is ∙ sym (ap (λ (r : Reading). sizes_after r ss) t);
          passes = λ e.
              rw (o, g) (well_formed_lem (grouped_graph from_of to_of n ps) (grouped_formed from_of to_of n ps (rw (n_is, ← p) (text_inside none))));
        }

-- the lent lengths
pub lengths_fit : (n m o t s : ℕ) → o ≡ n + 1 → t ≡ m → s ≡ n → misfits n m o t s ≡ false
lengths_fit n m o t s e f g = rw (eq-eqb o (n + 1) e, eq-eqb t m f, eq-eqb s n g)

pub offsets_unfit : (n m o t s : ℕ) → (o ≡ n + 1 → ⊥) → misfits n m o t s ≡ true
offsets_unfit n m o t s e = rw (ne_eqb o (n + 1) e)

pub targets_unfit : (n m o t s : ℕ) → o ≡ n + 1 → (t ≡ m → ⊥) → misfits n m o t s ≡ true
targets_unfit n m o t s e f = rw (eq-eqb o (n + 1) e, ne_eqb t m f)

pub sizes_unfit : (n m o t s : ℕ) → o ≡ n + 1 → t ≡ m → (s ≡ n → ⊥) → misfits n m o t s ≡ true
sizes_unfit n m o t s e f g = rw (eq-eqb o (n + 1) e, eq-eqb t m f, ne_eqb s n g)
