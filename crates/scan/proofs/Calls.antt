-- What the two calls answer at each exit, and what is known once no check fails.
use Rattle.std.proofs.Common.{◌≡◌, ℕ, zero, suc, ◌+◌, ◌-◌, ◌<◌, Bool, true, ltb, eqb, List, [], ◌∷◌, length, get_or, replicate, refl, ap, sym, ◌∙◌, arith, ltb-true, eqb-true, Result, Ok, Err}
use Rattle.std.specs.declared.cmp.Ordering.{Ordering}
use Rattle.std.specs.declared.cmp.Ordering.TheVariants.{Less, Equal, Greater}
use Rattle.std.specs.Ordering.{is_lt}
use Rattle.std.proofs.lemmas.Cmp.{nat_list_cmp_total}
use Rattle.laws.specs.Test.{all}
use Rattle.laws.proofs.Test.{both_true, up_to_each}
use Rattle.graph.specs.Graph.{all_below}
use Rattle.refusal.specs.declared.Refusal.{Refusal}
use Rattle.refusal.specs.Number.{number, number_of}
use Rattle.refusal.proofs.Numbers.{first_found}
use Rattle.desk.specs.Kept.{unless_refused}
use Rattle.desk.proofs.Kept.{kept}
use Rattle.names.specs.Names.{Names, count, name_at, is_digit, order, ascends, ascending}
use Rattle.names.specs.Call.{Texts, from, to, work_word_count, blank, fault, scan_fault, from_after, to_after}
use Rattle.names.proofs.Checks.{Sound}
use Rattle.lookup.specs.Index.{Indexed}
use Rattle.lookup.specs.Search.{Ascends}
use Rattle.scan.specs.Passing.{Ready, Filled}

-- ---- names that pass check 19

below_is : (o : Ordering) → is_lt o ≡ true → o ≡ Less
below_is Less e = refl
below_is Equal e = cc
below_is Greater e = cc

module _ (N : Names) (h : ascending N ≡ true) where
  next_below : (i : ℕ) → suc i < count N → order (name_at N i) (name_at N (suc i)) ≡ Less
  unfolding ascends
  next_below i l = below_is _ (up_to_each (λ (i : ℕ). is_lt (order (name_at N i) (name_at N (suc i)))) (count N - 1) h i (omega arith))

  later_below : (i d : ℕ) → i + suc d < count N → order (name_at N i) (name_at N (i + suc d)) ≡ Less
  later_below i zero l = let e : i + 1 ≡ suc i = omega arith in rw e (next_below i (omega arith))
  later_below i (suc d) l =
      let e : i + suc (suc d) ≡ suc (i + suc d) = omega arith in
      rw e
      (nat_list_cmp_total.trans (name_at N i) (name_at N (i + suc d)) (name_at N (suc (i + suc d)))
      (later_below i d (omega arith)) (next_below (i + suc d) (omega arith)))

  -- each name is below every later one
  ascending_all : Ascends N.bytes N.width (count N)
  ascending_all i j l g = let e : i + suc (j - suc i) ≡ j = omega arith in rw e at (later_below i (j - suc i) (omega arith))

digits_at_lem : (l : List ℕ) → all is_digit l ≡ true → (i : ℕ) → i < length l → is_digit (get_or l i 0) ≡ true
unfolding all
digits_at_lem [] h i g = absurd (omega arith)
digits_at_lem (b ∷ l) h zero g = (both_true (is_digit b) (all is_digit l) h).0
digits_at_lem (b ∷ l) h (suc i) g = digits_at_lem l (both_true (is_digit b) (all is_digit l) h).1 i (omega arith)

-- ---- no check fails

pub ready : {N : Names} {T : Texts} → Sound N T → {index : List ℕ} → Indexed N.bytes N.width (count N) index → Ready N index
ready {N} s x =
    record {
      some = s.some;
      long = s.long;
      ascends = ascending_all N s.ascends;
      digits = digits_at_lem N.bytes s.digits;
      indexed = x;
    }

-- ---- the work

none_below : (l : List ℕ) → all_below 1 l ≡ true → l ≡ replicate (length l) 0
unfolding all_below
none_below [] h = refl
none_below (x ∷ l) h =
    let t = both_true (ltb x 1) (all_below 1 l) h in
    let e : x ≡ 0 = omega (arith, ltb-true x 1 t.0) in
    rw (e, ← none_below l t.1)

module _ (work : List ℕ) (b : blank work ≡ true) where
  pub work_long : length work ≡ work_word_count
  work_long = eqb-true (length work) work_word_count (both_true (eqb (length work) work_word_count) (all_below 1 work) b).0

  -- cleared, the words are what they were
  pub work_again : {l : ℕ} → l ≡ work_word_count → {work' : List ℕ} → work' ≡ replicate l 0 → work' ≡ work
  work_again h e =
      e ∙ ap (λ (k : ℕ). replicate k 0) (h ∙ sym work_long) ∙ sym (none_below work (both_true (eqb (length work) work_word_count) (all_below 1 work) b).1)

-- ---- the lists

module _ (n : ℕ) (N : Names) (T : Texts) (ready : Bool) (fs ts : List ℕ) where
  -- what is answered, and the lists afterwards
  abbrev pub Answers : Result (Unit {0}) Refusal → List ℕ → List ℕ → Type 0
  Answers r fs' ts' =
      (number_of r ≡ scan_fault n N T ready (length fs) (length ts)) × (fs' ≡ from_after n N T ready fs ts) × (ts' ≡ to_after n N T ready fs ts)

  -- by the number of the fault
  by_number : (r : Result (Unit {0}) Refusal) {k : ℕ} {fs' ts' : List ℕ} → number_of r ≡ k → k ≡ scan_fault n N T ready (length fs) (length ts)
      → fs' ≡ unless_refused k (from N T) fs → ts' ≡ unless_refused k (to N T) ts → Answers r fs' ts'
  by_number r h e f t =
      (h ∙ e, f ∙ ap (λ (k : ℕ). unless_refused k (from N T) fs) e, t ∙ ap (λ (k : ℕ). unless_refused k (to N T) ts) e)

  -- a check fails
  pub refused : (r : Refusal) → number r ≡ fault n N T ready → Answers (Err r) fs ts
  unfolding scan_fault
  refused r e = by_number (Err r) refl (first_found r (fault n N T ready) _ e) (kept r (from N T) fs) (kept r (to N T) ts)

  -- none does
  pub filled : (r : Result (Unit {0}) Refusal) {fs' ts' : List ℕ} → fault n N T ready ≡ 0 → Filled N T fs ts fs' ts' r → Answers r fs' ts'
  unfolding scan_fault
  filled (Ok x) z f = by_number (Ok x) refl (rw (z, f.0)) f.1.sources f.1.targets
  filled (Err r) z f = by_number (Err r) (ap number f.1) (rw (z, f.0)) f.2 f.3
