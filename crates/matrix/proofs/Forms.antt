-- The texts that pass the test are those of `Layout`, and are read as their files say.
use mathlib.Core.Path.{◌≡◌, refl, ap, sym, subst, ◌∙◌}
use mathlib.Core.Bool.{Bool, true, false, not}
use mathlib.Core.List.{List, [], ◌∷◌, ◌++◌, map, append_assoc}
use mathlib.Core.Logic.{◌≢◌, by_cases}
use native.Mathlib.Decide.{dec_lt}
use Prim.Native.Nat.{ℕ, zero, suc, ◌+◌, ◌≤◌, ◌<◌}
use native.Mathlib.Omega.{arith}
use lib.ListN.{length, get_or, drop, length-append, get_or-eq_default}
use lib.Seq.{drop-cons, drop-append-add, get_or-append_seam}
use lib.Dec.{leb, ltb, eqb}
use borrow.Author.Tests.{leb-true, lt-ltb, ltb-true, eq-eqb, ne_eqb, eqb-true, eqb-false}
use Rattle.laws.specs.Choice.{pick, both}
use Rattle.laws.specs.Blocks.{laid}
use Rattle.laws.specs.Every.{Every}
use Rattle.laws.proofs.Test.{both_true, both_is}
use Rattle.records.specs.Store.{Pair}
use Rattle.text.specs.Text.{line}
use Rattle.desk.specs.Checks.{counts_outside}
use Rattle.matrix.specs.Layout.{banner, space, feed, percent, Digit, Numeral, value, stopped, Written, pair_line, Numerals, percent_line, OneLine, File, text_of, Proper}
use Rattle.matrix.specs.Reading.{begins, skip, is_digit, digits, lead, number, stops, behind, is_line, line_behind, pair_of, are_lines, pairs_in, counts_in, rows, columns, entries, lines_in, is_head, is_text, pairs}
use Rattle.refusal.specs.Order.{raise}
use Rattle.records.specs.Store.{Store, objects, references}
use Rattle.records.specs.Reading.{judged}
use Rattle.catalogue.specs.Answer.{Row}
use Rattle.matrix.specs.Import.{fault, inside, store_of, misfits, lent_to, lent, answer_of, Imports}
use Rattle.matrix.specs.Promise.{values_of, Says, Accepts}
use Rattle.matrix.proofs.Fields.{never, digits_none, digits_one}

-- ---- a number and the byte behind it, both ways

digits_all : (k c : ℕ) (d rest : List ℕ) → Every Digit d → length d ≤ k → is_digit c ≡ false → digits k (d ++ (c ∷ rest)) ≡ d
digits_all k c [] rest h l e = digits_none k (c ∷ rest) e
digits_all zero c (b ∷ d) rest h l e = absurd (omega arith)
digits_all (suc k) c (b ∷ d) rest h l e =
    digits_one k b (d ++ (c ∷ rest)) h.0.low h.0.high ∙ ap (λ (s : List ℕ). b ∷ s) (digits_all k c d rest h.1 (omega arith) e)

-- what is read at a text that begins with a number and this byte
record Begun (d : List ℕ) (c : ℕ) (rest t : List ℕ) : Type 0 where
  pub stops_is : stops c t ≡ true
  pub number_is : number t ≡ value d
  pub behind_is : behind t ≡ rest

begun : {d : List ℕ} (c : ℕ) (rest : List ℕ) → Numeral d → is_digit c ≡ false → Begun d c rest (stopped d c ++ rest)
begun {d} c rest n e =
    let s : stopped d c ++ rest ≡ d ++ (c ∷ rest) = append_assoc d (c ∷ []) rest in
    let l : lead (d ++ (c ∷ rest)) ≡ d = digits_all 10 c d rest n.digits n.few e in
    let p : suc (length d) ≡ length d + 1 = omega arith in
    subst (Begun d c rest) (sym s)
    (record {
      stops_is = rw (l, get_or-append_seam d c rest 0, lt-ltb 0 (length d) n.some, eq-eqb c c refl);
      number_is = ap value l;
      behind_is = rw (l, p) (drop-append-add d (c ∷ rest) 1);
    })

-- the digits that a text begins with
digits_few : (k : ℕ) (t : List ℕ) → length (digits k t) ≤ k
unfolding digits
digits_few zero t = omega arith
digits_few (suc k) [] = omega arith
digits_few (suc k) (b ∷ t) = go (is_digit b) (digits_few k t)
  where
    go : (x : Bool) → length (digits k t) ≤ k → length (pick x (b ∷ digits k t) []) ≤ suc k
    go true h = omega arith
    go false h = omega arith

digits_are : (k : ℕ) (t : List ℕ) → Every Digit (digits k t)
unfolding digits
digits_are zero t = tt
digits_are (suc k) [] = tt
digits_are (suc k) (b ∷ t) = go (is_digit b) refl (digits_are k t)
  where
    go : (x : Bool) → is_digit b ≡ x → Every Digit (digits k t) → Every Digit (pick x (b ∷ digits k t) [])
    go true e h = let q = both_true (leb 48 b) (leb b 57) e in (record { low = leb-true 48 b q.0; high = leb-true b 57 q.1 }, h)
    go false e h = tt

digits_front : (k : ℕ) (t : List ℕ) → t ≡ digits k t ++ drop (length (digits k t)) t
unfolding digits
digits_front zero t = refl
digits_front (suc k) [] = refl
digits_front (suc k) (b ∷ t) = go (is_digit b) (digits_front k t)
  where
    go : (x : Bool) → t ≡ digits k t ++ drop (length (digits k t)) t
        → b ∷ t ≡ pick x (b ∷ digits k t) [] ++ drop (length (pick x (b ∷ digits k t) [])) (b ∷ t)
    go true e = ap (λ (s : List ℕ). b ∷ s) e
    go false e = refl

record Parted (c : ℕ) (t : List ℕ) : Type 0 where
  pub numeral : Numeral (lead t)
  pub text_is : t ≡ stopped (lead t) c ++ behind t

parted : (c : ℕ) (t : List ℕ) → 0 < c → stops c t ≡ true → Parted c t
parted c t p h =
    let q = both_true (ltb 0 (length (lead t))) (eqb (get_or t (length (lead t)) 0) c) h in
    let g : get_or t (length (lead t)) 0 ≡ c = eqb-true (get_or t (length (lead t)) 0) c q.1 in
    record {
      numeral = record { some = ltb-true 0 (length (lead t)) q.0; few = digits_few 10 t; digits = digits_are 10 t };
      text_is = digits_front 10 t ∙ ap (λ (s : List ℕ). lead t ++ s) (tail g) ∙ sym (append_assoc (lead t) (c ∷ []) (behind t));
    }
  where
    inside_text : get_or t (length (lead t)) 0 ≡ c → length (lead t) < length t
    inside_text g = by_cases (dec_lt (length (lead t)) (length t)) (λ z. z)
        (λ z. absurd (omega (arith, g, p, get_or-eq_default t 0 {n = length (lead t)} (omega (arith, z)))))

    tail : get_or t (length (lead t)) 0 ≡ c → drop (length (lead t)) t ≡ c ∷ behind t
    tail g = drop-cons t (length (lead t)) 0 (inside_text g) ∙ ap (λ (x : ℕ). x ∷ behind t) g

-- ---- the first line

begins_self : (ps t : List ℕ) → begins ps (ps ++ t) ≡ true
unfolding begins
begins_self [] t = refl
begins_self (p ∷ ps) t = rw (eq-eqb p p refl) (begins_self ps t)

begins_front : (ps t : List ℕ) → begins ps t ≡ true → t ≡ ps ++ drop (length ps) t
unfolding begins
begins_front [] t h = refl
begins_front (p ∷ ps) [] h = never h
begins_front (p ∷ ps) (b ∷ t) h =
    let q = both_true (eqb b p) (begins ps t) h in
    ap (λ (x : ℕ). x ∷ t) (eqb-true b p q.0) ∙ ap (λ (s : List ℕ). p ∷ s) (begins_front ps t q.1)

-- ---- lines that begin with %

skip_line : (r rest : List ℕ) → OneLine r → skip true (line r ++ rest) ≡ skip false rest
unfolding skip
skip_line [] rest h = refl
skip_line (b ∷ r) rest h = ap (λ (x : Bool). skip (not x) (line r ++ rest)) (ne_eqb b feed h.0) ∙ skip_line r rest h.1

skip_remarks : (rs : List (List ℕ)) (b : ℕ) (rest : List ℕ) → Every OneLine rs → b ≢ percent → skip false (laid percent_line rs ++ (b ∷ rest)) ≡ b ∷ rest
unfolding skip laid
skip_remarks [] b rest h e = rw (ne_eqb b percent e)
skip_remarks (r ∷ rs) b rest h e =
    ap (skip true) (append_assoc (line r) (laid percent_line rs) (b ∷ rest))
    ∙ skip_line r (laid percent_line rs ++ (b ∷ rest)) h.0 ∙ skip_remarks rs b rest h.1 e

-- the lines that were skipped: at the beginning of a line, and within one
record Remarks (t : List ℕ) : Type 0 where
  pub lines : List (List ℕ)
  pub one_lines : Every OneLine lines
  pub text_is : t ≡ laid percent_line lines ++ skip false t

record Remark (t : List ℕ) : Type 0 where
  pub this : List ℕ
  pub one_line : OneLine this
  pub lines : List (List ℕ)
  pub one_lines : Every OneLine lines
  pub text_is : t ≡ line this ++ (laid percent_line lines ++ skip true t)

Skipped : Bool → List ℕ → Type 0
Skipped true t = Remark t
Skipped false t = Remarks t

skipped : (w : Bool) (t : List ℕ) → 0 < length (skip w t) → Skipped w t
unfolding skip laid Skipped
skipped true [] h = absurd (omega arith)
skipped false [] h = absurd (omega arith)
skipped true (b ∷ t) h = within (eqb b feed) refl (λ (w : Bool) (g : 0 < length (skip w t)). skipped w t g)
  where
    within : (x : Bool) → eqb b feed ≡ x → ((w : Bool) → 0 < length (skip w t) → Skipped w t) → Remark (b ∷ t)
    within true e rec =
        let s : skip true (b ∷ t) ≡ skip false t = ap (λ (x : Bool). skip (not x) t) e in
        let r : Remarks t = rec false (omega (arith, h, ap length s)) in
        record {
          this = [];
          one_line = tt;
          lines = r.lines;
          one_lines = r.one_lines;
          text_is =
              ap (λ (x : ℕ). x ∷ t) (eqb-true b feed e)
              ∙ ap (λ (l : List ℕ). feed ∷ l) (r.text_is ∙ ap (λ (l : List ℕ). laid percent_line r.lines ++ l) (sym s));
        }
    within false e rec =
        let s : skip true (b ∷ t) ≡ skip true t = ap (λ (x : Bool). skip (not x) t) e in
        let r : Remark t = rec true (omega (arith, h, ap length s)) in
        record {
          this = b ∷ r.this;
          one_line = (eqb-false b feed e, r.one_line);
          lines = r.lines;
          one_lines = r.one_lines;
          text_is = ap (λ (l : List ℕ). b ∷ l) (r.text_is ∙ ap (λ (l : List ℕ). line r.this ++ (laid percent_line r.lines ++ l)) (sym s));
        }
skipped false (b ∷ t) h = begin (eqb b percent) refl (λ (g : 0 < length (skip true t)). skipped true t g)
  where
    begin : (x : Bool) → eqb b percent ≡ x → (0 < length (skip true t) → Remark t) → Remarks (b ∷ t)
    begin true e rec =
        let s : skip false (b ∷ t) ≡ skip true t = ap (λ (x : Bool). pick x (skip true t) (b ∷ t)) e in
        let r : Remark t = rec (omega (arith, h, ap length s)) in
        record {
          lines = r.this ∷ r.lines;
          one_lines = (r.one_line, r.one_lines);
          text_is =
              ap (λ (x : ℕ). x ∷ t) (eqb-true b percent e)
              ∙ ap (λ (l : List ℕ). percent ∷ l)
              (r.text_is ∙ ap (λ (l : List ℕ). line r.this ++ (laid percent_line r.lines ++ l)) (sym s)
              ∙ sym (append_assoc (line r.this) (laid percent_line r.lines) (skip false (b ∷ t))));
        }
    begin false e rec =
        let s : skip false (b ∷ t) ≡ b ∷ t = ap (λ (x : Bool). pick x (skip true t) (b ∷ t)) e in
        record { lines = []; one_lines = tt; text_is = sym s }

-- ---- the lines of the pairs

line_begun : (p : Written) (rest : List ℕ) → Numerals p → Begun p.from space (stopped p.to feed ++ rest) (pair_line p ++ rest)
line_begun p rest n =
    subst (Begun p.from space (stopped p.to feed ++ rest)) (sym (append_assoc (stopped p.from space) (stopped p.to feed) rest))
    (begun space (stopped p.to feed ++ rest) n.from_is refl)

-- what is read of such lines
record Lined (ps : List Written) (t : List ℕ) : Type 0 where
  pub lines_are : are_lines (length ps) t ≡ true
  pub pairs_are : pairs_in (length ps) t ≡ map values_of ps

lined : (ps : List Written) → Every Numerals ps → Lined ps (laid pair_line ps)
unfolding laid are_lines pairs_in
lined [] h = record { lines_are = refl; pairs_are = refl }
lined (p ∷ ps) h =
    let rest = laid pair_line ps in
    let a = line_begun p rest h.0 in
    let b = begun {d = p.to} feed rest h.0.to_is refl in
    let t = pair_line p ++ rest in
    let m : behind t ≡ stopped p.to feed ++ rest = a.behind_is in
    let e : line_behind t ≡ rest = ap behind m ∙ b.behind_is in
    let r = lined ps h.1 in
    let q : pair_of t ≡ values_of p =
    ap (λ (x : ℕ). record { from = x; to = number (behind t) }) a.number_is
    ∙ ap (λ (x : ℕ). record { from = value p.from; to = x }) (ap number m ∙ b.number_is) in
    record {
      lines_are = both_is (both_is a.stops_is (ap (stops feed) m ∙ b.stops_is)) (ap (are_lines (length ps)) e ∙ r.lines_are);
      pairs_are = ap (λ (x : Pair). x ∷ pairs_in (length ps) (line_behind t)) q ∙ ap (λ (l : List Pair). values_of p ∷ l) (ap (pairs_in (length ps)) e ∙ r.pairs_are);
    }

-- the pairs that such lines are
record Pairs (k : ℕ) (t : List ℕ) : Type 0 where
  pub written : List Written
  pub numerals : Every Numerals written
  pub count_is : length written ≡ k
  pub text_is : t ≡ laid pair_line written

empty : (t : List ℕ) → length t ≡ 0 → t ≡ []
empty [] e = refl
empty (x ∷ t) e = absurd (omega (arith, e))

paired : (k : ℕ) (t : List ℕ) → are_lines k t ≡ true → Pairs k t
unfolding are_lines laid
paired zero t h = record { written = []; numerals = tt; count_is = refl; text_is = empty t (eqb-true (length t) 0 h) }
paired (suc k) t h =
    let q = both_true (is_line t) (are_lines k (line_behind t)) h in
    let s = both_true (stops space t) (stops feed (behind t)) q.0 in
    let a = parted space t (omega arith) s.0 in
    let b = parted feed (behind t) (omega arith) s.1 in
    let r = paired k (line_behind t) q.1 in
    let w : Written = record { from = lead t; to = lead (behind t) } in
    record {
      written = w ∷ r.written;
      numerals = (record { from_is = a.numeral; to_is = b.numeral }, r.numerals);
      count_is = ap suc r.count_is;
      text_is =
          a.text_is ∙ ap (λ (l : List ℕ). stopped (lead t) space ++ l) (b.text_is ∙ ap (λ (l : List ℕ). stopped (lead (behind t)) feed ++ l) r.text_is)
          ∙ sym (append_assoc (stopped (lead t) space) (stopped (lead (behind t)) feed) (laid pair_line r.written));
    }

-- ---- the whole text

-- the counts and the pairs, as a file writes them
abbrev counted : File → List ℕ
counted f = stopped f.rows space ++ (stopped f.columns space ++ (stopped f.entries feed ++ laid pair_line f.pairs))

-- a number's first digit is no %
no_percent : (d : List ℕ) (c : ℕ) (rs : List (List ℕ)) (rest : List ℕ) → Numeral d → Every OneLine rs
    → skip false (laid percent_line rs ++ (stopped d c ++ rest)) ≡ stopped d c ++ rest
no_percent [] c rs rest n h = absurd (omega (arith, n.some))
no_percent (b ∷ d) c rs rest n h = skip_remarks rs b (stopped d c ++ rest) h (λ e. omega (arith, e, n.digits.0.low))

begins_whole : (f : File) → begins banner (text_of f) ≡ true
unfolding text_of
begins_whole f = begins_self banner (laid percent_line f.remarks ++ counted f)

module _ (f : File) (p : Proper f) where
  counts_in_lem : counts_in (text_of f) ≡ counted f
  unfolding text_of
  counts_in_lem =
      no_percent f.rows space f.remarks (stopped f.columns space ++ (stopped f.entries feed ++ laid pair_line f.pairs)) p.rows_is p.remarks_are

  first_begun : Begun f.rows space (stopped f.columns space ++ (stopped f.entries feed ++ laid pair_line f.pairs)) (counts_in (text_of f))
  first_begun =
      subst (Begun f.rows space (stopped f.columns space ++ (stopped f.entries feed ++ laid pair_line f.pairs))) (sym counts_in_lem)
      (begun space (stopped f.columns space ++ (stopped f.entries feed ++ laid pair_line f.pairs)) p.rows_is refl)

  second_begun : Begun f.columns space (stopped f.entries feed ++ laid pair_line f.pairs) (behind (counts_in (text_of f)))
  second_begun =
      subst (Begun f.columns space (stopped f.entries feed ++ laid pair_line f.pairs)) (sym first_begun.behind_is)
      (begun space (stopped f.entries feed ++ laid pair_line f.pairs) p.columns_is refl)

  third_begun : Begun f.entries feed (laid pair_line f.pairs) (behind (behind (counts_in (text_of f))))
  third_begun =
      subst (Begun f.entries feed (laid pair_line f.pairs)) (sym second_begun.behind_is) (begun feed (laid pair_line f.pairs) p.entries_is refl)

  many : entries (text_of f) ≡ length f.pairs
  many = third_begun.number_is ∙ p.counted

  body_is : Lined f.pairs (lines_in (text_of f))
  body_is = subst (Lined f.pairs) (sym third_begun.behind_is) (lined f.pairs p.pairs_are)

  head_is : is_head (text_of f) ≡ true
  unfolding is_head
  head_is =
      both_is (begins_whole f)
      (both_is (both_is first_begun.stops_is (both_is second_begun.stops_is third_begun.stops_is))
      (eq-eqb (rows (text_of f)) (columns (text_of f)) (first_begun.number_is ∙ p.square ∙ sym second_begun.number_is)))

  pub text_passes : is_text (text_of f) ≡ true
  unfolding is_text
  text_passes = both_is head_is (ap (λ (k : ℕ). are_lines k (lines_in (text_of f))) many ∙ body_is.lines_are)

  pub text_says : Says f (text_of f)
  unfolding pairs
  text_says =
      record {
        proper = p;
        text_is = refl;
        rows_are = first_begun.number_is;
        entries_are = third_begun.number_is;
        pairs_are = ap (λ (k : ℕ). pairs_in k (lines_in (text_of f))) many ∙ body_is.pairs_are;
      }

-- the file of a text that passes
module _ (t : List ℕ) (h : is_text t ≡ true) where
  head_right : is_head t ≡ true
  unfolding is_text
  head_right = (both_true (is_head t) (are_lines (entries t) (lines_in t)) h).0

  lines_right : are_lines (entries t) (lines_in t) ≡ true
  unfolding is_text
  lines_right = (both_true (is_head t) (are_lines (entries t) (lines_in t)) h).1

  record Heads : Type 0 where
    pub first_line : begins banner t ≡ true
    pub one : stops space (counts_in t) ≡ true
    pub two : stops space (behind (counts_in t)) ≡ true
    pub three : stops feed (behind (behind (counts_in t))) ≡ true
    pub square : rows t ≡ columns t

  heads : Heads
  unfolding is_head
  heads =
      let a = both_true (begins banner t) _ head_right in
      let b = both_true (both (stops space (counts_in t)) (both (stops space (behind (counts_in t))) (stops feed (behind (behind (counts_in t))))))
      (eqb (rows t) (columns t)) a.1 in
      let c = both_true (stops space (counts_in t)) (both (stops space (behind (counts_in t))) (stops feed (behind (behind (counts_in t))))) b.0 in
      let d = both_true (stops space (behind (counts_in t))) (stops feed (behind (behind (counts_in t)))) c.1 in
      record { first_line = a.0; one = c.0; two = d.0; three = d.1; square = eqb-true (rows t) (columns t) b.1 }

  one_parted : Parted space (counts_in t)
  one_parted = parted space (counts_in t) (omega arith) heads.one

  two_parted : Parted space (behind (counts_in t))
  two_parted = parted space (behind (counts_in t)) (omega arith) heads.two

  three_parted : Parted feed (behind (behind (counts_in t)))
  three_parted = parted feed (behind (behind (counts_in t))) (omega arith) heads.three

  skipped_lines : Remarks (drop (length banner) t)
  unfolding Skipped
  skipped_lines =
      let n = ap length one_parted.text_is ∙ length-append (stopped (lead (counts_in t)) space) (behind (counts_in t)) in
      let m = length-append (lead (counts_in t)) (space ∷ []) in
      skipped false (drop (length banner) t) (omega (arith, n, m))

  its_pairs : Pairs (entries t) (lines_in t)
  its_pairs = paired (entries t) (lines_in t) lines_right

  file : File
  file =
      record {
        remarks = skipped_lines.lines;
        rows = lead (counts_in t);
        columns = lead (behind (counts_in t));
        entries = lead (behind (behind (counts_in t)));
        pairs = its_pairs.written;
      }

  file_proper : Proper file
  unfolding file
  file_proper =
      record {
        remarks_are = skipped_lines.one_lines;
        rows_is = one_parted.numeral;
        columns_is = two_parted.numeral;
        entries_is = three_parted.numeral;
        pairs_are = its_pairs.numerals;
        square = heads.square;
        counted = sym its_pairs.count_is;
      }

  file_text : text_of file ≡ t
  unfolding file text_of
  file_text =
      let third = three_parted.text_is ∙ ap (λ (l : List ℕ). stopped (lead (behind (behind (counts_in t)))) feed ++ l) its_pairs.text_is in
      let second = two_parted.text_is ∙ ap (λ (l : List ℕ). stopped (lead (behind (counts_in t))) space ++ l) third in
      let first = one_parted.text_is ∙ ap (λ (l : List ℕ). stopped (lead (counts_in t)) space ++ l) second in
      let skips = skipped_lines.text_is ∙ ap (λ (l : List ℕ). laid percent_line skipped_lines.lines ++ l) first in
      sym (begins_front banner t heads.first_line ∙ ap (λ (l : List ℕ). banner ++ l) skips)

  pub text_form : (f : File) × Says f t
  text_form = (file, subst (Says file) file_text (text_says file file_proper))

-- ---- by import's answer

-- 18 is answered for a text that does not pass, and for no other
not_text : (t : List ℕ) → is_text t ≡ false → fault t ≡ 18
unfolding fault
not_text t e = rw e

text_fault : (t : List ℕ) → is_text t ≡ true → fault t ≢ 18
unfolding fault
text_fault t e z = go (counts_outside (rows t) (entries t)) (not (inside (rows t) (pairs t))) (rw e at z)
  where
    go : (a b : Bool) → raise a 4 (raise b 5 0) ≡ 18 → ⊥
    go true b q = omega (arith, q)
    go false true q = omega (arith, q)
    go false false q = omega (arith, q)

answer_fault : (k : ℕ) (s : Store) (o g z : ℕ) → (answer_of (lent (judged k s) o g z)).refusal ≡ 18 → k ≡ 18
answer_fault (suc k) s o g z e = e
answer_fault zero s o g z e = go (misfits (objects s) (references s) o g z) e
  where
    go : (b : Bool) → (answer_of (lent_to b s)).refusal ≡ 18 → ◌≡◌ {A = ℕ} 0 18
    go true q = absurd (omega (arith, q))
    go false q = absurd (omega (arith, q))

fault_answer : (k : ℕ) (s : Store) (o g z : ℕ) → k ≡ 18 → (answer_of (lent (judged k s) o g z)).refusal ≡ 18
fault_answer k s o g z e = rw e

module _ {t os ts ss : List ℕ} {r : Row} {os' ts' ss' : List ℕ} (a : Imports t os ts ss r os' ts' ss') where
  told_18 : fault t ≡ 18 → r.refusal ≡ 18
  told_18 e = ap (λ (x : Row). x.refusal) a.returned ∙ fault_answer (fault t) (store_of t) (length os) (length ts) (length ss) e

  is_18 : r.refusal ≡ 18 → fault t ≡ 18
  is_18 e = answer_fault (fault t) (store_of t) (length os) (length ts) (length ss) (sym (ap (λ (x : Row). x.refusal) a.returned) ∙ e)

  pub accepts : Accepts t r
  accepts =
      record {
        only = λ n. passing (is_text t) refl n;
        all = λ f p e.
            let q : is_text t ≡ true = subst (λ (l : List ℕ). is_text l ≡ true) e (text_passes f p) in
            (λ z. text_fault t q (is_18 z), subst (Says f) e (text_says f p));
      }
    where
      passing : (b : Bool) → is_text t ≡ b → r.refusal ≢ 18 → (f : File) × Says f t
      passing true e n = text_form t e
      passing false e n = absurd (n (told_18 (not_text t e)))
