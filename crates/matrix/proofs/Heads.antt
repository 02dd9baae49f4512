-- What stands before the pairs: the first line, lines that begin with %, and the counts.
use mathlib.Core.Path.{◌≡◌, refl, ap, sym, ◌∙◌}
use mathlib.Core.Bool.{Bool, true, false}
use mathlib.Core.List.{List, [], ◌∷◌}
use Prim.Native.Nat.{ℕ, zero, suc, ◌+◌, ◌≤◌, ◌<◌}
use mathlib.Core.Logic.{by_cases}
use native.Mathlib.Decide.{ℕ_discrete}
use native.Mathlib.Numerals.{add-one}
use native.Mathlib.Omega.{arith}
use lib.ListN.{length, get_or, drop, drop_of_length-le, length-drop}
use lib.Seq.{drop-cons, drop-drop}
use lib.Dec.{eqb}
use borrow.Author.Tests.{eq-eqb, ne_eqb}
use Rattle.laws.specs.Choice.{both}
use Rattle.std.specs.List.{starts_with}
use Rattle.matrix.specs.Layout.{banner, space, feed, percent}
use Rattle.matrix.specs.Reading.{begins, skip, is_head, stops, behind, counts_in, rows, columns, number}
use Rattle.matrix.specs.Steps.{LineEnd, FieldAt, HeadOf}

-- ---- the first line

-- a text begins with these bytes where the library's test says so
begins_starts : (ps t : List ℕ) → starts_with eqb t ps ≡ begins ps t
unfolding begins
begins_starts [] t = refl
begins_starts (p ∷ ps) [] = refl
begins_starts (p ∷ ps) (b ∷ t) =
    by_cases (ℕ_discrete p b) (λ (e : p ≡ b). rw (eq-eqb p b e, eq-eqb b p (sym e)) (begins_starts ps t))
    (λ e. rw (ne_eqb p b e, ne_eqb b p (λ z. e (sym z))))

pub begun : (ps t : List ℕ) {r b : Bool} → r ≡ starts_with eqb t ps → r ≡ b → begins ps t ≡ b
begun ps t e h = sym (begins_starts ps t) ∙ sym e ∙ h

-- ---- lines that begin with %

-- within such a line, k bytes before the line feed
skip_feed : (k : ℕ) (t : List ℕ) → ((j : ℕ) → j < k → get_or t j 0 ≡ feed → ⊥) → k < length t → get_or t k 0 ≡ feed → skip true t ≡ skip false (drop (k + 1) t)
unfolding skip
skip_feed k [] other h e = absurd (omega arith)
skip_feed zero (b ∷ t) other h e = rw (eq-eqb b feed e)
skip_feed (suc k) (b ∷ t) other h e =
    rw (ne_eqb b feed (other 0 (omega arith)), add-one (suc k)) (skip_feed k t (λ j p. other (suc j) (omega arith)) (omega arith) e ∙ rw (add-one k) refl)

-- there is none
skip_rest : (t : List ℕ) → ((j : ℕ) → j < length t → get_or t j 0 ≡ feed → ⊥) → skip true t ≡ []
unfolding skip
skip_rest [] other = refl
skip_rest (b ∷ t) other = rw (ne_eqb b feed (other 0 (omega arith))) (skip_rest t (λ j p. other (suc j) (omega arith)))

module _ (text : List ℕ) (from : ℕ) {t : List ℕ} (r : t ≡ drop from text) where
  pub line_end : (k : ℕ) → ((j : ℕ) → j < k → get_or t j 0 ≡ feed → ⊥) → k < length t → get_or t k 0 ≡ feed → LineEnd text from (from + k + 1)
  line_end k other h e =
      let j : from + k + 1 ≡ from + (k + 1) = omega arith in
      record {
        behind_is = rw (j, ← r) (skip_feed k t other h e ∙ ap (λ (l : List ℕ). skip false (drop (k + 1) l)) r ∙ ap (skip false) (drop-drop (k + 1) from text));
        onward = omega arith;
        there = omega (arith, h, ap length r, length-drop from text);
      }

  pub no_line_end : from ≤ length text → ((j : ℕ) → j < length t → get_or t j 0 ≡ feed → ⊥) → LineEnd text from (length text)
  unfolding skip
  no_line_end h other =
      record {
        behind_is = rw (← r) (skip_rest t other ∙ sym (ap (skip false) (drop_of_length-le text {i = length text} (omega arith))));
        onward = h;
        there = omega arith;
      }

module _ (text : List ℕ) (at : ℕ) (h : at < length text) where
  -- at its beginning
  pub skip_percent : get_or text at 0 ≡ percent → skip false (drop at text) ≡ skip true (drop (at + 1) text)
  unfolding skip
  skip_percent e = rw (drop-cons text at 0 h, add-one at, eq-eqb (get_or text at 0) percent e)

  pub skip_none : (get_or text at 0 ≡ percent → ⊥) → skip false (drop at text) ≡ drop at text
  unfolding skip
  skip_none e = rw (drop-cons text at 0 h, ne_eqb (get_or text at 0) percent e)

pub skip_end : (text : List ℕ) (at : ℕ) → length text ≤ at → skip false (drop at text) ≡ drop at text
unfolding skip
skip_end text at h = rw (drop_of_length-le text h)

-- ---- the counts

pub head_banner : (text : List ℕ) → begins banner text ≡ false → is_head text ≡ false
unfolding is_head
head_banner text e = rw e

-- the tests of a head
abbrev tests : Bool → Bool → Bool → Bool → Bool → Bool
tests p x y z w = both p (both (both x (both y z)) w)

same : {p p' x x' y y' z z' w w' : Bool} → p ≡ p' → x ≡ x' → y ≡ y' → z ≡ z' → w ≡ w' → tests p x y z w ≡ tests p' x' y' z' w'
same e f g h k = rw (e, f, g, h, k)

tested : (text : List ℕ) {p x y z w : Bool} → begins banner text ≡ p → stops space (counts_in text) ≡ x → stops space (behind (counts_in text)) ≡ y
    → stops feed (behind (behind (counts_in text))) ≡ z → eqb (rows text) (columns text) ≡ w → is_head text ≡ tests p x y z w
unfolding is_head
tested text e f g h k = same e f g h k

module _ (text : List ℕ) (at : ℕ) (first : begins banner text ≡ true) (skipped : drop at text ≡ counts_in text) where
  pub head_rows : stops space (drop at text) ≡ false → is_head text ≡ false
  head_rows e = tested text first (ap (stops space) (sym skipped) ∙ e) refl refl refl

  module _ {value next : ℕ} (a : FieldAt text at space value next) where
    first_is : stops space (counts_in text) ≡ true
    first_is = ap (stops space) (sym skipped) ∙ a.good

    behind_first : behind (counts_in text) ≡ drop next text
    behind_first = ap behind (sym skipped) ∙ sym a.next_is

    pub head_columns : stops space (drop next text) ≡ false → is_head text ≡ false
    head_columns e = tested text first first_is (ap (stops space) behind_first ∙ e) refl refl

    module _ {value₂ next₂ : ℕ} (b : FieldAt text next space value₂ next₂) where
      second_is : stops space (behind (counts_in text)) ≡ true
      second_is = ap (stops space) behind_first ∙ b.good

      behind_second : behind (behind (counts_in text)) ≡ drop next₂ text
      behind_second = ap behind behind_first ∙ sym b.next_is

      pub head_entries : stops feed (drop next₂ text) ≡ false → is_head text ≡ false
      head_entries e = tested text first first_is second_is (ap (stops feed) behind_second ∙ e) refl

      module _ {value₃ next₃ : ℕ} (d : FieldAt text next₂ feed value₃ next₃) where
        rows_are : value ≡ rows text
        rows_are = a.value_is ∙ ap number skipped

        columns_are : value₂ ≡ columns text
        columns_are = b.value_is ∙ ap number (sym behind_first)

        square_is : {w : Bool} → eqb value value₂ ≡ w → is_head text ≡ w
        square_is e =
            tested text first first_is second_is (ap (stops feed) behind_second ∙ d.good)
            (sym (ap (λ (x : ℕ). eqb x value₂) rows_are ∙ ap (eqb (rows text)) columns_are) ∙ e)

        pub head_square : (value ≡ value₂ → ⊥) → is_head text ≡ false
        head_square e = square_is (ne_eqb value value₂ e)

        pub head_of : value ≡ value₂ → HeadOf text value value₃ next₃
        head_of e =
            record {
              good = square_is (eq-eqb value value₂ e);
              rows_is = rows_are;
              entries_is = d.value_is ∙ ap number (sym behind_second);
              next_is = d.next_is ∙ ap behind (sym behind_second);
              there = d.there;
            }
