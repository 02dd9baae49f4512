-- The lines of the pairs, from the first to the last: what is left of them decides, as long as none passed was wrong.
use mathlib.Core.Path.{◌≡◌, refl, ap, sym, ◌∙◌}
use mathlib.Core.Bool.{Bool, true, false, ◌&&◌}
use mathlib.Core.List.{List}
use Prim.Native.Nat.{ℕ, suc, ◌+◌, ◌-◌, ◌≤◌, ◌<◌}
use native.Mathlib.Omega.{arith}
use lib.ListN.{length, drop, length-drop}
use lib.Dec.{eqb}
use borrow.Author.Tests.{eq-eqb, ne_eqb}
use Rattle.laws.specs.Choice.{both}
use Rattle.laws.specs.Test.{all}
use Rattle.matrix.specs.Reading.{number, behind, is_line, line_behind, pair_of, are_lines, pairs_in}
use Rattle.matrix.specs.Import.{is_inside, inside}
use Rattle.matrix.specs.Steps.{pair_at, LineAt, BodyAt}

-- e lines are passed, up to the place i; fits: each number so far is 1 to n
pub record Passing (text : List ℕ) (at n m e i : ℕ) (fits : Bool) : Type 0 where
  pub passed : e ≤ m
  pub place : i ≤ length text
  pub lines : are_lines m (drop at text) ≡ are_lines (m - e) (drop i text)
  pub whole : inside n (pairs_in m (drop at text)) ≡ both fits (inside n (pairs_in (m - e) (drop i text)))

-- the first of some lines
lines_first : (k : ℕ) (t : List ℕ) → is_line t ≡ true → are_lines (suc k) t ≡ are_lines k (line_behind t)
unfolding are_lines
lines_first k t e = rw e

lines_bad : (k : ℕ) (t : List ℕ) → is_line t ≡ false → are_lines (suc k) t ≡ false
unfolding are_lines
lines_bad k t e = rw e

inside_first : (n k : ℕ) (t : List ℕ) → inside n (pairs_in (suc k) t) ≡ both (is_inside n (pair_of t)) (inside n (pairs_in k (line_behind t)))
unfolding inside all pairs_in
inside_first n k t = refl

module _ {text : List ℕ} {at n m e i : ℕ} {fits : Bool} (a : Passing text at n m e i fits) (h : e < m) where
  one_more : m - e ≡ suc (m - (e + 1))
  one_more = omega arith

  -- a line that is none
  pub body_bad : is_line (drop i text) ≡ false → are_lines m (drop at text) ≡ false
  body_bad f = a.lines ∙ ap (λ (k : ℕ). are_lines k (drop i text)) one_more ∙ lines_bad (m - (e + 1)) (drop i text) f

  module _ {from to next : ℕ} (b : LineAt text i from to next) where
    lines_next : are_lines m (drop at text) ≡ are_lines (m - (e + 1)) (drop next text)
    lines_next =
        a.lines ∙ ap (λ (k : ℕ). are_lines k (drop i text)) one_more ∙ lines_first (m - (e + 1)) (drop i text) b.good
        ∙ ap (are_lines (m - (e + 1))) (sym b.next_is)

    left_is : inside n (pairs_in (m - e) (drop i text)) ≡ both (is_inside n (pair_at from to)) (inside n (pairs_in (m - (e + 1)) (drop next text)))
    left_is =
        ap (λ (k : ℕ). inside n (pairs_in k (drop i text))) one_more ∙ inside_first n (m - (e + 1)) (drop i text)
        ∙ ap (λ (x : ℕ). both (is_inside n (pair_at x (number (behind (drop i text))))) (inside n (pairs_in (m - (e + 1)) (line_behind (drop i text))))) (sym b.from_is)
        ∙ ap (λ (x : ℕ). both (is_inside n (pair_at from x)) (inside n (pairs_in (m - (e + 1)) (line_behind (drop i text))))) (sym b.to_is)
        ∙ ap (λ (t : List ℕ). both (is_inside n (pair_at from to)) (inside n (pairs_in (m - (e + 1)) t))) (sym b.next_is)

    both_assoc : (p q r : Bool) → both p (both q r) ≡ both (p && q) r
    both_assoc true q r = refl
    both_assoc false q r = refl

    -- one line more
    pub passing_next : Passing text at n m (e + 1) next (fits && is_inside n (pair_at from to))
    passing_next =
        let later = inside n (pairs_in (m - (e + 1)) (drop next text)) in
        record {
          passed = omega arith;
          place = b.there;
          lines = lines_next;
          whole = a.whole ∙ ap (both fits) left_is ∙ both_assoc fits (is_inside n (pair_at from to)) later;
        }

-- all lines are passed
module _ {text : List ℕ} {at n m e i : ℕ} {fits : Bool} (a : Passing text at n m e i fits) (h : m ≤ e) where
  none_left : m - e ≡ 0
  none_left = omega (arith, a.passed)

  at_end : are_lines m (drop at text) ≡ eqb (length (drop i text)) 0
  unfolding are_lines
  at_end = a.lines ∙ ap (λ (k : ℕ). are_lines k (drop i text)) none_left

  pub body_longer : (i ≡ length text → ⊥) → are_lines m (drop at text) ≡ false
  body_longer f = at_end ∙ ne_eqb (length (drop i text)) 0 (λ z. f (omega (arith, z, length-drop i text, a.place)))

  pub body_end : i ≡ length text → BodyAt text at n m fits
  unfolding pairs_in inside all
  body_end f =
      record {
        good = at_end ∙ eq-eqb (length (drop i text)) 0 (omega (arith, length-drop i text));
        fits_is = sym (a.whole ∙ rw none_left (both_of fits));
      }
    where
      both_of : (p : Bool) → both p true ≡ p
      both_of true = refl
      both_of false = refl
