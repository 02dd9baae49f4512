-- The mentions of texts are counted; of each text there are no more than it has bytes.
use Rattle.std.proofs.Common.{◌≡◌, ℕ, zero, suc, ◌+◌, ◌-◌, ◌≤◌, ◌<◌, true, false, List, [], ◌∷◌, length, get_or, take, drop, ap, ◌∙◌, ⊎_elim, arith, length-append, length-drop, length-take-le}
use mathlib.Core.Logic.{by_cases}
use native.Mathlib.Decide.{dec_lt}
use Rattle.laws.specs.Test.{same}
use Rattle.laws.proofs.Test.{tested, same_equal, equal_same}
use Rattle.names.specs.Names.{Names, count, name_at}
use Rattle.names.specs.Mentions.{named, mentions, texts_from, targets}
use Rattle.names.specs.Call.{Texts, to, ends_right}
use Rattle.names.proofs.Mentions.{named_none}
use Rattle.names.proofs.Texts.{ends_inside, ends_at, text_at, texts_at, texts_end, targets_cons, targets_none}
use Rattle.scan.specs.Passing.{Ready, CountedAll}
use Rattle.scan.proofs.Finding.{found_one}

-- ---- no more mentions than bytes

module _ {N : Names} {index : List ℕ} (r : Ready N index) where
  -- bytes name one object at most
  named_few : (bytes : List ℕ) → length (named N bytes) ≤ 1
  named_few bytes = go (count N) (omega arith) (λ k p q e. absurd (omega arith))
    where
      -- none of the names from k on is the bytes
      go : (k : ℕ) → k ≤ count N → ((j : ℕ) → k ≤ j → j < count N → bytes ≡ name_at N j → ⊥) → length (named N bytes) ≤ 1
      go zero h none = let e = ap length (named_none N bytes (λ j q. none j (omega arith) q)) in omega arith
      go (suc k) h none =
          ⊎_elim
          (λ (p : same bytes (name_at N k) ≡ true).
          let e = ap length (found_one r bytes k (omega arith) (same_equal bytes (name_at N k) p)) in omega arith)
          (λ (p : same bytes (name_at N k) ≡ false).
          go k (omega arith)
          (λ (j : ℕ) (a : k ≤ j) (b : j < count N) (e : bytes ≡ name_at N j).
          by_cases (dec_lt k j)
          (λ (q : k < j). none j (omega arith) b e)
          (λ (q : ¬ (k < j)).
          let s : j ≡ k = omega arith in
          let t = equal_same bytes (name_at N k) (rw s at e) in
          let z : ◌≡◌ {A = ℕ} 0 1 = cc in
          omega arith)))
          (tested (same bytes (name_at N k)))

  pub mentions_few : (text : List ℕ) → length (mentions N text) ≤ length text
  unfolding mentions
  mentions_few [] = omega arith
  mentions_few (b ∷ text) =
      let l = length-append (named N (take N.width (b ∷ text))) (mentions N text) in
      omega (arith, named_few (take N.width (b ∷ text)), mentions_few text, l)

-- ---- all texts: those of the texts passed and of the others are all

pub record CountingTexts (N : Names) (T : Texts) (k start i : ℕ) : Type 0 where
  pub few : k ≤ start
  pub right : ends_right start (drop i T.ends) (length T.bytes) ≡ true
  pub left : k + length (targets N (texts_from start (drop i T.ends) T.bytes)) ≡ length (to N T)

-- a text lies within the bytes
module _ (bytes ends : List ℕ) (start i : ℕ) (r : ends_right start (drop i ends) (length bytes) ≡ true) (h : i < length ends) where
  pub text_order : start ≤ get_or ends i 0
  text_order = (ends_at ends start (length bytes) i h r).0

  pub text_inside : get_or ends i 0 ≤ length bytes
  text_inside = ends_inside (drop (i + 1) ends) (get_or ends i 0) (length bytes) (ends_at ends start (length bytes) i h r).1

  pub text_long : length (text_at bytes ends start i) ≡ get_or ends i 0 - start
  text_long = length-take-le (get_or ends i 0 - start) (drop start bytes) (omega (arith, length-drop start bytes, text_inside))

module _ {N : Names} {T : Texts} {k start i : ℕ} (c : CountingTexts N T k start i) where
  module _ (h : i < length T.ends) {m : ℕ} (few : m ≤ length (text_at T.bytes T.ends start i)) where
    -- no more mentions than bytes
    pub texts_few : k + m ≤ get_or T.ends i 0
    texts_few = omega (arith, c.few, few, text_long T.bytes T.ends start i c.right h, text_order T.bytes T.ends start i c.right h)

    pub texts_on : {k' : ℕ} → m ≡ length (mentions N (text_at T.bytes T.ends start i)) → k' ≡ k + m → CountingTexts N T k' (get_or T.ends i 0) (i + 1)
    texts_on x y =
        let e = ap (λ (l : List (List ℕ)). targets N l) (texts_at T.bytes T.ends start i h) ∙ targets_cons N _ _ in
        record {
          few = omega (arith, texts_few);
          right = (ends_at T.ends start (length T.bytes) i h c.right).1;
          left =
              omega (
                arith,
                c.left,
                ap length e,
                length-append (mentions N (text_at T.bytes T.ends start i)) (targets N (texts_from (get_or T.ends i 0) (drop (i + 1) T.ends) T.bytes)),
                x,
              );
        }

  pub texts_done : length T.ends ≤ i → CountedAll N T k
  texts_done h =
      let e = ap (λ (l : List (List ℕ)). targets N l) (texts_end T.bytes T.ends start i h) ∙ targets_none N in
      record {
        is = omega (arith, c.left, ap length e);
        few = omega (arith, c.few, ends_inside (drop i T.ends) start (length T.bytes) c.right);
      }
