-- Texts laid end to end, one after the other.
use mathlib.Core.Path.{◌≡◌, refl}
use mathlib.Core.Bool.{true, false}
use mathlib.Core.List.{List, [], ◌∷◌, ◌++◌}
use Prim.Native.Nat.{ℕ, suc, ◌+◌, ◌-◌, ◌≤◌, ◌<◌}
use native.Mathlib.Numerals.{add-one}
use native.Mathlib.Omega.{arith}
use lib.ListN.{length, get_or, take, drop, replicate, drop_of_length-le}
use lib.Seq.{drop-cons}
use lib.Dec.{leb, eqb}
use borrow.Author.Tests.{leb-true, eqb-true, le-leb, lt-leb}
use Rattle.laws.specs.Blocks.{laid}
use Rattle.laws.proofs.Test.{both_true}
use Rattle.names.specs.Names.{Names}
use Rattle.names.specs.Mentions.{mentions, texts_from, sources, targets}
use Rattle.names.specs.Call.{ends_right}

-- ---- the ends

-- no end is beyond the bytes
pub ends_inside : (es : List ℕ) (start long : ℕ) → ends_right start es long ≡ true → start ≤ long
unfolding ends_right
ends_inside [] start long h = omega (arith, eqb-true start long h)
ends_inside (e ∷ es) start long h =
    let t = both_true (leb start e) (ends_right e es long) h in
    omega (arith, leb-true start e t.0, ends_inside es e long t.1)

module _ (ends : List ℕ) (start long i : ℕ) where
  -- one end after the other
  pub ends_at : i < length ends → ends_right start (drop i ends) long ≡ true
      → (start ≤ get_or ends i 0) × (ends_right (get_or ends i 0) (drop (i + 1) ends) long ≡ true)
  unfolding ends_right
  ends_at h e =
      let f = rw (drop-cons ends i 0 h) at e in
      let t = both_true (leb start (get_or ends i 0)) (ends_right (get_or ends i 0) (drop (suc i) ends) long) f in
      (leb-true start (get_or ends i 0) t.0, rw add-one t.1)

  pub ends_step : i < length ends → start ≤ get_or ends i 0 → ends_right (get_or ends i 0) (drop (i + 1) ends) long ≡ ends_right start (drop i ends) long
  unfolding ends_right
  ends_step h l = rw (add-one, drop-cons ends i 0 h, le-leb start (get_or ends i 0) l)

  pub ends_stop : i < length ends → get_or ends i 0 < start → ends_right start (drop i ends) long ≡ false
  unfolding ends_right
  ends_stop h l = rw (drop-cons ends i 0 h, lt-leb start (get_or ends i 0) l)

  pub ends_end : length ends ≤ i → ends_right start (drop i ends) long ≡ eqb start long
  unfolding ends_right
  ends_end h = rw (drop_of_length-le ends h)

-- ---- the texts

-- the text that ends at end number i and begins at `start`
abbrev pub text_at : List ℕ → List ℕ → ℕ → ℕ → List ℕ
text_at bytes ends start i = take (get_or ends i 0 - start) (drop start bytes)

module _ (bytes ends : List ℕ) (start i : ℕ) where
  pub texts_at : i < length ends → texts_from start (drop i ends) bytes ≡ text_at bytes ends start i ∷ texts_from (get_or ends i 0) (drop (i + 1) ends) bytes
  unfolding texts_from
  texts_at h = rw (add-one, drop-cons ends i 0 h)

  pub texts_end : length ends ≤ i → texts_from start (drop i ends) bytes ≡ []
  unfolding texts_from
  texts_end h = rw (drop_of_length-le ends h)

-- ---- what they mention

pub targets_cons : (N : Names) (text : List ℕ) (texts : List (List ℕ)) → targets N (text ∷ texts) ≡ mentions N text ++ targets N texts
unfolding targets laid
targets_cons N text texts = refl

pub targets_none : (N : Names) → targets N [] ≡ []
unfolding targets laid
targets_none N = refl

pub sources_none : (N : Names) (owners : List ℕ) → sources N [] owners ≡ []
unfolding sources
sources_none N owners = refl

pub sources_at : (N : Names) (text : List ℕ) (texts : List (List ℕ)) (owners : List ℕ) (i : ℕ) → i < length owners
    → sources N (text ∷ texts) (drop i owners) ≡ replicate (length (mentions N text)) (get_or owners i 0) ++ sources N texts (drop (i + 1) owners)
unfolding sources
sources_at N text texts owners i h = rw (add-one, drop-cons owners i 0 h)
