-- What bytes name, and the mentions of a text from a place on.
use mathlib.Core.Path.{◌≡◌, refl, sym, ◌∙◌}
use mathlib.Core.Bool.{true, false}
use mathlib.Core.List.{List, [], ◌∷◌, ◌++◌}
use mathlib.Core.Logic.{⊎_elim}
use Prim.Native.Nat.{ℕ, zero, suc, ◌+◌, ◌≤◌, ◌<◌}
use native.Mathlib.Omega.{arith}
use lib.ListN.{length, get_or, drop, drop_of_length-le}
use lib.Seq.{drop-cons}
use Rattle.laws.specs.Test.{same}
use Rattle.laws.proofs.Test.{tested, same_equal, equal_same}
use Rattle.names.specs.Names.{Names, count, window, name_at}
use Rattle.names.specs.Mentions.{named_from, named, mentions}

-- bytes that are not name k
other : (N : Names) (bytes : List ℕ) (k : ℕ) → (bytes ≡ name_at N k → ⊥) → same bytes (name_at N k) ≡ false
other N bytes k h =
    ⊎_elim
    (λ (p : same bytes (name_at N k) ≡ true). absurd (h (same_equal bytes (name_at N k) p)))
    (λ (p : same bytes (name_at N k) ≡ false). p)
    (tested (same bytes (name_at N k)))

-- bytes that are no name from k on name nothing
none_from : (N : Names) (bytes : List ℕ) (k : ℕ) (vs : List ℕ) → ((j : ℕ) → k ≤ j → j < k + length vs → bytes ≡ name_at N j → ⊥) → named_from N k vs bytes ≡ []
unfolding named_from
none_from N bytes k [] h = refl
none_from N bytes k (v ∷ vs) h =
    rw (other N bytes k (h k (omega arith) (omega arith)))
    (none_from N bytes (suc k) vs (λ j p q. h j (omega arith) (omega arith)))

-- bytes that are one of them, and no other, name its object
one_from : (N : Names) (bytes : List ℕ) (k : ℕ) (vs : List ℕ) (i : ℕ) → i < length vs → bytes ≡ name_at N (k + i)
    → ((j : ℕ) → j < k + length vs → bytes ≡ name_at N j → j ≡ k + i) → named_from N k vs bytes ≡ get_or vs i 0 ∷ []
unfolding named_from
one_from N bytes k [] i h e d = absurd (omega arith)
one_from N bytes k (v ∷ vs) zero h e d =
    let s : k + 0 ≡ k = omega arith in
    let f = rw s at e in
    rw (equal_same bytes (name_at N k) f, none_from N bytes (suc k) vs (λ j a b g. omega (arith, d j (omega arith) g)))
one_from N bytes k (v ∷ vs) (suc i) h e d =
    let s : k + suc i ≡ suc k + i = omega arith in
    let f = rw s at e in
    rw (other N bytes k (λ g. omega (arith, d k (omega arith) g)))
    (one_from N bytes (suc k) vs i (omega arith) f (λ j a g. omega (arith, d j (omega arith) g)))

module _ (N : Names) (bytes : List ℕ) where
  pub named_none : ((k : ℕ) → k < count N → bytes ≡ name_at N k → ⊥) → named N bytes ≡ []
  named_none h = none_from N bytes 0 N.objects (λ j p q. h j (omega arith))

  pub named_one : (k : ℕ) → k < count N → bytes ≡ name_at N k → ((i : ℕ) → i < count N → bytes ≡ name_at N i → i ≡ k)
      → named N bytes ≡ get_or N.objects k 0 ∷ []
  named_one k h e d =
      let s : 0 + k ≡ k = omega arith in
      one_from N bytes 0 N.objects k h (rw s e) (λ j a f. d j (omega arith) f ∙ sym s)

-- ---- a text from a place on

module _ (N : Names) (text : List ℕ) where
  pub mentions_at : (p : ℕ) → p < length text → mentions N (drop p text) ≡ named N (window N.width text p) ++ mentions N (drop (suc p) text)
  unfolding mentions
  mentions_at p h = rw (drop-cons text p 0 h)

  pub mentions_end : (p : ℕ) → length text ≤ p → mentions N (drop p text) ≡ []
  unfolding mentions
  mentions_end p h = rw (drop_of_length-le text h)

  -- places that name nothing
  pub mentions_skip : (k a : ℕ) → a + k ≤ length text → ((p : ℕ) → a ≤ p → p < a + k → named N (window N.width text p) ≡ [])
      → mentions N (drop a text) ≡ mentions N (drop (a + k) text)
  mentions_skip zero a l h = let e : a + 0 ≡ a = omega arith in rw e
  mentions_skip (suc k) a l h =
      let e : a + suc k ≡ suc a + k = omega arith in
      rw (e, mentions_at a (omega arith), h a (omega arith) (omega arith))
      (mentions_skip k (suc a) (omega arith) (λ p x y. h p (omega arith) (omega arith)))
