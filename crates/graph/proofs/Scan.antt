-- Scanning a list from the front: what is left to scan still decides the answer.
use mathlib.Core.Path.{◌≡◌, refl, ap}
use mathlib.Core.Bool.{Bool, true}
use mathlib.Core.List.{List, [], ◌∷◌}
use Prim.Native.Nat.{ℕ, suc, ◌+◌, ◌≤◌, ◌<◌}
use native.Mathlib.Omega.{arith}
use native.Mathlib.Numerals.{add-one}
use lib.Dec.{leb, eqb, leb-suc-suc}
use lib.ListN.{length, get_or, drop, drop_of_length-le}
use lib.Seq.{drop-cons}
use borrow.Author.Tests.{lt-ltb, le-ltb, le-leb, ne_eqb}
use Rattle.laws.specs.Choice.{both}
use Rattle.graph.specs.Graph.{rising, all_below}

-- the next number decides, and what is left behind it
pub below_at : (most : ℕ) (l : List ℕ) (i : ℕ) → i < length l
    → all_below (most + 1) (drop i l) ≡ both (leb (get_or l i 0) most) (all_below (most + 1) (drop (i + 1) l))
unfolding all_below
below_at most l i h = rw (add-one, add-one, drop-cons l i 0 h) (ap (λ (t : Bool). both t (all_below (suc most) (drop (suc i) l))) (leb-suc-suc (get_or l i 0) most))

pub below_end : (n : ℕ) (l : List ℕ) (i : ℕ) → length l ≤ i → all_below n (drop i l) ≡ true
unfolding all_below
below_end n l i h = rw (drop_of_length-le l h)

-- no number is below 0
pub below_none : (l : List ℕ) → all_below 0 l ≡ eqb (length l) 0
unfolding all_below
below_none [] = refl
below_none (a ∷ l) = rw (le-ltb a 0 (omega arith), ne_eqb (suc (length l)) 0 (λ e. omega (arith, e))) refl

-- each is below n, so all are
pub below_all : (n : ℕ) (l : List ℕ) → ((i : ℕ) → get_or l i 0 < n) → all_below n l ≡ true
unfolding all_below
below_all n [] h = refl
below_all n (a ∷ l) h = rw (lt-ltb a n (h 0)) (below_all n l (λ i. h (suc i)))

-- the next number, behind the last one looked at
pub rising_at : (l : List ℕ) (i last : ℕ) → i < length l
    → rising (last ∷ drop i l) ≡ both (leb last (get_or l i 0)) (rising (get_or l i 0 ∷ drop (i + 1) l))
unfolding rising
rising_at l i last h = rw (add-one, drop-cons l i 0 h)

-- before the first one 0 is as good as nothing
pub rising_start : (l : List ℕ) → rising (0 ∷ l) ≡ rising l
unfolding rising
rising_start [] = refl
rising_start (a ∷ l) = rw (le-leb 0 a (omega arith))

pub rising_end : (l : List ℕ) (i last : ℕ) → length l ≤ i → rising (last ∷ drop i l) ≡ true
unfolding rising
rising_end l i last h = rw (drop_of_length-le l h)
