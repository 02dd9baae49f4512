-- Every order of the elements of a list is among its orders.
use mathlib.Core.Path.{◌≡◌, refl, ap, sym}
use mathlib.Core.List.{List, [], ◌∷◌, ◌++◌, map}
use mathlib.Core.Logic.{by_cases}
use Prim.Native.Nat.{ℕ, zero, suc, ◌<◌}
use native.Mathlib.Decide.{dec_lt}
use native.Mathlib.Omega.{arith}
use lib.ListN.{length, get_or}
use Rattle.laws.specs.Blocks.{laid}
use Rattle.laws.specs.Sum.{sum, hit}
use Rattle.laws.proofs.Sum.{hit_equal, hit_same}
use Rattle.hands.specs.Deck.{taken, orders}

-- x stands in the list
pub data In {A : Type 0} (x : A) : List A → Type 0 where
  here : {y : A} {l : List A} → x ≡ y → In x (y ∷ l)
  there : {y : A} {l : List A} → In x l → In x (y ∷ l)

module _ {A : Type 0} where
  in_left : {x : A} (l r : List A) → In x l → In x (l ++ r)
  in_left [] r m = elim m [ ]
  in_left (y ∷ l) r (here e) = here e
  in_left (y ∷ l) r (there m) = there (in_left l r m)

  in_right : {x : A} (l r : List A) → In x r → In x (l ++ r)
  in_right [] r m = m
  in_right (y ∷ l) r m = there (in_right l r m)

  pub in_map : {B : Type 0} (f : A → B) {x : A} (l : List A) → In x l → In (f x) (map f l)
  in_map f [] m = elim m [ ]
  in_map f (y ∷ l) (here e) = here (ap f e)
  in_map f (y ∷ l) (there m) = there (in_map f l m)

  -- and at some place of it
  pub place : (d : A) {x : A} (l : List A) → In x l → (i : ℕ) × (i < length l) × (get_or l i d ≡ x)
  place d [] m = elim m [ ]
  place d (y ∷ l) (here e) = (0, omega arith, sym e)
  place d (y ∷ l) (there m) = let r = place d l m in (suc r.0, omega (arith, r.1), r.2)

-- among blocks laid end to end
in_laid : {A B : Type 0} (f : A → List B) {x : A} {z : B} (l : List A) → In x l → In z (f x) → In z (laid f l)
unfolding laid
in_laid f [] p m = elim p [ ]
in_laid f (y ∷ l) (here e) m = in_left (f y) (laid f l) (rw e at m)
in_laid f (y ∷ l) (there p) m = in_right (f y) (laid f l) (in_laid f l p m)

-- the two lists have the same elements, each as often
abbrev pub Same : List ℕ → List ℕ → Type 0
Same ys xs = (b : ℕ) → sum (hit b) ys ≡ sum (hit b) xs

-- what stands in a list can be taken out of it
record Out (y : ℕ) (xs : List ℕ) : Type 0 where
  pub rest : List ℕ
  pub among : In (y, rest) (taken xs)
  pub counts : Same (y ∷ rest) xs

out : (y : ℕ) (xs : List ℕ) → 0 < sum (hit y) xs → Out y xs
unfolding taken sum
out y [] h = absurd (omega arith)
out y (x ∷ xs) h =
    by_cases (dec_lt 0 (hit y x))
    (λ (p : 0 < hit y x).
    let e = hit_equal y x p in
    record { rest = xs; among = here (rw e refl); counts = λ b. rw e refl })
    (λ (p : ¬ (0 < hit y x)).
    let o = out y xs (omega arith) in
    record {
      rest = x ∷ o.rest;
      among = there (in_map (λ (q : ℕ × List ℕ). (q.0, x ∷ q.1)) (taken xs) o.among);
      counts = λ b. omega (arith, o.counts b);
    })

pub ordered : (k : ℕ) (xs ys : List ℕ) → length ys ≡ k → Same ys xs → In ys (orders k xs)
unfolding orders sum
ordered zero xs [] e s = here refl
ordered zero xs (y ∷ ys) e s = absurd (omega arith)
ordered (suc k) xs [] e s = absurd (omega arith)
ordered (suc k) xs (y ∷ ys) e s =
    let o = out y xs (omega (arith, s y, hit_same y)) in
    in_laid (λ (p : ℕ × List ℕ). map (λ (l : List ℕ). p.0 ∷ l) (orders k p.1)) (taken xs) o.among
    (in_map (λ (l : List ℕ). y ∷ l) (orders k o.rest) (ordered k o.rest ys (omega arith) (λ b. omega (arith, s b, o.counts b))))
