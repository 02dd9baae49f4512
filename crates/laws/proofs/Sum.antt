-- Sums over lists when an element is replaced, and counting by `hit`. Everything is said with + alone, so that
-- `omega` closes what uses it.
use mathlib.Core.Path.{◌≡◌, refl, ap}
use mathlib.Core.List.{List, [], ◌∷◌, ◌++◌}
use mathlib.Core.Logic.{◌⊎◌, inl, inr, ◌≢◌}
use Prim.Native.Nat.{ℕ, zero, suc, ◌+◌, ◌*◌, ◌≤◌, ◌<◌}
use native.Mathlib.Omega.{arith}
use lib.ListN.{length, get_or, set, replicate}
use Rattle.laws.specs.Sum.{sum, hit}

-- ---- hit

pub hit_same : (i : ℕ) → hit i i ≡ 1
unfolding hit
hit_same zero = refl
hit_same (suc i) = hit_same i

pub hit_at_most_one : (i j : ℕ) → hit i j ≤ 1
unfolding hit
hit_at_most_one zero zero = omega arith
hit_at_most_one zero (suc j) = omega arith
hit_at_most_one (suc i) zero = omega arith
hit_at_most_one (suc i) (suc j) = hit_at_most_one i j

pub hit_equal : (i j : ℕ) → 0 < hit i j → i ≡ j
unfolding hit
hit_equal zero zero h = refl
hit_equal zero (suc j) h = absurd (omega arith)
hit_equal (suc i) zero h = absurd (omega arith)
hit_equal (suc i) (suc j) h = ap suc (hit_equal i j h)

pub hit_other : (i j : ℕ) → i ≢ j → hit i j ≡ 0
hit_other i j n = other (hit i j) refl
  where
    other : (k : ℕ) → hit i j ≡ k → k ≡ 0
    other zero e = refl
    other (suc k) e = absurd (n (hit_equal i j (omega arith)))

pub hit_swap : (i j : ℕ) → hit i j ≡ hit j i
unfolding hit
hit_swap zero zero = refl
hit_swap zero (suc j) = refl
hit_swap (suc i) zero = refl
hit_swap (suc i) (suc j) = hit_swap i j

-- no number stands in a list more often than the list is long
pub hits_limit : (v : ℕ) (l : List ℕ) → sum (hit v) l ≤ length l
unfolding sum
hits_limit v [] = omega arith
hits_limit v (x ∷ l) = omega (arith, hits_limit v l, hit_at_most_one v x)

-- ---- one of two summands counts

pub either_positive : (a b : ℕ) → 0 < a + b → (0 < a) ⊎ (0 < b)
either_positive zero b h = inr (omega arith)
either_positive (suc a) b h = inl (omega arith)

module _ {A : Type 0} where
  pub sum_append : (f : A → ℕ) (xs ys : List A) → sum f (xs ++ ys) ≡ sum f xs + sum f ys
  unfolding sum
  sum_append f [] ys = omega arith
  sum_append f (x ∷ xs) ys = omega (arith, sum_append f xs ys)

  pub sum_snoc : (f : A → ℕ) (xs : List A) (x : A) → sum f (xs ++ (x ∷ [])) ≡ sum f xs + f x
  unfolding sum
  sum_snoc f xs x = omega (arith, sum_append f xs (x ∷ []))

  pub sum_one : (xs : List A) → sum (λ (x : A). 1) xs ≡ length xs
  unfolding sum
  sum_one [] = refl
  sum_one (x ∷ xs) = omega (arith, sum_one xs)

  pub sum_none : (f : A → ℕ) (n : ℕ) (x : A) → f x ≡ 0 → sum f (replicate n x) ≡ 0
  unfolding sum
  sum_none f zero x e = refl
  sum_none f (suc n) x e = omega (arith, sum_none f n x e)

  -- two weights that agree have one sum
  pub sum_agree : (f g : A → ℕ) (l : List A) → ((x : A) → f x ≡ g x) → sum f l ≡ sum g l
  unfolding sum
  sum_agree f g [] h = refl
  sum_agree f g (x ∷ l) h = omega (arith, h x, sum_agree f g l h)

  -- a smaller weight has a smaller sum
  pub sum_below : (f g : A → ℕ) (l : List A) → ((x : A) → f x ≤ g x) → sum f l ≤ sum g l
  unfolding sum
  sum_below f g [] h = omega arith
  sum_below f g (x ∷ l) h = omega (arith, h x, sum_below f g l h)

  -- the same, where the weights are compared only at the list's elements
  pub sum_below_each : (f g : A → ℕ) (d : A) (l : List A) → ((i : ℕ) → f (get_or l i d) ≤ g (get_or l i d)) → sum f l ≤ sum g l
  unfolding sum
  sum_below_each f g d [] h = omega arith
  sum_below_each f g d (x ∷ l) h = omega (arith, h 0, sum_below_each f g d l (λ (i : ℕ). h (suc i)))

  pub sum_zero_each : (f : A → ℕ) (d : A) (l : List A) → ((i : ℕ) → f (get_or l i d) ≡ 0) → sum f l ≡ 0
  unfolding sum
  sum_zero_each f d [] h = refl
  sum_zero_each f d (x ∷ l) h = omega (arith, h 0, sum_zero_each f d l (λ (i : ℕ). h (suc i)))

  -- the sum of a combined weight
  pub sum_combine : (k : ℕ) (f g : A → ℕ) (l : List A) → sum (λ (x : A). k * f x + g x) l ≡ k * sum f l + sum g l
  unfolding sum
  sum_combine k f g [] = omega arith
  sum_combine k f g (x ∷ l) = omega (arith, sum_combine k f g l)

  -- what holds of every element after a replacement
  pub each_set : (P : A → Type 0) (l : List A) (i : ℕ) (y d : A) → ((j : ℕ) → P (get_or l j d)) → P y
      → (j : ℕ) → P (get_or (set l i y) j d)
  each_set P [] i y d h p j = h j
  each_set P (x ∷ l) zero y d h p zero = p
  each_set P (x ∷ l) zero y d h p (suc j) = h (suc j)
  each_set P (x ∷ l) (suc i) y d h p zero = h zero
  each_set P (x ∷ l) (suc i) y d h p (suc j) = each_set P l i y d (λ (k : ℕ). h (suc k)) p j

  module _ (f : A → ℕ) (d : A) where
    pub sum_at : (l : List A) (i : ℕ) (x : A) → get_or l i d ≡ x → i < length l → f x ≤ sum f l
    unfolding sum
    sum_at [] i x e h = absurd (omega arith)
    sum_at (z ∷ l) zero x e h = omega (arith, ap f e)
    sum_at (z ∷ l) (suc i) x e h = omega (arith, sum_at l i x e (omega arith))

    pub sum_set : (l : List A) (i : ℕ) (x y : A) → get_or l i d ≡ x → i < length l → sum f (set l i y) + f x ≡ sum f l + f y
    unfolding sum
    sum_set [] i x y e h = absurd (omega arith)
    sum_set (z ∷ l) zero x y e h = omega (arith, ap f e)
    sum_set (z ∷ l) (suc i) x y e h = omega (arith, sum_set l i x y e (omega arith))

    -- a replacement seen at place j, with no decision whether j is the place
    pub at_set : (l : List A) (i : ℕ) (x y : A) (j : ℕ) → get_or l i d ≡ x → i < length l
        → f (get_or (set l i y) j d) + hit i j * f x ≡ f (get_or l j d) + hit i j * f y
    unfolding hit
    at_set [] i x y j e h = absurd (omega arith)
    at_set (z ∷ l) zero x y zero e h = omega (arith, ap f e)
    at_set (z ∷ l) zero x y (suc j) e h = omega arith
    at_set (z ∷ l) (suc i) x y zero e h = omega arith
    at_set (z ∷ l) (suc i) x y (suc j) e h = at_set l i x y j e (omega arith)

  -- an element other than the default stands in the list
  pub inside : (l : List A) (i : ℕ) (d : A) (f : A → ℕ) → f d ≡ 0 → 0 < f (get_or l i d) → i < length l
  inside [] i d f e h = absurd (omega arith)
  inside (z ∷ l) zero d f e h = omega arith
  inside (z ∷ l) (suc i) d f e h = omega (arith, inside l i d f e h)

  -- an element's share, where the default's is 0
  pub sum_share : (f : A → ℕ) (d : A) → f d ≡ 0 → (l : List A) (i : ℕ) → f (get_or l i d) ≤ sum f l
  unfolding sum
  sum_share f d e [] i = omega arith
  sum_share f d e (z ∷ l) zero = omega arith
  sum_share f d e (z ∷ l) (suc i) = omega (arith, sum_share f d e l i)

  -- a sum above 0 has a summand above 0
  pub sum_positive : (f : A → ℕ) (d : A) (l : List A) → 0 < sum f l → (i : ℕ) × (i < length l) × (0 < f (get_or l i d))
  unfolding sum
  sum_positive f d [] h = absurd (omega arith)
  sum_positive f d (x ∷ l) h = found (λ (p : 0 < sum f l). sum_positive f d l p) (either_positive (f x) (sum f l) h)
    where
      found : (0 < sum f l → (i : ℕ) × (i < length l) × (0 < f (get_or l i d))) → (0 < f x) ⊎ (0 < sum f l)
          → (i : ℕ) × (i < suc (length l)) × (0 < f (get_or (x ∷ l) i d))
      found more (inl p) = (0, omega arith, p)
      found more (inr p) = let r = more p in (suc r.0, omega (arith, r.1), r.2)

-- the default does not matter inside
pub default : {A : Type 0} (l : List A) (i : ℕ) (d d' : A) → i < length l → get_or l i d ≡ get_or l i d'
default [] i d d' h = absurd (omega arith)
default (z ∷ l) zero d d' h = refl
default (z ∷ l) (suc i) d d' h = default l i d d' (omega arith)
