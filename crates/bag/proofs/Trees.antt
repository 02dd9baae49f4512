-- Trees and pennants. What carries the argument: a tree reads the links of its own objects only, so links that are written elsewhere
-- leave it as it is; and two pennants that share no object, united, are one pennant of the objects of both.
use mathlib.Core.Path.{◌≡◌, refl, sym, ap, ◌∙◌}
use mathlib.Core.List.{List}
use mathlib.Core.Logic.{◌≢◌}
use Prim.Native.Nat.{ℕ, zero, suc, ◌+◌, ◌*◌, ◌^◌, ◌≤◌, ◌<◌}
use native.Mathlib.Omega.{arith}
use lib.ListN.{length, set, length-append, length-set}
use lib.Seq.{get_or-set_same, get_or-set_other}
use Rattle.laws.specs.Sum.{sum, hit}
use Rattle.laws.proofs.Sum.{hit_same, sum_append}
use Rattle.bag.specs.Bag.{times, left_of, right_of, tree_of, pennant_of, Same, HasLinks, united}

-- ---- how often an object stands there

pub times_tree : (v h : ℕ) (L : List ℕ) (x : ℕ)
    → times v (tree_of (suc h) L x) ≡ hit v x + (times v (tree_of h L (left_of L x)) + times v (tree_of h L (right_of L x)))
unfolding tree_of sum
times_tree v h L x = ap (λ (k : ℕ). hit v x + k) (sum_append (hit v) (tree_of h L (left_of L x)) (tree_of h L (right_of L x)))

pub times_pennant : (v k : ℕ) (L : List ℕ) (x : ℕ) → times v (pennant_of k L x) ≡ hit v x + times v (tree_of k L (left_of L x))
unfolding pennant_of sum
times_pennant v k L x = refl

-- the root is in it
pub root_there : (k : ℕ) (L : List ℕ) (x : ℕ) → 0 < times x (pennant_of k L x)
root_there k L x = omega (arith, times_pennant x k L x, hit_same x)

-- ---- sizes

tree_length : (h : ℕ) (L : List ℕ) (x : ℕ) → length (tree_of h L x) + 1 ≡ 2 ^ h
unfolding tree_of
tree_length zero L x = refl
tree_length (suc h) L x =
    omega (
      arith,
      tree_length h L (left_of L x),
      tree_length h L (right_of L x),
      length-append (tree_of h L (left_of L x)) (tree_of h L (right_of L x)),
    )

pub pennant_length : (k : ℕ) (L : List ℕ) (x : ℕ) → length (pennant_of k L x) ≡ 2 ^ k
unfolding pennant_of
pennant_length k L x = omega (arith, tree_length k L (left_of L x))

-- ---- links written elsewhere

pub tree_frame : (h : ℕ) (L L' : List ℕ) (x : ℕ) → ((v : ℕ) → 0 < times v (tree_of h L x) → Same L L' v) → tree_of h L' x ≡ tree_of h L x
unfolding tree_of
tree_frame zero L L' x f = refl
tree_frame (suc h) L L' x f =
    let s = f x (omega (arith, times_tree x h L x, hit_same x)) in
    let l = tree_frame h L L' (left_of L x) (λ v p. f v (omega (arith, times_tree v h L x))) in
    let r = tree_frame h L L' (right_of L x) (λ v p. f v (omega (arith, times_tree v h L x))) in
    rw (s.0, s.1, l, r)

pub pennant_frame : (k : ℕ) (L L' : List ℕ) (x : ℕ) → ((v : ℕ) → 0 < times v (pennant_of k L x) → Same L L' v)
    → pennant_of k L' x ≡ pennant_of k L x
unfolding pennant_of
pennant_frame k L L' x f =
    let l = (f x (root_there k L x)).0 in
    let t = tree_frame k L L' (left_of L x) (λ v p. f v (omega (arith, times_pennant v k L x))) in
    rw (l, t)

-- ---- uniting

pub united_others : (L : List ℕ) (x y v : ℕ) → v ≢ x → v ≢ y → Same L (united L x y) v
united_others L x y v a b = (
  get_or-set_other (set L (2 * y + 1) (left_of L x)) (2 * x) (2 * v) y 0 (λ e. a (omega arith))
      ∙ get_or-set_other L (2 * y + 1) (2 * v) (left_of L x) 0 (λ e. omega arith),
  get_or-set_other (set L (2 * y + 1) (left_of L x)) (2 * x) (2 * v + 1) y 0 (λ e. omega arith)
      ∙ get_or-set_other L (2 * y + 1) (2 * v + 1) (left_of L x) 0 (λ e. b (omega arith)),
)

module _ (k : ℕ) (L : List ℕ) (x y : ℕ) (once : (v : ℕ) → times v (pennant_of k L x) + times v (pennant_of k L y) ≤ 1)
    (hx : HasLinks L x) (hy : HasLinks L y) where
  apart : x ≢ y
  apart e =
      omega
      (arith, once x, times_pennant x k L x, times_pennant x k L y, hit_same x, ap (hit x) e)

  left_x : left_of (united L x y) x ≡ y
  left_x = get_or-set_same (set L (2 * y + 1) (left_of L x)) (2 * x) y 0 (simp length-set (omega arith))

  left_y : left_of (united L x y) y ≡ left_of L y
  left_y =
      get_or-set_other (set L (2 * y + 1) (left_of L x)) (2 * x) (2 * y) y 0 (λ e. apart (omega arith))
      ∙ get_or-set_other L (2 * y + 1) (2 * y) (left_of L x) 0 (λ e. omega arith)

  right_y : right_of (united L x y) y ≡ left_of L x
  right_y =
      get_or-set_other (set L (2 * y + 1) (left_of L x)) (2 * x) (2 * y + 1) y 0 (λ e. omega arith)
      ∙ get_or-set_same L (2 * y + 1) (left_of L x) 0 hy

  -- neither root is in the two trees below them
  below_x : tree_of k (united L x y) (left_of L x) ≡ tree_of k L (left_of L x)
  below_x =
      tree_frame k L (united L x y) (left_of L x)
      (λ v p.
      united_others L x y v
      (λ e. omega (arith, once v, times_pennant v k L x, ap (hit v) (sym e), hit_same v))
      (λ e. omega (arith, once v, times_pennant v k L x, times_pennant v k L y, ap (hit v) (sym e), hit_same v)))

  below_y : tree_of k (united L x y) (left_of L y) ≡ tree_of k L (left_of L y)
  below_y =
      tree_frame k L (united L x y) (left_of L y)
      (λ v p.
      united_others L x y v
      (λ e. omega (arith, once v, times_pennant v k L x, times_pennant v k L y, ap (hit v) (sym e), hit_same v))
      (λ e. omega (arith, once v, times_pennant v k L y, ap (hit v) (sym e), hit_same v)))

  -- the objects of both
  pub united_holds : (v : ℕ) → times v (pennant_of (suc k) (united L x y) x) ≡ times v (pennant_of k L x) + times v (pennant_of k L y)
  united_holds v =
      let U = united L x y in
      let a = times_pennant v (suc k) U x in
      let b = times_tree v k U (left_of U x) in
      let c : times v (tree_of (suc k) U (left_of U x)) ≡ hit v y + (times v (tree_of k L (left_of L y)) + times v (tree_of k L (left_of L x))) =
      rw left_x (times_tree v k U y ∙ rw (left_y, right_y, below_x, below_y)) in
      omega (arith, times_pennant v k L x, times_pennant v k L y)

-- the links of objects in neither
pub united_same : (k : ℕ) (L : List ℕ) (x y v : ℕ) → times v (pennant_of k L x) + times v (pennant_of k L y) ≡ 0 → Same L (united L x y) v
united_same k L x y v h =
    united_others L x y v
    (λ e. omega (arith, times_pennant v k L x, ap (hit v) (sym e), hit_same v))
    (λ e. omega (arith, times_pennant v k L y, ap (hit v) (sym e), hit_same v))

-- the same links, by two steps
pub same_then : (L L' L'' : List ℕ) (v : ℕ) → Same L L' v → Same L' L'' v → Same L L'' v
same_then L L' L'' v a b = (b.0 ∙ a.0, b.1 ∙ a.1)
