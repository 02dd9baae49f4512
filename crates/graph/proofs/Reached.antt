-- The computed set `reached` is the set of objects that a chain leads to, and it is the least set that holds the
-- starts and is closed under references. What carries the argument: a round that marks nothing new leaves a closed
-- set, and n rounds cannot each mark something new.
use mathlib.Core.Path.{◌≡◌, refl, sym, ap, ◌∙◌, subst}
use mathlib.Core.List.{List, [], ◌∷◌}
use mathlib.Core.Logic.{◌⊎◌, inl, inr, ⊎_elim, by_cases}
use Prim.Native.Nat.{ℕ, zero, suc, ◌+◌, ◌-◌, ◌≤◌, ◌<◌}
use native.Mathlib.Omega.{arith}
use native.Mathlib.Decide.{dec_le}
use native.Mathlib.Nat.{le_refl}
use lib.ListN.{length, get_or, set, replicate, length-set, length-replicate}
use Rattle.laws.specs.Sum.{sum, hit}
use Rattle.laws.proofs.Sum.{hit_same, hit_equal}
use Rattle.graph.specs.Graph.{Graph, Leaves, objects, references, first, after, degree, target}
use Rattle.graph.specs.Formed.{Formed}
use Rattle.graph.specs.Chain.{Reach, here, on, set?, spread_run, spread_from, spread, rounds, closure, Closed, marks_at, reached}

-- object v is marked
abbrev pub Marked : List ℕ → ℕ → Type 0
Marked ms v = 0 < get_or ms v 0

-- ---- one mark more

none_there : (v : ℕ) → Marked [] v → ⊥
none_there zero h = omega arith
none_there (suc v) h = omega arith

-- what is marked after setting one mark is that one or was marked before
set_cases : (ms : List ℕ) (t k v : ℕ) → Marked (set ms t k) v → (v ≡ t) ⊎ Marked ms v
set_cases [] t k v h = absurd (none_there v h)
set_cases (m ∷ ms) zero k zero h = inl refl
set_cases (m ∷ ms) zero k (suc v) h = inr h
set_cases (m ∷ ms) (suc t) k zero h = inr h
set_cases (m ∷ ms) (suc t) k (suc v) h = ⊎_elim (λ (e : v ≡ t). inl (ap suc e)) (λ (q : Marked ms v). inr q) (set_cases ms t k v h)

set_there : (ms : List ℕ) (t k : ℕ) → t < length ms → Marked (set ms t (suc k)) t
set_there [] t k h = absurd (omega arith)
set_there (m ∷ ms) zero k h = omega arith
set_there (m ∷ ms) (suc t) k h = set_there ms t k (omega arith)

set_grows : (ms : List ℕ) (t k v : ℕ) → Marked ms v → Marked (set ms t (suc k)) v
set_grows [] t k v h = absurd (none_there v h)
set_grows (m ∷ ms) zero k zero h = omega arith
set_grows (m ∷ ms) zero k (suc v) h = h
set_grows (m ∷ ms) (suc t) k zero h = h
set_grows (m ∷ ms) (suc t) k (suc v) h = set_grows ms t k v h

-- ---- along the references of one object

run_length : (G : Graph) (k e : ℕ) (ms : List ℕ) → length (spread_run G e k ms) ≡ length ms
unfolding spread_run
run_length G zero e ms = refl
run_length G (suc k) e ms = run_length G k (suc e) (set ms (target G e) 1) ∙ length-set ms (target G e) 1

run_grows : (G : Graph) (k e : ℕ) (ms : List ℕ) (v : ℕ) → Marked ms v → Marked (spread_run G e k ms) v
unfolding spread_run
run_grows G zero e ms v h = h
run_grows G (suc k) e ms v h = run_grows G k (suc e) (set ms (target G e) 1) v (set_grows ms (target G e) 0 v h)

run_marks : (G : Graph) (k e : ℕ) (ms : List ℕ) (i : ℕ) → i < k → target G (e + i) < length ms → Marked (spread_run G e k ms) (target G (e + i))
unfolding spread_run
run_marks G zero e ms i h q = absurd (omega arith)
run_marks G (suc k) e ms zero h q =
    let z : e + 0 ≡ e = omega arith in
    rw z (run_grows G k (suc e) (set ms (target G e) 1) (target G e) (set_there ms (target G e) 0 (rw z at q)))
run_marks G (suc k) e ms (suc i) h q =
    let z : e + suc i ≡ suc e + i = omega arith in
    rw z (run_marks G k (suc e) (set ms (target G e) 1) i (omega arith) (rw length-set (rw z at q)))

run_within : (G : Graph) (P : ℕ → Type 0) (k e : ℕ) (ms : List ℕ) → ((i : ℕ) → i < k → P (target G (e + i)))
    → ((v : ℕ) → Marked ms v → P v) → (v : ℕ) → Marked (spread_run G e k ms) v → P v
unfolding spread_run
run_within G P zero e ms f g v h = g v h
run_within G P (suc k) e ms f g v h =
    run_within G P k (suc e) (set ms (target G e) 1)
    (λ i q. let z : e + suc i ≡ suc e + i = omega arith in rw z at (f (suc i) (omega arith)))
    (λ w q.
    ⊎_elim
    (λ (p : w ≡ target G e). rw p (let z : e + 0 ≡ e = omega arith in rw z at (f 0 (omega arith))))
    (λ (p : Marked ms w). g w p)
    (set_cases ms (target G e) 1 w q))
    v
    h

-- ---- along the references of the marked ones among the first k objects

from_length : (G : Graph) (v x : ℕ) (ms : List ℕ) → length (spread_from G v x ms) ≡ length ms
from_length G v zero ms = refl
from_length G v (suc x) ms = run_length G (degree G v) (first G v) ms

from_grows : (G : Graph) (u x : ℕ) (ms : List ℕ) (v : ℕ) → Marked ms v → Marked (spread_from G u x ms) v
from_grows G u zero ms v h = h
from_grows G u (suc x) ms v h = run_grows G (degree G u) (first G u) ms v h

from_marks : (G : Graph) (u x : ℕ) (ms : List ℕ) (e : ℕ) → 0 < x → Leaves G e u → target G e < length ms
    → Marked (spread_from G u x ms) (target G e)
from_marks G u zero ms e h l q = absurd (omega arith)
from_marks G u (suc x) ms e h l q =
    let a : first G u ≤ e = l.from in
    let b : e < after G u = l.below in
    let z : first G u + (e - first G u) ≡ e = omega arith in
    rw z at (run_marks G (degree G u) (first G u) ms (e - first G u) (omega arith) (rw z q))

from_within : (G : Graph) (P : ℕ → Type 0) → Closed G P → (u x : ℕ) (ms : List ℕ) → u < objects G → (0 < x → P u)
    → ((v : ℕ) → Marked ms v → P v) → (v : ℕ) → Marked (spread_from G u x ms) v → P v
from_within G P cl u zero ms o pu g v h = g v h
from_within G P cl u (suc x) ms o pu g v h =
    run_within G P (degree G u) (first G u) ms
    (λ i q. cl u (first G u + i) (pu (omega arith)) (record { object = o; from = omega arith; below = omega arith }))
    g
    v
    h

spread_length : (G : Graph) (k : ℕ) (ms : List ℕ) → length (spread G k ms) ≡ length ms
unfolding spread
spread_length G zero ms = refl
spread_length G (suc k) ms = from_length G k (get_or (spread G k ms) k 0) (spread G k ms) ∙ spread_length G k ms

spread_grows : (G : Graph) (k : ℕ) (ms : List ℕ) (v : ℕ) → Marked ms v → Marked (spread G k ms) v
unfolding spread
spread_grows G zero ms v h = h
spread_grows G (suc k) ms v h = from_grows G k (get_or (spread G k ms) k 0) (spread G k ms) v (spread_grows G k ms v h)

spread_marks : (G : Graph) (k : ℕ) (ms : List ℕ) (u e : ℕ) → u < k → Marked ms u → Leaves G e u → target G e < length ms
    → Marked (spread G k ms) (target G e)
unfolding spread
spread_marks G zero ms u e h m l q = absurd (omega arith)
spread_marks G (suc k) ms u e h m l q =
    let r = spread G k ms in
    by_cases (dec_le k u)
    (λ (p : k ≤ u).
    let z : u ≡ k = omega arith in
    from_marks G k (get_or r k 0) r e (rw z at (spread_grows G k ms u m)) (subst (λ (w : ℕ). Leaves G e w) z l) (rw (spread_length G k ms) q))
    (λ (p : k ≤ u → ⊥). from_grows G k (get_or r k 0) r (target G e) (spread_marks G k ms u e (omega arith) m l q))

spread_within : (G : Graph) (P : ℕ → Type 0) → Closed G P → (k : ℕ) (ms : List ℕ) → k ≤ objects G
    → ((v : ℕ) → Marked ms v → P v) → (v : ℕ) → Marked (spread G k ms) v → P v
unfolding spread
spread_within G P cl zero ms o g v h = g v h
spread_within G P cl (suc k) ms o g v h =
    let r = spread G k ms in
    let f : (w : ℕ) → Marked r w → P w = spread_within G P cl k ms (omega arith) g in
    from_within G P cl k (get_or r k 0) r o (f k) f v h

-- ---- rounds

rounds_length : (G : Graph) (k : ℕ) (ms : List ℕ) → length (rounds G k ms) ≡ length ms
unfolding rounds
rounds_length G zero ms = refl
rounds_length G (suc k) ms = rounds_length G k (spread G (objects G) ms) ∙ spread_length G (objects G) ms

pub rounds_grows : (G : Graph) (k : ℕ) (ms : List ℕ) (v : ℕ) → Marked ms v → Marked (rounds G k ms) v
unfolding rounds
rounds_grows G zero ms v h = h
rounds_grows G (suc k) ms v h = rounds_grows G k (spread G (objects G) ms) v (spread_grows G (objects G) ms v h)

rounds_within : (G : Graph) (P : ℕ → Type 0) → Closed G P → (k : ℕ) (ms : List ℕ) → ((v : ℕ) → Marked ms v → P v)
    → (v : ℕ) → Marked (rounds G k ms) v → P v
unfolding rounds
rounds_within G P cl zero ms g v h = g v h
rounds_within G P cl (suc k) ms g v h =
    rounds_within G P cl k (spread G (objects G) ms) (spread_within G P cl (objects G) ms (le_refl (objects G)) g) v h

-- ---- counting

set_le : (x : ℕ) → set? x ≤ 1
set_le zero = omega arith
set_le (suc x) = omega arith

set_mono : (x y : ℕ) → (0 < x → 0 < y) → set? x ≤ set? y
set_mono zero y f = omega arith
set_mono (suc x) zero f = absurd (omega (arith, f (omega arith)))
set_mono (suc x) (suc y) f = omega arith

set_back : (x y : ℕ) → set? y ≤ set? x → 0 < y → 0 < x
set_back zero zero h p = p
set_back zero (suc y) h p = absurd (omega arith)
set_back (suc x) y h p = omega arith

-- a list that marks at least as much counts at least as many
count_mono : (a b : List ℕ) → length a ≡ length b → ((v : ℕ) → Marked a v → Marked b v) → sum set? a ≤ sum set? b
unfolding sum
count_mono [] b e f = omega arith
count_mono (x ∷ a) [] e f = absurd (omega arith)
count_mono (x ∷ a) (y ∷ b) e f =
    omega (arith, set_mono x y (f 0), count_mono a b (omega arith) (λ v. f (suc v)))

-- and if it counts no more, it marks no more
pub count_same : (a b : List ℕ) → length a ≡ length b → ((v : ℕ) → Marked a v → Marked b v) → sum set? b ≤ sum set? a
    → (v : ℕ) → Marked b v → Marked a v
unfolding sum
count_same [] [] e f h v m = absurd (none_there v m)
count_same [] (y ∷ b) e f h v m = absurd (omega arith)
count_same (x ∷ a) [] e f h v m = absurd (omega arith)
count_same (x ∷ a) (y ∷ b) e f h zero m =
    set_back x y (omega (arith, count_mono a b (omega arith) (λ v. f (suc v)))) m
count_same (x ∷ a) (y ∷ b) e f h (suc v) m =
    count_same a b (omega arith) (λ v. f (suc v)) (omega (arith, set_mono x y (f 0))) v m

count_le : (a : List ℕ) → sum set? a ≤ length a
unfolding sum
count_le [] = omega arith
count_le (x ∷ a) = omega (arith, set_le x, count_le a)

-- a list that counts as many as it is long marks everything
count_full : (a : List ℕ) → length a ≤ sum set? a → (v : ℕ) → v < length a → Marked a v
unfolding sum
count_full [] h v q = absurd (omega arith)
count_full (zero ∷ a) h v q = absurd (omega (arith, count_le a))
count_full (suc x ∷ a) h zero q = omega arith
count_full (suc x ∷ a) h (suc v) q = count_full a (omega arith) v (omega arith)

-- ---- closed after n rounds

module _ (G : Graph) (ok : Formed G) where
  -- a reference leads to an object
  target_inside : (e u : ℕ) → Leaves G e u → target G e < objects G
  target_inside e u l = ok.inside e (below_all u l)
    where
      to_last : (k u : ℕ) → suc u + k ≡ objects G → after G u ≤ first G (objects G)
      to_last zero u q = let z : suc u ≡ objects G = omega arith in rw z (le_refl (first G (objects G)))
      to_last (suc k) u q =
          let i = to_last k (suc u) (omega arith) in
          let r = ok.rises (suc u) (omega arith) in
          omega arith

      below_all : (u : ℕ) → Leaves G e u → e < references G
      below_all u l =
          let o = l.object in
          let t = to_last (objects G - suc u) u (omega arith) in
          let a = ok.to_all in
          let b = l.below in
          omega arith

  -- a closed set stays closed
  closed_spread : (ms : List ℕ) → length ms ≡ objects G → Closed G (Marked ms) → Closed G (Marked (spread G (objects G) ms))
  closed_spread ms n cl u e h l =
      spread_grows G (objects G) ms (target G e)
      (cl u e (spread_within G (Marked ms) cl (objects G) ms (le_refl (objects G)) (λ v q. q) u h) l)

  closed_rounds : (k : ℕ) (ms : List ℕ) → length ms ≡ objects G → Closed G (Marked ms) → Closed G (Marked (rounds G k ms))
  unfolding rounds
  closed_rounds zero ms n cl = cl
  closed_rounds (suc k) ms n cl =
      closed_rounds k (spread G (objects G) ms) (spread_length G (objects G) ms ∙ n) (closed_spread ms n cl)

  -- a round that marks nothing new shows a closed set
  still_closed : (ms : List ℕ) → length ms ≡ objects G → sum set? (spread G (objects G) ms) ≤ sum set? ms → Closed G (Marked ms)
  still_closed ms n h u e m l =
      let t : target G e < length ms = rw n (target_inside e u l) in
      count_same ms (spread G (objects G) ms) (sym (spread_length G (objects G) ms)) (spread_grows G (objects G) ms) h (target G e)
      (spread_marks G (objects G) ms u e l.object m l t)

  -- as many rounds as objects are left unmarked close the set
  rounds_close : (k : ℕ) (ms : List ℕ) → length ms ≡ objects G → objects G ≤ sum set? ms + k → Closed G (Marked (rounds G k ms))
  unfolding rounds
  rounds_close zero ms n h = λ u e m l. count_full ms (omega arith) (target G e) (rw n (target_inside e u l))
  rounds_close (suc k) ms n h =
      let r = spread G (objects G) ms in
      let rn : length r ≡ objects G = spread_length G (objects G) ms ∙ n in
      by_cases (dec_le (sum set? r) (sum set? ms))
      (λ (p : sum set? r ≤ sum set? ms). closed_rounds k r rn (closed_spread ms n (still_closed ms n p)))
      (λ (p : sum set? r ≤ sum set? ms → ⊥). rounds_close k r rn (omega arith))

-- ---- the starts

marks_at_length : (vs ms : List ℕ) → length (marks_at vs ms) ≡ length ms
unfolding marks_at
marks_at_length [] ms = refl
marks_at_length (v ∷ vs) ms = marks_at_length vs (set ms v 1) ∙ length-set ms v 1

marks_at_grows : (vs ms : List ℕ) (v : ℕ) → Marked ms v → Marked (marks_at vs ms) v
unfolding marks_at
marks_at_grows [] ms v h = h
marks_at_grows (u ∷ vs) ms v h = marks_at_grows vs (set ms u 1) v (set_grows ms u 0 v h)

pub starts_marked : (vs ms : List ℕ) (v : ℕ) → 0 < sum (hit v) vs → v < length ms → Marked (marks_at vs ms) v
unfolding marks_at sum
starts_marked [] ms v h q = absurd (omega arith)
starts_marked (u ∷ vs) ms v h q =
    by_cases (dec_le 1 (hit v u))
    (λ (p : 1 ≤ hit v u).
    let z : v ≡ u = hit_equal v u p in
    marks_at_grows vs (set ms u 1) v (rw z (set_there ms u 0 (rw z at q))))
    (λ (p : 1 ≤ hit v u → ⊥). starts_marked vs (set ms u 1) v (omega arith) (rw length-set q))

starts_only : (vs ms : List ℕ) (P : ℕ → Type 0) → ((v : ℕ) → 0 < sum (hit v) vs → P v) → ((v : ℕ) → Marked ms v → P v)
    → (v : ℕ) → Marked (marks_at vs ms) v → P v
unfolding marks_at sum
starts_only [] ms P f g v h = g v h
starts_only (u ∷ vs) ms P f g v h =
    starts_only vs (set ms u 1) P (λ w q. f w (omega arith))
    (λ w q. ⊎_elim (λ (p : w ≡ u). rw p (f u (omega (arith, hit_same u)))) (λ (p : Marked ms w). g w p) (set_cases ms u 1 w q))
    v
    h

none_marked : (n v : ℕ) → Marked (replicate n 0) v → ⊥
none_marked zero v h = none_there v h
none_marked (suc n) zero h = omega arith
none_marked (suc n) (suc v) h = none_marked n v h

-- ---- the law of any marks

pub closure_length : (G : Graph) (ms : List ℕ) → length (closure G ms) ≡ length ms
unfolding closure
closure_length G ms = rounds_length G (objects G) ms

pub closure_holds : (G : Graph) (ms : List ℕ) (v : ℕ) → Marked ms v → Marked (closure G ms) v
unfolding closure
closure_holds G ms = rounds_grows G (objects G) ms

pub closure_least : (G : Graph) (ms : List ℕ) (P : ℕ → Type 0) → ((v : ℕ) → Marked ms v → P v) → Closed G P
    → (v : ℕ) → Marked (closure G ms) v → P v
unfolding closure
closure_least G ms P f cl = rounds_within G P cl (objects G) ms f

pub closure_closed : (G : Graph) → Formed G → (ms : List ℕ) → length ms ≡ objects G → Closed G (Marked (closure G ms))
unfolding closure
closure_closed G ok ms n = rounds_close G ok (objects G) ms n (omega arith)

-- ---- the law of the starts

pub reached_length : (G : Graph) (starts : List ℕ) → length (reached G starts) ≡ objects G
unfolding reached
reached_length G starts =
    rounds_length G (objects G) (marks_at starts (replicate (objects G) 0))
    ∙ marks_at_length starts (replicate (objects G) 0)
    ∙ length-replicate (objects G) 0

-- the least set that holds the starts and is closed under references
pub reached_least : (G : Graph) (starts : List ℕ) (P : ℕ → Type 0) → ((v : ℕ) → 0 < sum (hit v) starts → P v) → Closed G P
    → (v : ℕ) → Marked (reached G starts) v → P v
unfolding reached
reached_least G starts P f cl =
    rounds_within G P cl (objects G) (marks_at starts (replicate (objects G) 0))
    (starts_only starts (replicate (objects G) 0) P f (λ v h. absurd (none_marked (objects G) v h)))

pub reached_chain : (G : Graph) (starts : List ℕ) (v : ℕ) → Marked (reached G starts) v → Reach G starts v
reached_chain G starts = reached_least G starts (Reach G starts) (λ v h. here h) (λ u e r l. on e r l)

module _ (G : Graph) (ok : Formed G) (starts : List ℕ) (inside : (v : ℕ) → 0 < sum (hit v) starts → v < objects G) where
  pub reached_closed : Closed G (Marked (reached G starts))
  unfolding reached
  reached_closed =
      rounds_close G ok (objects G) (marks_at starts (replicate (objects G) 0))
      (marks_at_length starts (replicate (objects G) 0) ∙ length-replicate (objects G) 0)
      (omega arith)

  pub reached_start : (v : ℕ) → 0 < sum (hit v) starts → Marked (reached G starts) v
  unfolding reached
  reached_start v h =
      rounds_grows G (objects G) (marks_at starts (replicate (objects G) 0)) v
      (starts_marked starts (replicate (objects G) 0) v h (rw length-replicate (inside v h)))

  pub chain_reached : {v : ℕ} → Reach G starts v → Marked (reached G starts) v
  chain_reached (here {v = v} h) = reached_start v h
  chain_reached (on {u = u} e r l) = reached_closed u e (chain_reached r) l

-- ---- sums over marked objects
