-- How many runs a worker of a sound state has: at most one more than there are marked objects. All but its last run lie in
-- different objects, since all of these but the first are whole and no reference is carried twice; each takes a mark away.
use mathlib.Core.Path.{◌≡◌, ap, sym, subst}
use mathlib.Core.List.{List, [], ◌∷◌}
use mathlib.Core.Logic.{◌≢◌, by_cases}
use Prim.Native.Nat.{ℕ, zero, suc, ◌+◌, ◌-◌, ◌≤◌, ◌<◌}
use native.Mathlib.Decide.{dec_lt}
use native.Mathlib.Nat.{add-zero}
use native.Mathlib.Omega.{arith}
use lib.ListN.{length, set}
use lib.Seq.{get_or-set_other}
use Rattle.laws.specs.Every.{Every}
use Rattle.laws.specs.Sum.{sum, hit}
use Rattle.laws.proofs.Span.{span_hit_one}
use Rattle.graph.specs.Graph.{Graph, Leaves, objects, first, after}
use Rattle.graph.specs.Formed.{Formed}
use Rattle.machine.specs.Run.{Run, run, size}
use Rattle.machine.specs.Machine.{live}
use Rattle.machine.specs.Sound.{Marked, start_of, Within, Whole, WholeButLast, WholeInside, runs_sum}
use Rattle.theorems.proofs.Marks.{live_less}

-- ---- a reference leaves one object

module _ {G : Graph} (F : Formed G) where
  -- offsets do not fall
  offsets_rise : (d u : ℕ) → u + d ≤ objects G → first G u ≤ first G (u + d)
  offsets_rise zero u h = rw add-zero (omega arith)
  offsets_rise (suc d) u h =
      let e : u + suc d ≡ suc (u + d) = omega arith in
      omega (arith, offsets_rise d u (omega arith), F.rises (u + d) (omega arith), ap (first G) e)

  not_before : {e u v : ℕ} → Leaves G e u → Leaves G e v → u < v → ⊥
  not_before {e} {u} {v} l k h =
      let d : suc u + (v - suc u) ≡ v = omega arith in
      omega (arith, l.below, k.from, offsets_rise (v - suc u) (suc u) (omega (arith, k.object)), ap (first G) d)

  pub leaves_one : {e u v : ℕ} → Leaves G e u → Leaves G e v → u ≡ v
  leaves_one {e} {u} {v} l k =
      by_cases (dec_lt u v)
      (λ (p : u < v). absurd (not_before l k p))
      (λ (p : ¬ (u < v)). by_cases (dec_lt v u) (λ (q : v < u). absurd (not_before k l q)) (λ (q : ¬ (v < u)). omega arith))

-- ---- runs

module _ {G : Graph} (F : Formed G) where
  -- the run is all references of a marked object
  record WholeIn (ms : List ℕ) (r : Run) : Type 0 where
    object : ℕ
    is_object : object < objects G
    is_marked : Marked ms object
    begins : start_of r ≡ first G object
    ends : start_of r + size r ≡ after G object

  -- all but the last of some runs
  ButLast : List ℕ → List Run → Type 0
  ButLast ms [] = Unit {0}
  ButLast ms (r ∷ []) = Unit {0}
  ButLast ms (r ∷ q ∷ rs) = WholeIn ms r × ButLast ms (q ∷ rs)

  whole_in : (ms : List ℕ) (r : Run) → Within G ms r → Whole G r → WholeIn ms r
  whole_in ms (run f k) w h =
      let l : Leaves G f w.object = record { object = w.is_object; from = w.begins; below = omega (arith, w.ends) } in
      let j : Leaves G f h.object = record { object = h.is_object; from = omega (arith, h.begins); below = omega (arith, h.ends) } in
      let e = leaves_one F l j in
      record {
        object = h.object;
        is_object = h.is_object;
        is_marked = subst (λ (v : ℕ). Marked ms v) e w.is_marked;
        begins = h.begins;
        ends = h.ends;
      }

  but_last : (ms : List ℕ) (rs : List Run) → Every (Within G ms) rs → WholeButLast G rs → ButLast ms rs
  unfolding ButLast
  but_last ms [] w h = tt
  but_last ms (r ∷ []) w h = tt
  but_last ms (r ∷ q ∷ rs) w h = (whole_in ms r w.0 h.0, but_last ms (q ∷ rs) w.1 h.1)

  -- a whole run of e's object holds e
  holds_there : (ms : List ℕ) (r : Run) (t : WholeIn ms r) (e : ℕ) → Leaves G e t.object → runs_sum (hit e) (r ∷ []) ≡ 1
  unfolding runs_sum sum
  holds_there ms (run f k) t e l =
      omega (arith, span_hit_one e f (suc k) (omega (arith, t.begins, l.from)) (omega (arith, t.ends, l.below)))

  -- where e is not held, the runs lie in other objects than e's, so that its mark can be taken away
  module _ (ms : List ℕ) (v e : ℕ) (l : Leaves G e v) where
    other : (r : Run) → runs_sum (hit e) (r ∷ []) ≡ 0 → (t : WholeIn ms r) → t.object ≢ v
    other r h t q = omega (arith, h, holds_there ms r t e (subst (λ (u : ℕ). Leaves G e u) (sym q) l))

    without : (r : Run) → runs_sum (hit e) (r ∷ []) ≡ 0 → WholeIn ms r → WholeIn (set ms v 0) r
    without r h t =
        record {
          object = t.object;
          is_object = t.is_object;
          is_marked = rw (get_or-set_other ms v t.object 0 0 (other r h t)) t.is_marked;
          begins = t.begins;
          ends = t.ends;
        }

    withouts : (rs : List Run) → runs_sum (hit e) rs ≡ 0 → ButLast ms rs → ButLast (set ms v 0) rs
    unfolding ButLast runs_sum sum
    withouts [] h t = tt
    withouts (r ∷ []) h t = tt
    withouts (r ∷ q ∷ rs) h t = (without r (omega arith) t.0, withouts (q ∷ rs) (omega arith) t.1)

  -- a run that lies in a marked object, and runs behind it of which all but the last are whole
  few : (rs : List Run) (ms : List ℕ) (r : Run) → Within G ms r → ButLast ms rs → ((e : ℕ) → runs_sum (hit e) (r ∷ rs) ≤ 1) → length rs ≤ live ms
  unfolding ButLast runs_sum sum
  few [] ms r w t h = omega arith
  few (q ∷ []) ms r w t h = omega (arith, live_less ms w.object w.is_marked)
  few (q ∷ p ∷ rs) ms (run f k) w t h =
      let v = w.object in
      let l : Leaves G f v = record { object = w.is_object; from = w.begins; below = omega (arith, w.ends) } in
      let none : runs_sum (hit f) (q ∷ p ∷ rs) ≡ 0 = omega (arith, h f, span_hit_one f f (suc k) (omega arith) (omega arith)) in
      let u = without ms v f l q (omega (arith, none)) t.0 in
      let within : Within G (set ms v 0) q =
      record { object = u.object; is_object = u.is_object; is_marked = u.is_marked; begins = omega (arith, u.begins); ends = omega (arith, u.ends) } in
      let rest = withouts ms v f l (p ∷ rs) (omega (arith, none)) t.1 in
      omega (arith, live_less ms v w.is_marked, few (p ∷ rs) (set ms v 0) q within rest (λ (e : ℕ). omega (arith, h e)))

  pub runs_few : (ms : List ℕ) (rs : List Run) → Every (Within G ms) rs → WholeInside G rs → ((e : ℕ) → runs_sum (hit e) rs ≤ 1)
      → length rs ≤ suc (live ms)
  runs_few ms [] w t h = omega arith
  runs_few ms (r ∷ rs) w t h = omega (arith, few rs ms r w.0 (but_last ms rs w.1 t) h)
