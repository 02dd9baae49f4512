-- The top and the words after a reference is taken off are those of the runs then, by what is left of the run and what opens.
use mathlib.Core.Path.{◌≡◌, refl}
use mathlib.Core.List.{List, [], ◌∷◌}
use Prim.Native.Nat.{ℕ, zero, suc, ◌+◌, ◌-◌, ◌*◌, ◌≤◌}
use native.Mathlib.Omega.{arith}
use borrow.Author.Tests.{lt-ltb, le-ltb}
use lib.ListN.{length, set, length-set}
use lib.Dec.{ltb}
use mathlib.Core.Bool.{Bool, true, false, not}
use Rattle.laws.specs.Choice.{pick}
use Rattle.machine.specs.Run.{Run, run, run_from}
use Rattle.machine.specs.Machine.{onward_runs}
use Rattle.worker.specs.declared.stretch.Top.{Top}
use Rattle.worker.specs.Stretch.{Holds, top_with, Told, goes_on, next_top, next_words, popped}
use Rattle.worker.proofs.Pairs.{holds_push, holds_pop, pop_first, pop_end}

top_equal : {u u' f f' e e' : ℕ} → u ≡ u' → f ≡ f' → e ≡ e' → top_with u f e ≡ top_with u' f' e'
top_equal p q r = rw (p, q, r)

-- whether there are runs
abbrev pub some? : List Run → Bool
some? [] = false
some? (r ∷ rs) = true

module _ (s : List ℕ) (e : ℕ) (rs : List Run) (h : Holds s (2 * length rs) rs) (room : 2 * length rs + 2 ≤ length s) (f g : ℕ) where
  -- the top before
  abbrev before : ℕ → Top
  before j = top_with (2 * length rs) e (e + suc j)

  told : (j d : ℕ) → g ≡ f + d → Told (onward_runs e j (run_from f d) rs) (next_top s (before j) f g) (next_words s (before j) f g)
  told (suc j) (suc d) q =
      rw (lt-ltb (e + 1) (e + suc (suc j)) (omega arith), lt-ltb f g (omega arith))
      (record {
        top = top_equal (omega arith) (omega arith) (omega arith);
        holds = let n : 2 * suc (length rs) ≡ 2 * length rs + 2 = omega arith in rw n (holds_push s (2 * length rs) rs h f d g q room);
      })
  told (suc j) zero q =
      rw (lt-ltb (e + 1) (e + suc (suc j)) (omega arith), le-ltb f g (omega arith))
      (record { top = top_equal refl (omega arith) (omega arith); holds = h })
  told zero (suc d) q =
      rw (le-ltb (e + 1) (e + 1) (omega arith), lt-ltb f g (omega arith)) (record { top = top_equal refl refl q; holds = h })
  told zero zero q =
      rw (le-ltb (e + 1) (e + 1) (omega arith), le-ltb f g (omega arith)) (pop rs h)
    where
      pop : (rs : List Run) → Holds s (2 * length rs) rs → Told rs (popped s (top_with (2 * length rs) e (e + 1))) s
      pop [] h = record { top = refl; holds = h }
      pop (run f j ∷ rs) h =
          let u = 2 * suc (length rs) in
          let n : u - 2 ≡ 2 * length rs = omega arith in
          rw (le-ltb u 2 (omega arith))
          (record {
            top = top_equal n (pop_first s u f j rs h) (pop_end s u f j rs h);
            holds = rw n at (holds_pop s u f j rs h);
          })

  -- something is left where there are runs
  going : (j d : ℕ) → g ≡ f + d → goes_on (before j) f g ≡ some? (onward_runs e j (run_from f d) rs)
  going (suc j) d q = rw (lt-ltb (e + 1) (e + suc (suc j)) (omega arith))
  going zero (suc d) q = rw (le-ltb (e + 1) (e + 1) (omega arith), lt-ltb f g (omega arith))
  going zero zero q = rw (le-ltb (e + 1) (e + 1) (omega arith), le-ltb f g (omega arith)) (by rs)
    where
      by : (rs : List Run) → not (ltb (2 * length rs) 2) ≡ some? rs
      by [] = refl
      by (r ∷ rs) = rw (le-ltb (2 * suc (length rs)) 2 (omega arith))

  pub next_goes_on : (j : ℕ) → f ≤ g → goes_on (before j) f g ≡ some? (onward_runs e j (run_from f (g - f)) rs)
  next_goes_on j l = going j (g - f) (omega arith)

  -- the top and the words
  pub next_told : (j : ℕ) → f ≤ g → Told (onward_runs e j (run_from f (g - f)) rs) (next_top s (before j) f g) (next_words s (before j) f g)
  next_told j l = told j (g - f) (omega arith)

-- the words keep their number
pub length_next : (s : List ℕ) (t : Top) (f g : ℕ) → length (next_words s t f g) ≡ length s
length_next s t f g = by (ltb (t.first + 1) t.end) (ltb f g)
  where
    by : (p q : Bool) → length (pick p (pick q (set (set s t.used f) (t.used + 1) g) s) s) ≡ length s
    by true true = simp length-set
    by true false = refl
    by false q = refl
