-- Check 17: the scan of the marked objects' references, and what it says when it finds nothing.
use mathlib.Core.Path.{◌≡◌, refl, sym, ◌∙◌}
use mathlib.Core.Bool.{true, false, not}
use mathlib.Core.List.{List}
use mathlib.Core.Logic.{⊎_elim}
use Prim.Native.Nat.{ℕ, ◌+◌, ◌≤◌, ◌<◌}
use native.Mathlib.Numerals.{add-one}
use native.Mathlib.Omega.{arith}
use lib.Dec.{eqb}
use lib.ListN.{length, get_or, drop}
use borrow.Author.Tests.{eq-eqb, ne_eqb, eqb-false, not-true}
use Rattle.laws.specs.Test.{all_up_to}
use Rattle.laws.proofs.Decides.{never}
use Rattle.laws.proofs.Test.{both_is, either_true, either_right, tested, all_step, all_stop, all_end, all_hit, up_to_each}
use Rattle.graph.specs.Graph.{Graph, objects, references_of, target, all_below, well_formed}
use Rattle.graph.specs.Formed.{Formed}
use Rattle.graph.specs.Chain.{Closed}
use Rattle.graph.proofs.Formed.{formed}
use Rattle.graph.proofs.View.{view_has}
use Rattle.machine.specs.Sound.{Marked}
use Rattle.updates.specs.Call.{all_marked, closed_at}
use Rattle.changes.proofs.Following.{view_below}

-- ---- the objects of a list

module _ (ms l : List ℕ) where
  pub record Scanning (i : ℕ) : Type 0 where
    pub within : i ≤ length l
    pub left : all_marked ms (drop i l) ≡ all_marked ms l

  pub scanning_start : Scanning 0
  scanning_start = record { within = omega arith; left = refl }

  module _ {i : ℕ} (a : Scanning i) where
    pub scanning_next : i < length l → (get_or ms (get_or l i 0) 0 ≡ 0 → ⊥) → Scanning (i + 1)
    scanning_next h n =
        record {
          within = omega (arith, h);
          left = all_step (λ (t : ℕ). not (eqb (get_or ms t 0) 0)) 0 l i h (rw (ne_eqb (get_or ms (get_or l i 0) 0) 0 n)) ∙ a.left;
        }

    pub scanning_stop : i < length l → get_or ms (get_or l i 0) 0 ≡ 0 → false ≡ all_marked ms l
    scanning_stop h z =
        sym (all_stop (λ (t : ℕ). not (eqb (get_or ms t 0) 0)) 0 l i h (rw (eq-eqb (get_or ms (get_or l i 0) 0) 0 z))) ∙ a.left

    pub scanning_end : length l ≤ i → true ≡ all_marked ms l
    scanning_end h = sym (all_end (λ (t : ℕ). not (eqb (get_or ms t 0) 0)) 0 l i h) ∙ a.left

-- ---- all objects

module _ (G : Graph) (ms : List ℕ) where
  pub closed_zero : (v : ℕ) → get_or ms v 0 ≡ 0 → closed_at G ms v ≡ true
  closed_zero v z = rw (eq-eqb (get_or ms v 0) 0 z)

  pub closed_marked : (v : ℕ) → all_marked ms (references_of G v) ≡ true → closed_at G ms v ≡ true
  closed_marked v e = either_right (eqb (get_or ms v 0) 0) e

  closed_open : (v : ℕ) → (get_or ms v 0 ≡ 0 → ⊥) → all_marked ms (references_of G v) ≡ false → closed_at G ms v ≡ false
  closed_open v n e = rw (ne_eqb (get_or ms v 0) 0 n) e

  -- the objects below v are closed
  pub record ClosedTo (v : ℕ) : Type 0 where
    pub low : v ≤ length ms
    pub so_far : all_up_to v (closed_at G ms) ≡ true

  pub closed_start : ClosedTo 0
  unfolding all_up_to
  closed_start = record { low = omega arith; so_far = refl }

  pub closed_next : {v : ℕ} → ClosedTo v → v < length ms → closed_at G ms v ≡ true → ClosedTo (v + 1)
  unfolding all_up_to
  closed_next {v} a h e = record { low = omega (arith, h); so_far = rw (add-one v) (both_is a.so_far e) }

  pub closed_stop : {v n : ℕ} → v < n → (get_or ms v 0 ≡ 0 → ⊥) → all_marked ms (references_of G v) ≡ false → false ≡ all_up_to n (closed_at G ms)
  closed_stop {v} {n} h k e =
      ⊎_elim
      (λ (t : all_up_to n (closed_at G ms) ≡ true). never (up_to_each (closed_at G ms) n t v h) (closed_open v k e))
      (λ (t : all_up_to n (closed_at G ms) ≡ false). sym t)
      (tested (all_up_to n (closed_at G ms)))

  -- the view of an object names objects
  pub view_marks : well_formed G ≡ true → length ms + 1 ≡ length G.offsets → (v : ℕ) → v < length ms
      → all_below (length ms) (references_of G v) ≡ true
  view_marks w e v h =
      let q : length ms ≡ objects G = omega (arith, e) in
      rw q (view_below (formed G w) v (omega (arith, h, q)))

  -- nothing found: the marks are closed under the references
  pub found_closed : Formed G → all_up_to (objects G) (closed_at G ms) ≡ true → Closed G (Marked ms)
  found_closed F t u e m l =
      ⊎_elim
      (λ (z : eqb (get_or ms u 0) 0 ≡ true). never z (ne_eqb (get_or ms u 0) 0 (λ q. omega (arith, q, m))))
      (λ (a : all_marked ms (references_of G u) ≡ true).
      let p = all_hit (λ (v : ℕ). not (eqb (get_or ms v 0) 0)) (references_of G u) a (target G e) (view_has F l.object l) in
      let n : get_or ms (target G e) 0 ≡ 0 → ⊥ = eqb-false _ _ (not-true _ p) in
      omega (arith, n))
      (either_true (eqb (get_or ms u 0) 0) (all_marked ms (references_of G u)) (up_to_each (closed_at G ms) (objects G) t u l.object))
