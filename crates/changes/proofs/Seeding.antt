-- The pairs looked at, one after the other.
use mathlib.Core.Path.{◌≡◌, refl, ◌∙◌}
use mathlib.Core.Bool.{true}
use mathlib.Core.List.{List, [], ◌∷◌}
use mathlib.Core.Logic.{by_cases}
use Prim.Native.Nat.{ℕ, ◌+◌, ◌≤◌, ◌<◌}
use native.Mathlib.Decide.{ℕ_discrete, dec_lt}
use native.Mathlib.Omega.{arith}
use lib.ListN.{length, get_or}
use Rattle.laws.specs.Sum.{sum}
use Rattle.laws.proofs.Sum.{hit_equal, hit_same}
use Rattle.graph.specs.Graph.{all_below}
use Rattle.graph.specs.Leaving.{unset?}
use Rattle.graph.proofs.Formed.{below_all}
use Rattle.machine.specs.Sound.{Marked}
use Rattle.changes.specs.Stores.{new_mark}
use Rattle.changes.specs.Marking.{listed, unmarked, Roomy, ListLeft, Touched, Seeded}
use Rattle.changes.proofs.Touching.{left_none, left_then, stays_marked}

-- the first i pairs were looked at
pub record Seeding (from to ms list ms' list' : List ℕ) (top' i : ℕ) : Type 0 where
  pub so_far : i ≤ length from
  pub marks_long : length ms' ≡ length ms
  pub list_long : length list' ≡ length list
  pub kept : (v : ℕ) → Marked ms v → get_or ms' v 0 ≡ get_or ms v 0
  pub fresh : (v : ℕ) → get_or ms v 0 ≡ 0 → Marked ms' v → get_or ms' v 0 ≡ new_mark
  pub looked : (j : ℕ) → j < i → Marked ms (get_or from j 0) → Marked ms' (get_or to j 0)
  pub within : (cl : List ℕ) → ((v : ℕ) → Marked ms v → Marked cl v)
      → ((j : ℕ) → j < length from → Marked cl (get_or from j 0) → Marked cl (get_or to j 0))
      → (v : ℕ) → Marked ms' v → Marked cl v
  pub holds : (v : ℕ) → listed v list' top' + unset? (get_or ms' v 0) ≡ unset? (get_or ms v 0)
  pub sized : top' + unmarked ms' ≡ unmarked ms
  pub left : ListLeft 0 ms list ms' list'

pub seeding_none : (from to ms list : List ℕ) → Seeding from to ms list ms list 0 0
unfolding sum
seeding_none from to ms list =
    record {
      so_far = omega arith;
      marks_long = refl;
      list_long = refl;
      kept = λ v h. refl;
      fresh = λ v e h. absurd (omega (arith, e, h));
      looked = λ j h. absurd (omega (arith, h));
      within = λ cl f g v h. f v h;
      holds = λ v. omega arith;
      sized = omega arith;
      left = left_none 0 ms list;
    }

module _ {from to ms list ms' list' : List ℕ} {top' i : ℕ} (a : Seeding from to ms list ms' list' top' i) where
  still_marked : (v : ℕ) → Marked ms v → Marked ms' v
  still_marked v h = omega (arith, h, a.kept v h)

  -- there is room
  pub seeding_room : Roomy ms list 0 → Roomy ms' list' top'
  seeding_room r = record { room = omega (arith, r.room, a.sized, a.list_long); few = omega (arith, r.few, a.list_long) }

  -- one whose source is not marked
  pub seeding_over : i < length from → get_or ms' (get_or from i 0) 0 ≡ 0 → Seeding from to ms list ms' list' top' (i + 1)
  seeding_over h z =
      record {
        so_far = omega (arith, h);
        marks_long = a.marks_long;
        list_long = a.list_long;
        kept = a.kept;
        fresh = a.fresh;
        looked = λ j q m.
            by_cases (ℕ_discrete j i)
            (λ (e : j ≡ i). absurd (omega (arith, z, still_marked (get_or from i 0) (rw e at m))))
            (λ e. a.looked j (omega (arith, q, e)) m);
        within = a.within;
        holds = a.holds;
        sized = a.sized;
        left = a.left;
      }

  -- one whose source is
  pub seeding_next : i < length from → Marked ms' (get_or from i 0) → {ms'' list'' : List ℕ} {top'' : ℕ}
      → Touched new_mark (get_or to i 0 ∷ []) ms' list' top' ms'' list'' top'' → Seeding from to ms list ms'' list'' top'' (i + 1)
  unfolding sum
  seeding_next h s t =
      record {
        so_far = omega (arith, h);
        marks_long = t.marks_long ∙ a.marks_long;
        list_long = t.list_long ∙ a.list_long;
        kept = λ v m. t.kept v (still_marked v m) ∙ a.kept v m;
        fresh = λ v e m.
            by_cases (dec_lt 0 (get_or ms' v 0)) (λ (p : 0 < get_or ms' v 0). t.kept v p ∙ a.fresh v e p)
            (λ p. (t.fresh v (omega (arith, p)) m).0);
        looked = λ j q m.
            by_cases (ℕ_discrete j i)
            (λ (e : j ≡ i). rw e (t.looked (get_or to i 0) (omega (arith, hit_same (get_or to i 0)))))
            (λ e. stays_marked t (get_or to j 0) (a.looked j (omega (arith, q, e)) m));
        within = λ cl f g v m.
            by_cases (dec_lt 0 (get_or ms' v 0)) (λ (p : 0 < get_or ms' v 0). a.within cl f g v p)
            (λ p.
            let w = (t.fresh v (omega (arith, p)) m).1 in
            rw (hit_equal v (get_or to i 0) (omega (arith, w))) (g i h (a.within cl f g (get_or from i 0) s)));
        holds = λ v. t.holds v ∙ a.holds v;
        sized = t.sized ∙ a.sized;
        left = left_then a.left (omega (arith, a.sized)) t.left;
      }

  pub seeding_end : length from ≤ i → Seeded from to ms list ms' list' top'
  seeding_end h =
      record {
        marks_long = a.marks_long;
        list_long = a.list_long;
        kept = a.kept;
        fresh = a.fresh;
        looked = λ j q m. a.looked j (omega (arith, q, h)) m;
        within = a.within;
        holds = a.holds;
        sized = a.sized;
        left = a.left;
      }

  -- source and target are among the marks
  module _ (h : i < length from) where
    pub source_there : all_below (length ms) from ≡ true → get_or from i 0 < length ms'
    source_there low = omega (arith, below_all (length ms) from low i h, a.marks_long)

    pub target_there : all_below (length ms) to ≡ true → length from ≡ length to → get_or to i 0 < length ms'
    target_there low e = omega (arith, below_all (length ms) to low i (omega (arith, h, e)), a.marks_long)
