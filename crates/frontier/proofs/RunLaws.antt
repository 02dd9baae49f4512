-- One run: the object that it lies in, its bits, and whether it is whole.
use mathlib.Core.Path.{◌≡◌, sym, ◌∙◌}
use mathlib.Core.Bool.{Bool}
use mathlib.Core.List.{List}
use mathlib.Core.Logic.{by_cases}
use Prim.Native.Nat.{ℕ, suc, ◌+◌, ◌-◌, ◌/◌, ◌≤◌, ◌<◌}
use native.Mathlib.Numerals.{add-one}
use native.Mathlib.Decide.{dec_le}
use native.Mathlib.Omega.{arith}
use lib.Dec.{leb}
use borrow.Author.Tests.{le-leb, lt-leb}
use lib.ListN.{length, get_or}
use Rattle.laws.specs.Choice.{pick}
use Rattle.laws.specs.Decides.{Decides}
use Rattle.laws.proofs.Decides.{decides_same}
use Rattle.graph.specs.Graph.{Graph, Leaves, objects, references}
use Rattle.graph.proofs.OverMarked.{after_limit, offsets_rise}
use Rattle.machine.specs.Sound.{Marked, Within, Whole}
use Rattle.theorems.proofs.Room.{leaves_one}
use Rattle.frontier.specs.Index.{Indexable}
use Rattle.frontier.specs.Runs.{HasOwner, Owns, Marking, run_of, RunIs, LoadsThere}

-- ---- `object_of`

pub record Between (os : List ℕ) (e low high : ℕ) : Type 0 where
  pub order : low < high
  pub inside : high < length os
  pub from : get_or os low 0 ≤ e
  pub below : e < get_or os high 0

-- the half in which e lies
pub between_half : {os : List ℕ} {e low size half low' : ℕ} → HasOwner os e → Between os e low (low + size) → 1 < size → half ≡ size / 2
    → low' ≡ pick (leb (get_or os (low + half) 0) e) (low + half) low → Between os e low' (low' + (size - half))
between_half {os} {e} {low} {size} {half} there x more is pick_is =
    by_cases (dec_le (get_or os (low + half) 0) e)
    (λ (p : get_or os (low + half) 0 ≤ e).
    let here : low + half + (size - half) ≡ low + size = omega (arith, is) in
    rw (pick_is, le-leb (get_or os (low + half) 0) e p, here) (record { order = omega (arith, is); inside = x.inside; from = p; below = x.below }))
    (λ (p : ¬ (get_or os (low + half) 0 ≤ e)).
    let up : low + half + (size - half - half) ≡ low + (size - half) = omega (arith, is) in
    rw (pick_is, lt-leb (get_or os (low + half) 0) e (omega arith))
    (record {
      order = omega (arith, is);
      inside = omega (arith, is, x.inside);
      from = x.from;
      below = omega (arith, rw up at (there.rise (low + half) (size - half - half) (omega (arith, is, x.inside))));
    }))

-- ---- `check_run`

-- a graph and its marks, beside saved words
pub marking_of : {G : Graph} {ms : List ℕ} {W : ℕ} {w : List ℕ} → LoadsThere G ms W w → Marking G ms
marking_of x = record { formed = x.formed; some = x.some; objects_limit = x.objects_limit; marks_length = x.marks_length }

-- the offsets of a graph have an index
pub indexable : {G : Graph} {ms : List ℕ} {W : ℕ} {w : List ℕ} → LoadsThere G ms W w → Indexable G.offsets
indexable {G} there =
    record {
      some = omega (arith, there.some);
      few = omega (arith, there.objects_limit, there.some);
      low = λ v h.
          let last : v + (objects G - v) ≡ objects G = omega arith in
          omega (arith, rw last at (offsets_rise G there.formed v (objects G - v) (omega arith)), there.formed.to_all, there.references_limit);
    }

module _ {G : Graph} {ms : List ℕ} {from to : ℕ} (there : Marking G ms) (h : from < to) where
  -- the run's end, and how many references it has
  ends : from + suc (to - suc from) ≡ to
  ends = omega arith

  pub run_limit : Within G ms (run_of from to) → to ≤ references G
  run_limit w = omega (arith, ends, w.ends, after_limit G there.formed w.object w.is_object)

  pub has_owner : to ≤ references G → HasOwner G.offsets from
  has_owner q =
      record {
        some = omega (arith, there.some);
        rise = λ v k h. offsets_rise G there.formed v k (omega arith);
        begins = omega (arith, there.formed.from_zero);
        ends = omega (arith, there.formed.to_all);
      }

  module _ {v : ℕ} (owns : Owns G.offsets from v) where
    leaves : Leaves G from v
    leaves = record { object = omega (arith, owns.object); from = owns.from; below = rw add-one at owns.below }

    -- the run lies in no other object
    pub run_object : (w : Within G ms (run_of from to)) → w.object ≡ v
    run_object w =
        leaves_one there.formed (record { object = w.is_object; from = w.begins; below = omega (arith, ends, w.ends) }) leaves

    pub run_after : Within G ms (run_of from to) → to ≤ get_or G.offsets (v + 1) 0
    run_after w = rw (add-one, ← run_object w) (omega (arith, ends, w.ends))

    pub run_marked : Within G ms (run_of from to) → Marked ms v
    run_marked w = rw (← run_object w) w.is_marked

    pub run_right : {whole : Bool} → to ≤ get_or G.offsets (v + 1) 0 → Marked ms v
        → Decides whole ((from ≡ get_or G.offsets v 0) × (to ≡ get_or G.offsets (v + 1) 0))
        → RunIs G ms from to whole
    run_right a m d =
        let inside = leaves in
        record {
          within =
              record {
                object = v;
                is_object = inside.object;
                is_marked = m;
                begins = owns.from;
                ends = rw ends (rw add-one at a);
              };
          whole =
              decides_same d
              (λ p. record { object = v; is_object = inside.object; begins = p.0; ends = ends ∙ (rw add-one at p.1) })
              (λ (w : Whole G (run_of from to)).
              let same : w.object ≡ v =
              leaves_one there.formed (record { object = w.is_object; from = omega (arith, w.begins); below = omega (arith, ends, w.ends) }) inside in
              (rw (← same) w.begins, rw (add-one, ← same) (sym ends ∙ w.ends)));
        }
