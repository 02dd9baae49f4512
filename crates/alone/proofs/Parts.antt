-- The runs of one worker alone in its stretch: pushed, taken off, and followed in parts.
use Prim.Native.Nat.{ℕ, zero, suc, ◌+◌, ◌-◌, ◌*◌, ◌≤◌, ◌<◌}
use mathlib.Core.Path.{◌≡◌, refl, ap, ◌∙◌}
use mathlib.Core.List.{List, [], ◌∷◌, ◌++◌}
use native.Mathlib.Omega.{arith}
use native.Mathlib.Numerals.{add-one}
use lib.ListN.{length, get_or, set, take, drop, length-drop}
use lib.Seq.{get_or-take, get_or-drop, length-take-le}
use Rattle.laws.proofs.Sum.{default}
use Rattle.graph.specs.Graph.{Graph, graph, references, first, after, degree, target}
use Rattle.graph.proofs.OverMarked.{after_limit}
use Rattle.machine.specs.Run.{Run, run, run_from, leaving}
use Rattle.theorems.proofs.Runs.{carried_append, carried_from}
use Rattle.worker.specs.Stretch.{Holds, top_with, Told}
use Rattle.worker.proofs.Pairs.{holds_none, holds_push, holds_pop, pop_first, pop_end}
use Rattle.alone.specs.declared.Found.{Found}
use Rattle.alone.specs.Alone.{Alone, OneReady, OneDone, PartReady, PartDone}
use Rattle.alone.proofs.Turns.{run_inside, target_inside, runs_few, carried_few, marks_long, won_few, looked, claimed}

-- ---- pushed

module _ {s : List ℕ} {used first end : ℕ} {rs : List Run} (h : Holds s used rs) where
  pub pushed : first < end → used + 2 ≤ length s → Holds (set (set s used first) (used + 1) end) (used + 2) (run_from first (end - first) ++ rs)
  pushed l room = let e : end - first ≡ suc (end - first - 1) = omega arith in rw e (holds_push s used rs h first (end - first - 1) end (omega arith) room)

  pub not_pushed : end ≤ first → Holds s used (run_from first (end - first) ++ rs)
  not_pushed l = let e : end - first ≡ 0 = omega arith in rw e h

-- ---- the run to be followed next

-- what is left of the run
pub left_told : {s : List ℕ} {used first end : ℕ} (more : ℕ) (rs : List Run) → end ≡ first + more → Holds s used rs → first < end
    → Told (run_from first more ++ rs) (top_with used first end) s
left_told zero rs e h l = absurd (omega arith)
left_told {s} {used} (suc more) rs e h l = rw (e, h.count) (record { top = refl; holds = rw h.count at h })

-- there is none
pub none_told : {s : List ℕ} {used first end : ℕ} (more : ℕ) (rs : List Run) → end ≡ first + more → Holds s used rs → end ≤ first → used < 2
    → Told (run_from first more ++ rs) (top_with 0 0 0) s
none_told {s} (suc more) rs e h l u = absurd (omega arith)
none_told {s} zero [] e h l u = record { top = refl; holds = holds_none s }
none_told {s} zero (r ∷ rs) e h l u = absurd (omega (arith, h.count))

-- the one pushed last
pub last_told : {s : List ℕ} {used first end : ℕ} (more : ℕ) (rs : List Run) → end ≡ first + more → Holds s used rs → end ≤ first → 2 ≤ used
    → Told (run_from first more ++ rs) (top_with (used - 2) (get_or s (used - 2) 0) (get_or s (used - 2 + 1) 0)) s
last_told {s} (suc more) rs e h l u = absurd (omega arith)
last_told {s} zero [] e h l u = absurd (omega (arith, h.count))
last_told {s} {used} zero (run f j ∷ rs) e h l u =
    let n : used - 2 ≡ 2 * length rs = omega (arith, h.count) in
    record {
      top = rw (pop_first s used f j rs h, pop_end s used f j rs h, n) refl;
      holds = rw n at (holds_pop s used f j rs h);
    }

-- ---- a part of a run: none of it is followed yet, and one more

module _ {offsets targets marks s : List ℕ} {from size used : ℕ} (x : PartReady offsets targets marks s from size used) where
  abbrev G : Graph
  G = graph offsets targets

  pub part_begun : (r : Found) → r.used ≡ used → r.won ≡ 0 → r.opened ≡ 0 → PartDone x 0 marks s r
  part_begun r u w o =
      let a : size - 0 ≡ size = omega arith in
      let b : from + 0 ≡ from = omega arith in
      let c : x.f + 0 ≡ x.f = omega arith in
      let d : x.w + r.won ≡ x.w = omega (arith, w) in
      record { below = x.below; here = rw (a, b, c, d) x.here; holds = rw u x.holds; long = refl; number = omega (arith, o) }

  -- the references of the part, as many as it says
  pub part_length : from + size ≤ references G → length (take (from + size - from) (drop from targets)) ≡ size
  part_length h =
      let n : from + size - from ≡ size = omega arith in
      rw n (length-take-le size (drop from targets) (rw length-drop (omega arith)))

  -- the reference e is next
  module _ {done : ℕ} {marks' s' : List ℕ} {r : Found} (d : PartDone x done marks' s' r) (l : done < size) {e : ℕ} (is : from + done ≡ e) where
    here_next : Alone G x.starts x.setting marks' (suc (size - suc done + x.batch)) (run e (size - suc done + x.more) ∷ d.below)
        (x.f + done) (x.w + r.won) x.p
    here_next =
        let a : size - done + x.batch ≡ suc (size - suc done + x.batch) = omega arith in
        let b : size - done + x.more ≡ suc (size - suc done + x.more) = omega arith in
        rw (a, b, is) at d.here

    -- it and those behind it in the part
    pub references_there : e + (size - done) ≤ references G
    references_there = omega (arith, run_inside here_next)

    -- read among the references of the part
    pub reference_is : get_or (take (from + size - from) (drop from targets)) done 0 ≡ target G e
    reference_is =
        let n : from + size - from ≡ size = omega arith in
        rw n (get_or-take size (drop from targets) done 0 l ∙ get_or-drop from targets done 0 ∙ ap (λ (i : ℕ). get_or targets i 0) is)

    -- where it leads
    abbrev v : ℕ
    v = target G e

    after_is : get_or offsets (v + 1) 0 ≡ after G v
    after_is = ap (λ (i : ℕ). get_or offsets i 0) (add-one v)

    pub one_ready : OneReady offsets marks' s' v r
    one_ready =
        let n = here_next in
        let t = target_inside n in
        record {
          marked_there = omega (arith, t, marks_long n);
          run_there = omega (arith, t);
          rises = rw after_is (n.accepted.formed.rises v t);
          room = omega (arith, runs_few n, d.holds.count, d.long, x.long);
          used_fits = omega (arith, runs_few n, d.holds.count, n.objects_limit);
          won_fits = omega (arith, won_few n, n.objects_limit);
          opened_fits =
              omega (
                arith,
                after_is,
                carried_few n,
                carried_append (run_from e (suc (size - suc done + x.more))) d.below,
                d.number,
                after_limit G n.accepted.formed v t,
                n.references_limit,
              );
        }

    -- followed, whether it is claimed or not
    pub part_next : {marks'' s'' : List ℕ} {r' : Found} → OneDone offsets marks' s' v r marks'' s'' r' → length s'' ≡ length s' → PartDone x (suc done) marks'' s'' r'
    part_next {marks''} {s''} {r'} o long = by (get_or marks' v 0) refl
      where
        a : from + suc done ≡ suc e
        a = omega (arith, is)

        b : x.f + suc done ≡ x.f + done + 1
        b = omega arith

        same : get_or marks' v 1 ≡ get_or marks' v 0
        same = default marks' v 1 0 one_ready.marked_there

        by : (m : ℕ) → get_or marks' v 0 ≡ m → PartDone x (suc done) marks'' s'' r'
        by (suc m) h =
            let q = o.seen (omega (arith, h)) in
            rw (q.0, q.1, q.2) (record { below = d.below; here = rw (a, b) (looked here_next m (same ∙ h)); holds = d.holds; long = d.long; number = d.number })
        by zero h =
            let q = o.claimed h in
            let c : x.w + r'.won ≡ x.w + r.won + 1 = omega (arith, q.1) in
            record {
              below = leaving G v ++ d.below;
              here = rw (a, b, c, q.0) (claimed here_next (same ∙ h));
              holds = rw after_is at (o.pushed h d.below d.holds);
              long = long ∙ d.long;
              number = omega (arith, carried_append (leaving G v) d.below, carried_from (first G v) (degree G v), d.number, q.2, after_is);
            }
