-- One worker alone on the lent memories: from one part of a run to the next.
use Prim.Native.Nat.{ℕ, zero, suc, ◌+◌, ◌-◌, ◌*◌, ◌≤◌, ◌<◌, min}
use mathlib.Core.Path.{◌≡◌, refl, ap, ◌∙◌}
use mathlib.Core.List.{List, [], ◌∷◌, ◌++◌}
use native.Mathlib.Omega.{arith}
use borrow.Author.Tests.{eq-eqb, ne_eqb}
use lib.ListN.{length}
use Rattle.graph.specs.Graph.{graph}
use Rattle.laws.specs.Sum.{sum}
use Rattle.machine.specs.Run.{Run, run, run_from, carried}
use Rattle.machine.specs.Machine.{Setting}
use Rattle.theorems.proofs.Runs.{carried_append, carried_from}
use Rattle.worker.specs.declared.stretch.Top.{Top}
use Rattle.worker.specs.Stretch.{Holds, Told}
use Rattle.alone.specs.declared.Load.{Load}
use Rattle.alone.specs.declared.Found.{Found}
use Rattle.alone.specs.Alone.{Alone, PartReady, PartDone, load_with, polled_of, Going}
use Rattle.alone.proofs.Turns.{polled, moved_few, carried_few}

-- ---- the first run, by its top

pub record First (runs : List Run) (t : Top) (s : List ℕ) : Type 0 where
  pub more : ℕ
  pub below : List Run
  pub runs_are : runs ≡ run t.first more ∷ below
  pub end_is : t.end ≡ t.first + suc more
  pub holds : Holds s t.used below

pub first_of : (runs : List Run) (t : Top) (s : List ℕ) → Told runs t s → t.first < t.end → First runs t s
first_of [] t s x h = absurd (omega (arith, h, ap (λ (u : Top). u.first) x.top, ap (λ (u : Top). u.end) x.top))
first_of (run f j ∷ rs) t s x h = rw x.top (record { more = j; below = rs; runs_are = refl; end_is = refl; holds = x.holds })

pub none_of : (runs : List Run) (t : Top) (s : List ℕ) → Told runs t s → t.end ≤ t.first → runs ≡ []
none_of [] t s x h = refl
none_of (run f j ∷ rs) t s x h = absurd (omega (arith, h, ap (λ (u : Top). u.first) x.top, ap (λ (u : Top). u.end) x.top))

carried_none : carried [] ≡ 0
unfolding carried sum
carried_none = refl

first_carried : (f j : ℕ) (rs : List Run) → carried (run f j ∷ rs) ≡ suc j + carried rs
first_carried f j rs = carried_append (run f j ∷ []) rs ∙ ap (λ (k : ℕ). k + carried rs) (carried_from f (suc j))

module _ {offsets targets starts : List ℕ} {g : Setting} {marks work : List ℕ} {t : Top} {l : Load} {f w : ℕ} where
  -- ---- a poll, where the batch is done

  module _ (x : Going (graph offsets targets) starts g marks work t l f w) (h : t.first < t.end) where
    abbrev r : First x.runs t work
    r = first_of x.runs t work x.told h

    some_carried : 1 ≤ carried x.runs
    some_carried = omega (arith, ap carried r.runs_are, first_carried t.first r.more r.below)

    polled_going : Going (graph offsets targets) starts g marks work t (polled_of g.batch l) f w
    polled_going = by l.batch refl
      where
        by : (k : ℕ) → l.batch ≡ k → Going (graph offsets targets) starts g marks work t (polled_of g.batch l) f w
        by zero e =
            let c : l.carried ≡ carried x.runs = omega (arith, x.number, e) in
            let a : Alone (graph offsets targets) starts g marks 0 (run t.first r.more ∷ r.below) f w l.polls = rw (e, r.runs_are) at x.here in
            let b : carried x.runs ≡ carried (run t.first r.more ∷ r.below) = ap carried r.runs_are in
            rw (eq-eqb l.batch 0 e)
            (record {
              runs = run t.first r.more ∷ r.below;
              here = rw (c, b) (polled a);
              told = rw r.runs_are at x.told;
              long = x.long;
              number = omega (arith, c, b);
            })
        by (suc k) e = rw (ne_eqb l.batch 0 (λ z. omega (arith, z, e))) x

    batch_some : 1 ≤ (polled_of g.batch l).batch
    batch_some = by l.batch refl
      where
        by : (k : ℕ) → l.batch ≡ k → 1 ≤ (polled_of g.batch l).batch
        by zero e = rw (eq-eqb l.batch 0 e) (omega (arith, some_carried, x.number, e, x.here.accepted.some_batch))
        by (suc k) e = rw (ne_eqb l.batch 0 (λ z. omega (arith, z, e))) (omega (arith, e))

    polls_grow : l.polls ≤ (polled_of g.batch l).polls
    polls_grow = by l.batch refl
      where
        by : (k : ℕ) → l.batch ≡ k → l.polls ≤ (polled_of g.batch l).polls
        by zero e = rw (eq-eqb l.batch 0 e) (omega arith)
        by (suc k) e = rw (ne_eqb l.batch 0 (λ z. omega (arith, z, e))) (omega arith)

    -- where the load is then l'
    module _ {l' : Load} (e : l' ≡ polled_of g.batch l) where
      pub polled_as : Going (graph offsets targets) starts g marks work t l' f w
      polled_as = rw e polled_going

      pub batch_as : 1 ≤ l'.batch
      batch_as = rw e batch_some

      pub polls_as : l.polls ≤ l'.polls
      polls_as = rw e polls_grow

  -- the numbers do not wrap
  pub counts_few : Going (graph offsets targets) starts g marks work t l f w → f + w + l.polls ≤ 7 * length targets + 1
  counts_few x = omega (arith, moved_few x.here)

  pub load_few : Going (graph offsets targets) starts g marks work t l f w → l.carried + l.batch ≤ length targets
  load_few x = by x.runs x.here x.number
    where
      by : (rs : List Run) → Alone (graph offsets targets) starts g marks l.batch rs f w l.polls → l.carried + l.batch ≡ carried rs
          → l.carried + l.batch ≤ length targets
      by [] a e = omega (arith, e, carried_none)
      by (run e j ∷ rs) a n = omega (arith, n, carried_few a)

  -- ---- a part of the run

  module _ (x : Going (graph offsets targets) starts g marks work t l f w) (h : t.first < t.end) (b : 1 ≤ l.batch) {size : ℕ} (is : size ≡ min l.batch (t.end - t.first)) where
    abbrev q : First x.runs t work
    q = first_of x.runs t work x.told h

    abbrev left : ℕ
    left = t.end - t.first - size

    unfoldable pub part_of : PartReady offsets targets marks work t.first size t.used
    part_of =
        let a : size + (l.batch - size) ≡ l.batch = omega (arith, is) in
        let c : size + left ≡ suc q.more = omega (arith, is, q.end_is) in
        record {
          starts = starts;
          setting = g;
          more = left;
          batch = l.batch - size;
          below = q.below;
          f = f;
          w = w;
          p = l.polls;
          here = rw (a, c) (rw q.runs_are at x.here);
          holds = q.holds;
          long = x.long;
        }

    size_some : (1 ≤ size) × (t.first + size ≤ t.end) × (size ≤ l.batch)
    size_some = (omega (arith, is), omega (arith, is), omega (arith, is))

    module _ {marks' work' : List ℕ} {d : Found} {t' : Top} (y : PartDone part_of size marks' work' d)
        (told : Told (run_from (t.first + size) left ++ y.below) t' work') where
      going_next : Going (graph offsets targets) starts g marks' work' t' (load_with (l.batch - size) (l.carried + d.opened) l.polls) (f + size) (w + d.won)
      unfolding part_of
      going_next =
          let a : size - size + (l.batch - size) ≡ l.batch - size = omega arith in
          let c : size - size + left ≡ left = omega arith in
          record {
            runs = run_from (t.first + size) left ++ y.below;
            here = rw (a, c) at y.here;
            told = told;
            long = y.long ∙ x.long;
            number =
                omega (
                  arith,
                  is,
                  x.number,
                  ap carried q.runs_are,
                  first_carried t.first q.more q.below,
                  q.end_is,
                  y.number,
                  carried_append (run_from (t.first + size) left) y.below,
                  carried_from (t.first + size) left,
                );
          }

-- ---- a poll and a part: what is followed, and what is left behind it
module _ {offsets targets starts marks work : List ℕ} {g : Setting} {t : Top} {l l' : Load} {f w : ℕ}
    (x : Going (graph offsets targets) starts g marks work t l f w) (h : t.first < t.end) (p : l' ≡ polled_of g.batch l)
    {size : ℕ} (is : size ≡ min l'.batch (t.end - t.first)) where
  unfoldable pub part_ready : PartReady offsets targets marks work t.first size t.used
  part_ready = part_of (polled_as x h p) h (batch_as x h p) is

  pub part_size : (1 ≤ size) × (t.first + size ≤ t.end) × (size ≤ l'.batch)
  part_size = size_some (polled_as x h p) h (batch_as x h p) is

  pub part_followed : {marks' work' : List ℕ} {d : Found} {t' : Top}
      → ((y : PartReady offsets targets marks work t.first size t.used) → PartDone y size marks' work' d)
      → ((more : ℕ) (rs : List Run) → t.end ≡ t.first + size + more → Holds work' d.used rs
      → Told (run_from (t.first + size) more ++ rs) t' work')
      → Going (graph offsets targets) starts g marks' work' t' (load_with (l'.batch - size) (l'.carried + d.opened) l'.polls) (f + size) (w + d.won)
  unfolding part_of part_ready
  part_followed follows comes =
      let y = follows part_ready in
      going_next (polled_as x h p) h (batch_as x h p) is y
      (comes (t.end - t.first - size) y.below (omega (arith, part_size.1)) y.holds)
