-- Which part of a worker's runs holds the last reference kept, as the words tell it: the front is the top, the back is the
-- lowest pair, and the middle is the pairs between them.
use mathlib.Core.Path.{◌≡◌, refl, sym, ap, ◌∙◌, subst}
use mathlib.Core.Bool.{Bool, true, false}
use mathlib.Core.Logic.{by_cases}
use mathlib.Core.List.{List, [], ◌∷◌, ◌++◌}
use Prim.Native.Nat.{ℕ, suc, ◌+◌, ◌-◌, ◌*◌, ◌≤◌, ◌<◌}
use native.Mathlib.Nat.{zero-add}
use native.Mathlib.Decide.{dec_le, dec_lt}
use native.Mathlib.Omega.{arith}
use borrow.Author.Tests.{lt-ltb, le-ltb, le-leb, lt-leb}
use lib.ListN.{length, get_or, set, take-append-drop}
use lib.Dec.{ltb}
use lib.Seq.{paste}
use Rattle.laws.specs.Choice.{pick}
use Rattle.laws.specs.Sum.{sum}
use Rattle.machine.specs.declared.frontier.Held.{Held}
use Rattle.machine.specs.declared.frontier.Held.TheVariants.{Front, Back, Middle}
use Rattle.machine.specs.Run.{Run, run, carried, keep, rest}
use Rattle.machine.specs.Split.{held, last_size}
use Rattle.theorems.proofs.Split.{last_within}
use Rattle.worker.specs.declared.stretch.Top.{Top}
use Rattle.worker.specs.Stretch.{Holds, top_with, Told, below, Sharing, InFront, Split, CutFound, KeptAbove}
use Rattle.worker.proofs.Pairs.{holds_pop, pop_first, pop_end}
use Rattle.worker.proofs.Cutting.{cut_high, cut_first, cut_end, kept_cut}

-- ---- the first run stands in the top, the others in the stretch

pub record Topped (rs : List Run) (t : Top) (s : List ℕ) : Type 0 where
  pub more : ℕ
  pub below : List Run
  pub whole : rs ≡ run t.first more ∷ below
  pub end_is : t.end ≡ t.first + suc more
  pub holds : Holds s t.used below

pub topped : (rs : List Run) (t : Top) (s : List ℕ) → Told rs t s → 0 < carried rs → Topped rs t s
unfolding carried sum
topped [] t s h l = absurd (omega arith)
topped (run f j ∷ rs) t s h l =
    let u : t.used ≡ 2 * length rs = ap (λ (x : Top). x.used) h.top in
    let f_is : t.first ≡ f = ap (λ (x : Top). x.first) h.top in
    let e : t.end ≡ f + suc j = ap (λ (x : Top). x.end) h.top in
    record { more = j; below = rs; whole = rw f_is; end_is = omega (arith, e, f_is); holds = rw u h.holds }

-- a run on top of those that a stretch holds
pub told_on : {s : List ℕ} {used : ℕ} {rs : List Run} → Holds s used rs → (f j e : ℕ) → e ≡ f + suc j → Told (run f j ∷ rs) (top_with used f e) s
told_on h f j e is = record { top = rw (h.count, is); holds = rw h.count at h }

-- the words of the stretch are those of the runs below the first
pub told_used : (rs : List Run) {t : Top} {s : List ℕ} → Told rs t s → t.used ≡ 2 * length (below rs)
told_used [] h = ap (λ (x : Top). x.used) h.top
told_used (run f j ∷ rs) h = ap (λ (x : Top). x.used) h.top

-- ---- what is left behind the first k references, where the first run holds them

rest_none : (rs : List Run) → rest 0 rs ≡ rs
unfolding rest
rest_none [] = refl
rest_none (run f j ∷ rs) =
    let n : f + 0 ≡ f = omega arith in
    let m : suc j - 0 ≡ suc j = omega arith in
    rw (le-ltb j 0 (omega arith), n, m)

-- the uppermost pair comes up
come_up : (rs : List Run) (s : List ℕ) (used : ℕ) → Holds s used rs → 0 < carried rs
    → Told rs (top_with (used - 2) (get_or s (used - 2) 0) (get_or s (used - 2 + 1) 0)) s
unfolding carried sum
come_up [] s used h l = absurd (omega arith)
come_up (run f j ∷ rs) s used h l =
    rw (pop_first s used f j rs h) (told_on (holds_pop s used f j rs h) f j (get_or s (used - 2 + 1) 0) (pop_end s used f j rs h))

module _ {s : List ℕ} {t : Top} {k : ℕ} (x : InFront s t k) where
  first_run : Topped x.runs t s
  first_run = topped x.runs t s x.told (omega (arith, x.enough))

  -- the first run is cut
  pub behind_cut : t.first + k < t.end → Told (rest k x.runs) (top_with t.used (t.first + k) t.end) s
  unfolding rest
  behind_cut l =
      let p = first_run in
      let n : suc p.more - k ≡ suc (p.more - k) = omega (arith, l, p.end_is) in
      let e : rest k x.runs ≡ run (t.first + k) (p.more - k) ∷ p.below =
      ap (λ (rs : List Run). rest k rs) p.whole ∙ rw (le-ltb p.more k (omega (arith, l, p.end_is)), n) in
      subst (λ (rs : List Run). Told rs (top_with t.used (t.first + k) t.end) s) (sym e)
      (told_on p.holds (t.first + k) (p.more - k) t.end (omega (arith, l, p.end_is)))

  -- it is kept whole: there are others
  module _ (l : t.end ≤ t.first + k) where
    kept_whole_size : k ≡ suc first_run.more
    kept_whole_size = omega (arith, l, x.short, first_run.end_is)

    some_below : 0 < carried first_run.below
    unfolding carried sum
    some_below =
        let e : carried x.runs ≡ suc first_run.more + carried first_run.below = ap (λ (rs : List Run). carried rs) first_run.whole in
        omega (arith, e, kept_whole_size, x.enough)

    pub behind_bounds : (2 ≤ t.used) × (t.used ≤ length s)
    unfolding carried sum
    behind_bounds = by first_run.below first_run.holds some_below
      where
        by : (rs : List Run) → Holds s t.used rs → 0 < carried rs → (2 ≤ t.used) × (t.used ≤ length s)
        by [] h l = absurd (omega arith)
        by (r ∷ rs) h l = (omega (arith, h.count), h.room)

    pub behind_whole : Told (rest k x.runs) (top_with (t.used - 2) (get_or s (t.used - 2) 0) (get_or s (t.used - 2 + 1) 0)) s
    unfolding rest
    behind_whole =
        let p = first_run in
        let z : k - suc p.more ≡ 0 = omega (arith, kept_whole_size) in
        let e : rest k x.runs ≡ p.below =
        ap (λ (rs : List Run). rest k rs) p.whole ∙ rw (lt-ltb p.more k (omega (arith, kept_whole_size)), z) (rest_none p.below) in
        subst (λ (rs : List Run). Told rs (top_with (t.used - 2) (get_or s (t.used - 2) 0) (get_or s (t.used - 2 + 1) 0)) s) (sym e)
        (come_up p.below s t.used p.holds some_below)

-- ---- words hold one list of runs only

run_equal : {f g j k : ℕ} {rs qs : List Run} → f ≡ g → j ≡ k → rs ≡ qs → run f j ∷ rs ≡ run g k ∷ qs
run_equal p q r = rw (p, q, r)

pub holds_one : (s : List ℕ) (used : ℕ) (rs qs : List Run) → Holds s used rs → Holds s used qs → rs ≡ qs
holds_one s used [] [] h g = refl
holds_one s used [] (q ∷ qs) h g = absurd (omega (arith, h.count, g.count))
holds_one s used (r ∷ rs) [] h g = absurd (omega (arith, h.count, g.count))
holds_one s used (run f j ∷ rs) (run i k ∷ qs) h g =
    let e : f ≡ i = sym (pop_first s used f j rs h) ∙ pop_first s used i k qs g in
    let l : f + suc j ≡ i + suc k = sym (pop_end s used f j rs h) ∙ pop_end s used i k qs g in
    run_equal e (omega (arith, e, l)) (holds_one s (used - 2) rs qs (holds_pop s used f j rs h) (holds_pop s used i k qs g))

-- so do a top and a stretch
pub told_one : (s : List ℕ) (t : Top) (rs qs : List Run) → Told rs t s → Told qs t s → 0 < carried rs → 0 < carried qs → rs ≡ qs
told_one s t rs qs h g l m =
    let p = topped rs t s h l in
    let q = topped qs t s g m in
    p.whole ∙ run_equal refl (omega (arith, p.end_is, q.end_is)) (holds_one s t.used p.below q.below p.holds q.holds) ∙ sym q.whole

-- ---- the last of runs

-- runs, the last apart
pub record Lowest (rs : List Run) : Type 0 where
  pub above : List Run
  pub first : ℕ
  pub more : ℕ
  pub whole : rs ≡ above ++ (run first more ∷ [])
  pub last : last_size rs ≡ suc more

lowest : (r : Run) (rs : List Run) → Lowest (r ∷ rs)
unfolding last_size
lowest (run f j) [] = record { above = []; first = f; more = j; whole = refl; last = refl }
lowest r (q ∷ rs) =
    let l = lowest q rs in
    record {
      above = r ∷ l.above;
      first = l.first;
      more = l.more;
      whole = ap (λ (x : List Run). r ∷ x) l.whole;
      last = l.last;
    }

-- its two words
module _ {s : List ℕ} {used : ℕ} {rs : List Run} (h : Holds s used rs) (l : Lowest rs) where
  pub lowest_first : get_or s 0 0 ≡ l.first
  lowest_first = cut_first s used h l.above l.first l.more [] l.whole 2 refl

  pub lowest_end : get_or s 1 0 ≡ l.first + last_size rs
  lowest_end = rw l.last (cut_end s used h l.above l.first l.more [] l.whole 2 refl)

-- ---- which part holds the last reference kept

-- the parts told apart
abbrev code : Held → ℕ
code Front = 0
code Back = 1
code Middle = 2

not_front : (b : Bool) → pick b Back Middle ≡ Front → ⊥
not_front true e = let z = ap code e in omega (arith, z)
not_front false e = let z = ap code e in omega (arith, z)

-- more is kept than the front holds
behind_front : (k f j : ℕ) (rs : List Run) → suc j < k → held k (run f j ∷ rs) ≡ pick (ltb (carried (run f j ∷ rs) - last_size rs) k) Back Middle
unfolding held
behind_front k f j rs l = rw (lt-leb k (suc j) l)

module _ {s : List ℕ} {t : Top} {k others : ℕ} (x : Sharing s t k others) where
  abbrev pub front : Topped x.runs t s
  front = topped x.runs t s x.told (omega (arith, x.some, x.number))

  pub total : carried x.runs ≡ suc front.more + carried front.below
  unfolding carried sum
  total = ap (λ (l : List Run). carried l) front.whole

  pub held_front : k ≤ t.end - t.first → Front ≡ held k x.runs
  unfolding held
  held_front l = rw (front.whole, le-leb k (suc front.more) (omega (arith, front.end_is)))

  -- more is kept than the front holds: there is a lowest pair
  module _ (l : t.end - t.first < k) where
    pub back : Lowest front.below
    unfolding carried sum
    back = by front.below refl
      where
        by : (rs : List Run) → front.below ≡ rs → Lowest rs
        by [] e = absurd (omega (arith, rw e at total, x.number, front.end_is))
        by (r ∷ rs) e = lowest r rs

    pub back_room : 2 ≤ length s
    back_room =
        let h = front.holds in
        omega (arith, h.room, cut_high s t.used h back.above back.first back.more [] back.whole 2 refl)

    pub back_order : get_or s 0 0 ≤ get_or s 1 0
    back_order = omega (arith, lowest_first front.holds back, lowest_end front.holds back)

    back_size : get_or s 1 0 - get_or s 0 0 ≡ last_size front.below
    back_size = omega (arith, lowest_first front.holds back, lowest_end front.holds back)

    beyond : held k x.runs ≡ pick (ltb (carried x.runs - last_size front.below) k) Back Middle
    beyond =
        ap (λ (rs : List Run). held k rs) front.whole
        ∙ behind_front k t.first front.more front.below (omega (arith, front.end_is))
        ∙ ap (λ (rs : List Run). pick (ltb (carried rs - last_size front.below) k) Back Middle) (sym front.whole)

    pub held_back : others < get_or s 1 0 - get_or s 0 0 → Back ≡ held k x.runs
    held_back h = sym (beyond ∙ rw (lt-ltb (carried x.runs - last_size front.below) k (omega (arith, back_size, x.number, total, last_within front.below))))

    pub held_middle : get_or s 1 0 - get_or s 0 0 ≤ others → Middle ≡ held k x.runs
    held_middle h = sym (beyond ∙ rw (le-ltb (carried x.runs - last_size front.below) k (omega (arith, back_size, x.number, total, last_within front.below))))

  -- ---- the same, read from the answer

  told_behind : (h : Held) → held k x.runs ≡ h → 0 < code h → t.end - t.first < k
  told_behind h e l =
      by_cases (dec_lt (t.end - t.first) k)
      (λ (p : t.end - t.first < k). p)
      (λ (p : ¬ (t.end - t.first < k)). let z = ap code (held_front (omega (arith, p)) ∙ e) in absurd (omega (arith, z, l)))

  pub told_front : held k x.runs ≡ Front → k ≤ t.end - t.first
  told_front e =
      by_cases (dec_le k (t.end - t.first))
      (λ (p : k ≤ t.end - t.first). p)
      (λ (p : ¬ (k ≤ t.end - t.first)).
      absurd (not_front (ltb (carried x.runs - last_size front.below) k) (sym (beyond (omega (arith, p))) ∙ e)))

  pub told_middle : held k x.runs ≡ Middle → t.end - t.first < k
  told_middle e = told_behind Middle e (omega arith)

  pub told_back : held k x.runs ≡ Back → (t.end - t.first < k) × (others < last_size front.below)
  told_back e =
      let l = told_behind Back e (omega arith) in (
        l,
        by_cases (dec_lt others (last_size front.below))
            (λ (p : others < last_size front.below). p)
            (λ (p : ¬ (others < last_size front.below)). let z = ap code (held_middle l (omega (arith, p, back_size l)) ∙ e) in absurd (omega (arith, z))),
      )

-- ---- the cut in the back, found without a walk

-- one run is cut, with a reference at least handed over
split_one : (f j k : ℕ) → k ≤ j → Split (run f j ∷ []) k 2 k
unfolding keep rest
split_one f j k l =
    let m : suc j - k ≡ suc (j - k) = omega arith in
    record {
      above = [];
      first = f;
      more = j;
      below = [];
      whole = refl;
      at = refl;
      short = l;
      front = rw (le-ltb j k l);
      back = rw (le-ltb j k l, m);
    }

-- a run that is kept whole stands before
split_before : (f j : ℕ) {rs : List Run} {k place left : ℕ} → j < k → Split rs (k - suc j) place left → Split (run f j ∷ rs) k place left
unfolding keep rest
split_before f j {rs} {k} l i =
    record {
      above = run f j ∷ i.above;
      first = i.first;
      more = i.more;
      below = i.below;
      whole = rw (← i.whole);
      at = i.at;
      short = i.short;
      front = rw (lt-ltb j k l, i.front);
      back = rw (lt-ltb j k l) i.back;
    }

-- the last run is cut where so many of its references are handed over
split_last : (rs : List Run) (k others : ℕ) → carried rs ≡ k + others → 1 ≤ others → others < last_size rs → Split rs k 2 (last_size rs - others)
unfolding carried sum last_size
split_last [] k others n some few = absurd (omega arith)
split_last (run f j ∷ []) k others n some few =
    let e : k ≡ suc j - others = omega arith in
    subst (λ (i : ℕ). Split (run f j ∷ []) k 2 i) e (split_one f j k (omega arith))
split_last (run f j ∷ q ∷ rs) k others n some few =
    let w = last_within (q ∷ rs) in
    split_before f j (omega (arith, w)) (split_last (q ∷ rs) (k - suc j) others (omega (arith, w)) some few)

pub found_back : {s : List ℕ} {used : ℕ} {rs : List Run} → Holds s used rs → (k others : ℕ) → carried rs ≡ k + others → 1 ≤ others
    → others < last_size rs → CutFound s used k 2 (last_size rs - others)
found_back {s} {used} {rs} h k others n some few =
    record {
      split = λ qs g l.
          subst (λ (x : List Run). Split x k 2 (last_size rs - others)) (holds_one s used rs qs h g) (split_last rs k others n some few);
    }

-- the lowest pair shortened: nothing moves
pub kept_back : (s : List ℕ) (used left : ℕ) → (left ≡ 0 → ⊥) → KeptAbove s used 2 left (set s 1 (get_or s 0 0 + left)) used
kept_back s used left z =
    let t = set s 1 (get_or s 0 0 + left) in
    let n : used - 0 ≡ used = omega arith in
    let e : paste t 0 t used ≡ t = rw (zero-add used) (take-append-drop used t) in
    subst (λ (x : List ℕ). KeptAbove s used 2 left x used) e
    (subst (λ (r : ℕ). KeptAbove s used 2 left (paste t 0 t r) r) n (kept_cut s used 2 left z t refl))
