-- The references of a window taken into the set, run by run and worker by worker; and the windows laid end to end.
use mathlib.Core.Path.{◌≡◌, refl, sym, ap, ◌∙◌}
use mathlib.Core.Bool.{Bool, true, false}
use mathlib.Core.List.{List, [], ◌∷◌}
use mathlib.Core.Logic.{by_cases}
use Prim.Native.Nat.{ℕ, suc, ◌+◌, ◌-◌, ◌*◌, ◌≤◌, ◌<◌, min, max}
use native.Mathlib.Decide.{dec_lt}
use native.Mathlib.Omega.{arith}
use lib.ListN.{length, get_or, drop, replicate, length-replicate}
use borrow.Author.Tests.{lt-ltb}
use Rattle.laws.specs.Decides.{Decides}
use Rattle.laws.specs.Span.{span}
use Rattle.laws.specs.Sum.{sum, hit}
use Rattle.laws.proofs.Decides.{never, decides_same}
use Rattle.laws.proofs.Passing.{span_next, span_so_far}
use Rattle.laws.proofs.Span.{span_hit_in, span_hit_one}
use Rattle.slices.specs.Bits.{bit, word_bits}
use Rattle.slices.proofs.BitWords.{bit_low, bit_none}
use Rattle.graph.specs.Graph.{Graph, objects, references}
use Rattle.graph.proofs.OverMarked.{offsets_rise}
use Rattle.machine.specs.Sound.{runs_sum}
use Rattle.theorems.proofs.Runs.{runs_append}
use Rattle.saved.specs.Layout.{worker_word, stretch_in, runs_in}
use Rattle.worker.specs.Registers.{status_given}
use Rattle.marks.specs.Marks.{AllMarked, PartsThere}
use Rattle.frontier.specs.Rows.{Row}
use Rattle.frontier.specs.Runs.{HasOwner, Owns, run_of, runs_at, times_words, LoadsThere}
use Rattle.frontier.specs.Windows.{Once, Takes, Carried, RunsCarried, AllThere, AllCarried, WindowSound}
use Rattle.frontier.proofs.RowLaws.{span_shift}
use Rattle.frontier.proofs.RunLaws.{marking_of, has_owner}
use Rattle.frontier.proofs.StretchLaws.{runs_one, runs_all}

-- ---- `carry`

-- a number counted in a part of the window is counted in the whole
part_counts : (x base end from to : ℕ) → base ≤ x → x < end → span (hit x) (max base from) (min end to - max base from) ≡ span (hit x) from (to - from)
part_counts x base end from to h q =
    by_cases (dec_lt 0 (span (hit x) from (to - from)))
    (λ (p : 0 < span (hit x) from (to - from)).
    let i = span_hit_in x from (to - from) p in
    omega (
      arith,
      span_hit_one x from (to - from) i.0 i.1,
      span_hit_one x (max base from) (min end to - max base from) (omega (arith, i.0)) (omega (arith, i.1)),
    ))
    (λ (p : ¬ (0 < span (hit x) from (to - from))).
    by_cases (dec_lt 0 (span (hit x) (max base from) (min end to - max base from)))
    (λ (r : 0 < span (hit x) (max base from) (min end to - max base from)).
    let i = span_hit_in x (max base from) (min end to - max base from) r in
    omega (arith, span_hit_one x from (to - from) (omega (arith, i.0)) (omega (arith, i.1))))
    (λ (r : ¬ (0 < span (hit x) (max base from) (min end to - max base from))). omega arith))

shifted_size : (b l h : ℕ) → b ≤ l → l < h → h - b - (l - b) ≡ h - l
shifted_size b l h p q = omega arith

shifted_inside : (b l h j : ℕ) → b ≤ l → l < h → l - b ≤ j → j < l - b + (h - b - (l - b)) → (l ≤ j + b) × (j + b < h)
shifted_inside b l h j p q r s = (omega arith, omega (arith, shifted_size b l h p q))

-- a reference of the run that may be in the set only once is not in it yet
carried_once : (base end from to j : ℕ) (bs : List ℕ) → Once base end bs (λ (e : ℕ). span (hit e) from (to - from))
    → (base ≤ j + base) × (j + base < end) × (from ≤ j + base) × (j + base < from + (to - from)) → bit bs j ≡ 0
carried_once base end from to j bs once i =
    let here : j + base - base ≡ j = omega arith in
    omega (arith, rw here at (once (j + base) i.0 i.1), span_hit_one (j + base) from (to - from) i.2 i.3)

module _ (base end from to : ℕ) where
  -- no reference of the run is in the window
  pub carried_none : {bs : List ℕ} → min end to ≤ max base from → Carried base end bs from to true bs
  unfolding span
  carried_none h =
      let none : min end to - max base from ≡ 0 = omega arith in
      record {
        adds = λ z e p q. omega (arith, rw none at (part_counts e base end from to p q));
        known = λ q. refl;
      }

  module _ {low high : ℕ} (is_low : low ≡ max base from) (is_high : high ≡ min end to) (some : low < high) where
    -- those that are, as bits of the set
    counted : (e : ℕ) → base ≤ e → e < end → span (hit (e - base)) (low - base) (high - base - (low - base)) ≡ span (hit e) from (to - from)
    counted e p q =
        let here : base + (e - base) ≡ e = omega arith in
        let first : base + (low - base) ≡ low = omega arith in
        let size = shifted_size base low high (omega arith) some in
        sym (span_shift base (e - base) (low - base) (high - base - (low - base)))
        ∙ rw (here, first, size, is_low, is_high) (part_counts e base end from to p q)

    -- one of them lies in the window and in the run
    inside : (e : ℕ) → low ≤ e → e < high → (base ≤ e) × (e < end) × (from ≤ e) × (e < from + (to - from))
    inside e p q = (omega arith, omega arith, omega arith, omega arith)

    pub carried_row : {bs : List ℕ} {r : Bool} {bs' : List ℕ} → Row bs (low - base) (high - base - (low - base)) r bs' → Carried base end bs from to r bs'
    carried_row {bs} row =
        record {
          adds = λ z e p q. omega (arith, row.fresh z (e - base), counted e p q);
          known = λ once.
              row.known
              (λ j a b.
              let place = shifted_inside base low high j (omega arith) some a b in
              carried_once base end from to j bs once (inside (j + base) place.0 place.1));
        }

pub takes_not : {base end : ℕ} {bs : List ℕ} {f : ℕ → ℕ} {bs' : List ℕ} → (Once base end bs f → ⊥) → Takes base end bs f false bs'
takes_not n = record { adds = λ z. never z refl; known = λ h. absurd (n h) }

-- ---- `carry_runs`

-- what is left of the runs makes up the whole
pub record TakenAt (base end : ℕ) (bs st : List ℕ) (i : ℕ) (bs' : List ℕ) : Type 0 where
  pub long : length bs' ≡ length bs
  pub left : (e : ℕ) → base ≤ e → e < end
      → bit bs' (e - base) + runs_sum (hit e) (runs_in (drop (2 * i) st)) ≡ bit bs (e - base) + runs_sum (hit e) (runs_in st)

module _ {base end : ℕ} {bs st : List ℕ} {i : ℕ} {bs' : List ℕ} (x : TakenAt base end bs st i bs') where
  -- no pair is left
  pub taken_end : runs_in (drop (2 * i) st) ≡ [] → RunsCarried base end bs st true bs'
  unfolding runs_sum sum
  taken_end none = record { adds = λ z e h q. omega (arith, rw none at (x.left e h q)); known = λ q. refl }

  module _ (h : 2 * i + 1 < length st) (pair : get_or st (2 * i) 0 < get_or st (2 * i + 1) 0) where
    one_less : (e : ℕ) → runs_sum (hit e) (runs_in (drop (2 * i) st))
        ≡ runs_sum (hit e) (runs_in (drop (2 * (i + 1)) st)) + span (hit e) (get_or st (2 * i) 0) (get_or st (2 * i + 1) 0 - get_or st (2 * i) 0)
    unfolding runs_sum sum
    one_less e =
        let size : suc (get_or st (2 * i + 1) 0 - suc (get_or st (2 * i) 0)) ≡ get_or st (2 * i + 1) 0 - get_or st (2 * i) 0 = omega arith in
        let r = run_of (get_or st (2 * i) 0) (get_or st (2 * i + 1) 0) in
        rw (runs_one st i h pair, ← size) (omega (arith, runs_append (hit e) (runs_in (drop (2 * (i + 1)) st)) (r ∷ [])))

    module _ {r : Bool} {bs'' : List ℕ} (found : Carried base end bs' (get_or st (2 * i) 0) (get_or st (2 * i + 1) 0) r bs'') where
      pub taken_next : r ≡ true → length bs'' ≡ length bs' → TakenAt base end bs st (i + 1) bs''
      taken_next t l =
          record { long = l ∙ x.long; left = λ e h q. omega (arith, x.left e h q, found.adds t e h q, one_less e) }

      -- one of the run's references would be in the set twice
      pub taken_twice : r ≡ false → Once base end bs (λ (e : ℕ). runs_sum (hit e) (runs_in st)) → ⊥
      taken_twice f once = never (found.known (λ e h q. omega (arith, x.left e h q, once e h q, one_less e))) f

-- ---- `carry_all`

-- the references of the workers passed are in the set
pub record AllAt (base end n W : ℕ) (w bs : List ℕ) (b : ℕ) (bs' : List ℕ) : Type 0 where
  pub high : b ≤ W
  pub long : length bs' ≡ length bs
  pub times : (e : ℕ) → base ≤ e → e < end → bit bs' (e - base) ≡ times_words n W w e b

pub all_start : {base end n W : ℕ} {w bs : List ℕ} → ((i : ℕ) → bit bs i ≡ 0) → AllAt base end n W w bs 0 bs
unfolding span
all_start {base} none = record { high = omega arith; long = refl; times = λ e h q. none (e - base) }

module _ {base end n W : ℕ} {w bs : List ℕ} {b : ℕ} {bs' : List ℕ} (x : AllAt base end n W w bs b bs') where
  module _ (h : b < W) where
    one_more : (e : ℕ) → times_words n W w e (b + 1) ≡ times_words n W w e b + runs_sum (hit e) (runs_at n W w b)
    one_more e = span_next (λ (a : ℕ). runs_sum (hit e) (runs_at n W w a)) b

    -- a worker that carries nothing
    pub all_idle : worker_word w b 0 < status_given → AllAt base end n W w bs (b + 1) bs'
    unfolding runs_sum sum
    all_idle s =
        let none : runs_at n W w b ≡ [] = rw (lt-ltb (worker_word w b 0) 4 s) in
        record {
          high = omega arith;
          long = x.long;
          times = λ e p q. omega (arith, x.times e p q, one_more e, ap (runs_sum (hit e)) none);
        }

    module _ (s : status_given ≤ worker_word w b 0) {st : List ℕ} (is : st ≡ stretch_in n W w b) {r : Bool} {bs'' : List ℕ}
        (found : RunsCarried base end bs' st r bs'') where
      its_runs : runs_in st ≡ runs_at n W w b
      its_runs = ap runs_in is ∙ sym (runs_all (worker_word w b 0) (stretch_in n W w b) s)

      pub all_next : r ≡ true → length bs'' ≡ length bs' → AllAt base end n W w bs (b + 1) bs''
      all_next t l =
          record {
            high = omega arith;
            long = l ∙ x.long;
            times = λ e p q. omega (arith, x.times e p q, found.adds t e p q, one_more e, ap (runs_sum (hit e)) its_runs);
          }

      pub all_twice : r ≡ false → ((e : ℕ) → base ≤ e → e < end → times_words n W w e W ≤ 1) → ⊥
      all_twice f once =
          never
          (found.known
          (λ e p q.
          omega (
            arith,
            x.times e p q,
            once e p q,
            one_more e,
            ap (runs_sum (hit e)) its_runs,
            span_so_far (λ (a : ℕ). runs_sum (hit e) (runs_at n W w a)) 0 (b + 1) W (omega arith),
          )))
          f

pub all_stop : {base end n W : ℕ} {w bs' : List ℕ} → (((e : ℕ) → base ≤ e → e < end → times_words n W w e W ≤ 1) → ⊥)
    → AllCarried base end n W w false bs'
all_stop n = record { times = λ z. never z refl; known = λ h. absurd (n h) }

-- ---- `check_window`

module _ {G : Graph} {ms : List ℕ} {W : ℕ} {w : List ℕ} (there : LoadsThere G ms W w) {from to : ℕ} (h : from < to) (inside : to ≤ references G) where
  pub first_owner : HasOwner G.offsets from
  first_owner = has_owner (marking_of there) h inside

  pub last_owner : {e : ℕ} → e ≡ to - 1 → HasOwner G.offsets e
  last_owner {e} same = has_owner {from = e} {to = to} (marking_of there) (omega arith) inside

  -- a set that is cleared
  pub cleared_there : (bs : List ℕ) {n : ℕ} → n ≡ objects G → to ≤ from + word_bits * length bs → AllThere from to (replicate (length bs) 0) n W w
  cleared_there bs e room =
      record {
        room = rw length-replicate room;
        none = bit_none (length bs);
        objects_limit = omega (arith, there.objects_limit);
        workers_limit = there.workers_limit;
        long = rw e there.long;
      }

  pub parts_there : {bs : List ℕ} {u v k : ℕ} → to ≤ from + word_bits * length bs → Owns G.offsets from u → Owns G.offsets k v → k ≡ to - 1
      → PartsThere G.offsets G.targets ms bs (record { from = from; to = to; first = u; last = v + 1 })
  parts_there {u = u} {v} room a b same =
      let marks = there.marks_length in
      record {
        targets = record {
          targets = record { inside = λ e q. omega (arith, there.formed.inside e q, marks); within = inside };
          room = room;
        };
        long = omega (arith, marks, there.some);
        rise = λ x k q. offsets_rise G there.formed x k (omega (arith, marks));
        some = by_cases (dec_lt (v + 1) u)
            (λ (t : v + 1 < u).
            let d : v + 1 + (u - (v + 1)) ≡ u = omega arith in
            absurd (omega (arith, a.from, b.below, rw d at (offsets_rise G there.formed (v + 1) (u - (v + 1)) (omega (arith, a.object))))))
            (λ (t : ¬ (v + 1 < u)). omega arith);
        objects = omega (arith, b.object, marks);
        begins = a.from;
        ends = omega (arith, b.below);
        leaves = λ x e l p q r s. (
          by_cases (dec_lt x u)
              (λ (t : x < u).
              let d : suc x + (u - suc x) ≡ u = omega arith in
              absurd (omega (arith, a.from, rw d at (offsets_rise G there.formed (suc x) (u - suc x) (omega (arith, a.object))))))
              (λ (t : ¬ (x < u)). omega arith),
          by_cases (dec_lt v x)
              (λ (t : v < x).
              let d : v + 1 + (x - (v + 1)) ≡ x = omega arith in
              absurd (omega (arith, b.below, rw d at (offsets_rise G there.formed (v + 1) (x - (v + 1)) (omega (arith, marks))))))
              (λ (t : ¬ (v < x)). omega arith),
        );
      }

  module _ {bs : List ℕ} {r : Bool} (found : AllCarried from to (objects G) W w r bs) (done : r ≡ true) where
    pub window_decided : {t : Bool} → Decides t (AllMarked G.offsets G.targets ms bs from to) → Decides t (WindowSound G ms W w from to)
    window_decided d =
        decides_same d
        (λ all.
        record {
          once = λ e p q. omega (arith, found.times done e p q, bit_low bs (e - from));
          targets = λ v l m e a b p q z. all v l m e (omega arith) (omega arith) (found.times done e p q ∙ z);
        })
        (λ s v l m e a b z. s.targets v l m e (omega arith) (omega arith) (omega arith) (omega arith) (sym (found.times done e (omega arith) (omega arith)) ∙ z))
