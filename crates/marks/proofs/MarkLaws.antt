-- The loops over the marks, the starts and the targets.
use mathlib.Core.Path.{◌≡◌, refl, sym, ap, ◌∙◌}
use mathlib.Core.Bool.{Bool, true, false}
use mathlib.Core.List.{List, map}
use mathlib.Core.Logic.{◌≢◌, by_cases}
use Prim.Native.Nat.{ℕ, zero, suc, ◌+◌, ◌-◌, ◌*◌, ◌≤◌, ◌<◌, min, max}
use native.Mathlib.Decide.{ℕ_discrete, dec_lt}
use native.Mathlib.Nat.{add-zero}
use native.Mathlib.Numerals.{add-one}
use native.Mathlib.Omega.{arith}
use lib.Dec.{eqb}
use mir.Val.{bool_byte}
use borrow.Author.Tests.{eqb-true}
use lib.ListN.{length, get_or, take, drop, replicate, drop_of_length-le, length-replicate}
use lib.Seq.{drop-cons, take-suc}
use borrow.Author.Count.{below_more}
use Rattle.laws.specs.Span.{span}
use Rattle.laws.specs.Sum.{sum, hit}
use Rattle.laws.specs.Decides.{Decides}
use Rattle.laws.proofs.Decides.{never, decides_same}
use Rattle.laws.proofs.Passing.{span_plus, span_agree, span_limit}
use Rattle.laws.proofs.Span.{span_hit_one}
use Rattle.laws.proofs.Sum.{sum_snoc, hit_same, hit_other, hit_swap}
use Rattle.slices.specs.Bits.{bit, Inserts, word_bits}
use Rattle.slices.proofs.BitWords.{bit_low, bit_none}
use Rattle.graph.specs.Graph.{graph, degree, all_below}
use Rattle.graph.specs.Chain.{set?, over_marked}
use Rattle.graph.specs.Leaving.{leaving_unmarked, unset?}
use Rattle.graph.proofs.Formed.{below_at}
use Rattle.graph.proofs.Scan.{below_all}
use Rattle.machine.specs.Machine.{live}
use Rattle.machine.specs.Sound.{Marked}
use Rattle.marks.specs.declared.Window.{Window}
use Rattle.marks.specs.Marks.{MarksCounted, MarksLow, StartsBelow, StartsThere, distinct, PartMarked, AllMarked, RowEnd, GapEnd, PartsThere}

-- ---- `count_marks`: what is left makes up the whole

-- 0 for an object that is marked
unset_none : {k : ℕ} → k ≢ 0 → bool_byte (eqb k 0) ≡ 0
unset_none {k} n =
    let cases : (b : Bool) → eqb k 0 ≡ b → bool_byte b ≡ 0 =
    λ b. elim b as (λ b. eqb k 0 ≡ b → bool_byte b ≡ 0) [ true ↦ λ p. absurd (n (eqb-true k 0 p)) | false ↦ λ p. refl ] in
    cases (eqb k 0) refl

pub record MarksAt (os ms : List ℕ) (live⁺ leaving v : ℕ) : Type 0 where
  pub high : v ≤ length ms
  pub live_left : live⁺ + sum set? (drop v ms) ≡ live ms
  pub leaving_left : (ts : List ℕ) → leaving + over_marked (degree (graph os ts)) v (map unset? (drop v ms)) ≡ leaving_unmarked (graph os ts) ms
  pub live_low : live⁺ ≤ v
  pub leaving_low : leaving ≤ get_or os v 0

module _ {os ms : List ℕ} where
  pub marks_start : MarksAt os ms 0 0 0
  unfolding live
  marks_start =
      record {
        high = omega arith;
        live_left = omega arith;
        leaving_left = λ ts. omega arith;
        live_low = omega arith;
        leaving_low = omega arith;
      }

  module _ {live⁺ leaving v live' leaving' : ℕ} (x : MarksAt os ms live⁺ leaving v) (h : v < length ms) (rises : get_or os v 0 ≤ get_or os (suc v) 0) where
    -- an object that is not marked
    pub unmarked_next : get_or ms v 0 ≡ 0 → live' ≡ live⁺ → leaving' ≡ leaving + (get_or os (v + 1) 0 - get_or os v 0)
        → MarksAt os ms live' leaving' (v + 1)
    unfolding sum over_marked
    unmarked_next e a b =
        let next = add-one v in
        record {
          high = omega arith;
          live_left = rw next (omega (arith, a, rw (drop-cons ms v 0 h, e) at x.live_left));
          leaving_left = λ ts. rw next (omega (arith, rw next at b, rw (drop-cons ms v 0 h, e) at (x.leaving_left ts)));
          live_low = omega (arith, x.live_low);
          leaving_low = rw next (omega (arith, rw next at b, x.leaving_low));
        }

    -- one that is
    pub marked_next : (get_or ms v 0 ≡ 0 → ⊥) → live' ≡ live⁺ + 1 → leaving' ≡ leaving → MarksAt os ms live' leaving' (v + 1)
    unfolding sum over_marked
    marked_next n a b = some (get_or ms v 0) refl
      where
        some : (k : ℕ) → get_or ms v 0 ≡ k → MarksAt os ms live' leaving' (v + 1)
        some zero e = absurd (n e)
        some (suc k) e =
            let next = add-one v in
            record {
              high = omega arith;
              live_left = rw next (omega (arith, a, rw (drop-cons ms v 0 h, e) at x.live_left));
              leaving_left = λ ts. rw next (omega (arith, b, rw (drop-cons ms v 0 h, e) at (x.leaving_left ts)));
              live_low = omega (arith, x.live_low);
              leaving_low = rw next (omega (arith, b, x.leaving_low));
            }

    -- one or the other, as it is worked out
    pub mark_next : {k : ℕ} → k ≡ bool_byte (eqb (get_or ms v 0) 0) → live' ≡ live⁺ + (1 - k) → leaving' ≡ leaving + (get_or os (v + 1) 0 - get_or os v 0) * k
        → MarksAt os ms live' leaving' (v + 1)
    mark_next {k} u a b =
        by_cases (ℕ_discrete (get_or ms v 0) 0)
        (λ (p : get_or ms v 0 ≡ 0).
        let one : k ≡ 1 = u ∙ rw p refl in
        unmarked_next p (omega (arith, a, one)) (b ∙ rw one (omega arith)))
        (λ (p : get_or ms v 0 ≢ 0).
        let none : k ≡ 0 = u ∙ unset_none p in
        marked_next p (omega (arith, a, none)) (b ∙ rw none (omega arith)))

  pub marks_end : {live⁺ leaving v : ℕ} → MarksAt os ms live⁺ leaving v → length ms ≤ v → MarksCounted os ms (record { live = live⁺; leaving = leaving })
  unfolding sum over_marked
  marks_end x h =
      let none = drop_of_length-le ms h in
      record { live = omega (arith, rw none at x.live_left); leaving = λ ts. omega (arith, rw none at (x.leaving_left ts)) }

-- ---- `check_marks`

pub marks_low : (W : ℕ) (ms : List ℕ) → all_below (W + 1) ms ≡ true → MarksLow W ms
marks_low W ms t v = omega (arith, below_at (W + 1) ms t (omega arith) v)

pub marks_high : (W : ℕ) (ms : List ℕ) → all_below (W + 1) ms ≡ false → MarksLow W ms → ⊥
marks_high W ms f h = never (below_all (W + 1) ms (λ v. omega (arith, h v))) f

-- ---- `check_starts`: the set holds the starts passed

-- a count with one more, which counted before or not
set_none : (a : ℕ) → set? a ≡ 0 → a ≡ 0
set_none zero e = refl
set_none (suc a) e = absurd (omega arith)

set_some : (a : ℕ) → set? a ≡ 1 → 0 < a
set_some zero e = absurd (omega arith)
set_some (suc a) e = omega arith

set_same : (a k : ℕ) → k ≡ 0 → set? (a + k) ≡ set? a + k
set_same a k e = rw (e, add-zero a, add-zero (set? a))

set_first : (a k : ℕ) → set? a ≡ 0 → k ≡ 1 → set? (a + k) ≡ set? a + k
set_first a k e q = rw (set_none a e, q)

set_again : (a k : ℕ) → set? a ≡ 1 → set? (a + k) ≡ set? a
set_again a k e = let r : a + k ≡ suc (a + k - 1) = omega (arith, set_some a e) in rw (r, e)

span_zero : (k : ℕ) → span (λ (v : ℕ). 0) 0 k ≡ 0
span_zero k = omega (arith, span_limit (λ (v : ℕ). 0) 0 0 k (λ i. omega arith))

pub record StartsAt (starts ms seen₀ seen : List ℕ) (distinct⁺ i : ℕ) : Type 0 where
  pub high : i ≤ length starts
  pub each : (k : ℕ) → k < i → Marked ms (get_or starts k 0)
  pub bits : (v : ℕ) → bit seen v ≡ set? (sum (hit v) (take i starts))
  pub number : distinct⁺ ≡ distinct (length ms) (take i starts)
  pub low : distinct⁺ ≤ i
  pub long : length seen ≡ length seen₀

module _ {starts ms seen₀ : List ℕ} where
  pub starts_start : StartsThere starts ms seen₀ → StartsAt starts ms seen₀ seen₀ 0 0
  unfolding sum
  starts_start there =
      record {
        high = omega arith;
        each = λ k h. absurd (omega arith);
        bits = there.none;
        number = sym (span_zero (length ms));
        low = omega arith;
        long = refl;
      }

  module _ {seen seen' : List ℕ} {distinct⁺ i : ℕ} {r : Bool} (x : StartsAt starts ms seen₀ seen distinct⁺ i) (h : i < length starts)
      (below : get_or starts i 0 < length ms) (marked : Marked ms (get_or starts i 0)) (long : length seen' ≡ length seen)
      (put : Inserts seen (get_or starts i 0) r seen') where
    -- the start passed, how often v stands among those before it, and among those up to it
    abbrev s : ℕ
    s = get_or starts i 0

    abbrev times : ℕ → ℕ
    times v = sum (hit v) (take i starts)

    times_more : (v : ℕ) → sum (hit v) (take (i + 1) starts) ≡ times v + hit v s
    times_more v = rw (add-one, take-suc starts i 0 h) (sum_snoc (hit v) (take i starts) s)

    -- it is new
    pub new_next : {distinct' : ℕ} → r ≡ true → distinct' ≡ distinct⁺ + 1 → StartsAt starts ms seen₀ seen' distinct' (i + 1)
    new_next t e =
        record {
          high = omega arith;
          each = below_more _ i x.each marked;
          bits = λ v. rw times_more (put.fresh t v ∙ ap (λ (k : ℕ). k + hit v s) (x.bits v) ∙ sym (joins v));
          number = e ∙ rw x.number (sym counted);
          low = omega (arith, e, x.low);
          long = long ∙ x.long;
        }
      where
        first : set? (times s) ≡ 0
        first = omega (arith, put.fresh t s, bit_low seen' s, hit_same s, x.bits s)

        joins : (v : ℕ) → set? (times v + hit v s) ≡ set? (times v) + hit v s
        joins v =
            by_cases (ℕ_discrete v s)
            (λ (q : v ≡ s). rw q (set_first (times s) (hit s s) first (hit_same s)))
            (λ (q : v ≢ s). set_same (times v) (hit v s) (hit_other v s q))

        counted : distinct (length ms) (take (i + 1) starts) ≡ distinct (length ms) (take i starts) + 1
        counted =
            span_agree (λ (v : ℕ). set? (sum (hit v) (take (i + 1) starts))) (λ (v : ℕ). set? (times v) + hit v s) (length ms)
            (λ v q. ap set? (times_more v) ∙ joins v)
            ∙ span_plus (λ (v : ℕ). set? (times v)) (λ (v : ℕ). hit v s) 0 (length ms)
            ∙ ap (λ (k : ℕ). distinct (length ms) (take i starts) + k)
            (span_agree (λ (v : ℕ). hit v s) (hit s) (length ms) (λ v q. hit_swap v s) ∙ span_hit_one s 0 (length ms) (omega arith) (omega (arith, below)))

    -- it stands there again
    pub again_next : {distinct' : ℕ} → r ≡ false → distinct' ≡ distinct⁺ → StartsAt starts ms seen₀ seen' distinct' (i + 1)
    again_next t e =
        record {
          high = omega arith;
          each = below_more _ i x.each marked;
          bits = λ v. rw times_more (put.same t v ∙ x.bits v ∙ sym (stays v));
          number = e ∙ x.number ∙ sym counted;
          low = omega (arith, e, x.low);
          long = long ∙ x.long;
        }
      where
        before : set? (times s) ≡ 1
        before = sym (x.bits s) ∙ put.there t

        stays : (v : ℕ) → set? (times v + hit v s) ≡ set? (times v)
        stays v =
            by_cases (ℕ_discrete v s)
            (λ (q : v ≡ s). rw q (set_again (times s) (hit s s) before))
            (λ (q : v ≢ s). rw (hit_other v s q, add-zero (times v)))

        counted : distinct (length ms) (take (i + 1) starts) ≡ distinct (length ms) (take i starts)
        counted =
            span_agree (λ (v : ℕ). set? (sum (hit v) (take (i + 1) starts))) (λ (v : ℕ). set? (times v)) (length ms)
            (λ v q. ap set? (times_more v) ∙ stays v)

    -- one or the other
    pub start_next : {k : ℕ} → k ≡ bool_byte r → StartsAt starts ms seen₀ seen' (distinct⁺ + k) (i + 1)
    start_next {k} e = cases r refl
      where
        cases : (b : Bool) → r ≡ b → StartsAt starts ms seen₀ seen' (distinct⁺ + k) (i + 1)
        cases true t = new_next t (ap (λ (n : ℕ). distinct⁺ + n) (e ∙ ap bool_byte t))
        cases false t = again_next t (omega (arith, e ∙ ap bool_byte t))

-- a set of zeros is empty
pub zeros_for : {starts ms : List ℕ} (k : ℕ) → length ms ≤ word_bits * k → StartsBelow starts (length ms)
    → StartsThere starts ms (replicate k 0)
zeros_for k h b = record { below = b; room = rw length-replicate (omega arith); none = bit_none k }

-- ---- `targets_marked`: rows of marked objects

-- a marked object below v that reference e leaves
pub record Owned (os ms : List ℕ) (v e : ℕ) : Type 0 where
  pub object : ℕ
  pub below : object < v
  pub is_marked : Marked ms object
  pub begins : get_or os object 0 ≤ e
  pub ends : e < get_or os (suc object) 0

-- the references of the objects passed hold up to one from which on all are of marked objects
pub record RowsAt (os ts ms bs : List ℕ) (w : Window) (from v : ℕ) : Type 0 where
  pub low : w.from ≤ from
  pub reach : from ≤ max w.from (get_or os v 0)
  pub done : (u : ℕ) → w.first ≤ u → u < v → Marked ms u → (e : ℕ) → w.from ≤ e → e < w.to → get_or os u 0 ≤ e → e < get_or os (suc u) 0 → e < from
      → bit bs (e - w.from) ≡ 0 → Marked ms (get_or ts e 0)
  pub owned : (e : ℕ) → from ≤ e → e < get_or os v 0 → Owned os ms v e

module _ {os ts ms bs : List ℕ} {w : Window} (there : PartsThere os ts ms bs w) where
  pub rows_start : RowsAt os ts ms bs w w.from w.first
  rows_start =
      record {
        low = omega arith;
        reach = omega arith;
        done = λ u h q. absurd (omega arith);
        owned = λ e h q. absurd (omega (arith, there.begins));
      }

  module _ {from v : ℕ} (x : RowsAt os ts ms bs w from v) where
    -- what holds of all holds of the row
    pub row_known : {to : ℕ} → v ≤ length ms → to ≤ w.to → to ≤ get_or os v 0 → AllMarked os ts ms bs w.from w.to
        → PartMarked ts ms bs w.from from to
    row_known h q r all e a b z =
        let o = x.owned e a (omega arith) in
        all o.object (omega (arith, o.below)) o.is_marked e (omega (arith, o.begins, x.low)) (omega (arith, o.ends)) z

    module _ (h : v < length ms) where
      rises : get_or os v 0 ≤ get_or os (suc v) 0
      rises = rw (← add-one v) (there.rise v 1 (omega arith))

      row_marked_next : Marked ms v → RowsAt os ts ms bs w from (suc v)
      row_marked_next m =
          record {
            low = x.low;
            reach = omega (arith, x.reach, rises);
            done = λ u f l k e a b c d g z.
                by_cases (dec_lt u v)
                (λ (p : u < v). x.done u f p k e a b c d g z)
                (λ (p : ¬ (u < v)).
                let here : u ≡ v = omega arith in
                absurd (omega (arith, rw here at c, x.reach)));
            owned = λ e a b.
                by_cases (dec_lt e (get_or os v 0))
                (λ (p : e < get_or os v 0).
                let o = x.owned e a p in
                record { object = o.object; below = omega (arith, o.below); is_marked = o.is_marked; begins = o.begins; ends = o.ends })
                (λ (p : ¬ (e < get_or os v 0)). record { object = v; below = omega arith; is_marked = m; begins = omega arith; ends = b });
          }

    -- objects that are not marked: what was pending is looked at, and nothing is
    rows_unmarked : (k : ℕ) {to from' : ℕ} → v + k ≤ length ms → ((u : ℕ) → v ≤ u → u < v + k → get_or ms u 0 ≡ 0) → to ≡ min w.to (get_or os v 0)
        → from' ≡ max from (get_or os (v + k) 0) → PartMarked ts ms bs w.from from to → RowsAt os ts ms bs w from' (v + k)
    rows_unmarked k {to} {from'} h none is next part =
        let rises = there.rise v k h in
        record {
          low = omega (arith, x.low, next);
          reach = omega (arith, x.reach, rises, next);
          done = λ u f l m e a b c d g z.
              by_cases (dec_lt u v)
              (λ (p : u < v).
              by_cases (dec_lt e from)
              (λ (y : e < from). x.done u f p m e a b c d y z)
              (λ (y : ¬ (e < from)).
              let up : suc u + (v - suc u) ≡ v = omega arith in
              part e (omega arith) (omega (arith, is, rw up at (there.rise (suc u) (v - suc u) (omega arith)))) z))
              (λ (p : ¬ (u < v)). absurd (omega (arith, m, none u (omega arith) l)));
          owned = λ e a b. absurd (omega (arith, next));
        }

  -- marked objects, one after the other
  rows_marked : (k : ℕ) {from v : ℕ} → RowsAt os ts ms bs w from v → v + k ≤ length ms → ((u : ℕ) → v ≤ u → u < v + k → Marked ms u)
      → RowsAt os ts ms bs w from (v + k)
  rows_marked zero {v = v} x h all = rw (add-zero v) x
  rows_marked (suc k) {v = v} x h all =
      let next : suc v + k ≡ v + suc k = omega arith in
      let more = rows_marked k (row_marked_next x (omega arith) (all v (omega arith) (omega arith))) (omega arith) (λ u a b. all u (omega arith) (omega arith)) in
      rw next at more

  pub row_passed : {last from v u : ℕ} → RowsAt os ts ms bs w from v → last ≤ length ms → RowEnd ms v last u → RowsAt os ts ms bs w from u
  row_passed {v = v} {u} x h r =
      let to : v + (u - v) ≡ u = omega (arith, r.from) in
      rw to at (rows_marked (u - v) x (omega (arith, r.from, r.high)) (λ k a b. r.each k a (omega (arith, r.from))))

  pub gap_passed : {last from v u to from' : ℕ} → RowsAt os ts ms bs w from v → last ≤ length ms → GapEnd ms v last u → to ≡ min w.to (get_or os v 0)
      → from' ≡ max from (get_or os u 0) → PartMarked ts ms bs w.from from to → RowsAt os ts ms bs w from' u
  gap_passed {from = from} {v} {u} x h r is next part =
      let to : u ≡ v + (u - v) = omega (arith, r.from) in
      let back : v + (u - v) ≡ u = omega (arith, r.from) in
      rw back at
      (rows_unmarked x (u - v) (omega (arith, r.from, r.high)) (λ k a b. r.each k a (omega (arith, r.from))) is
      (next ∙ ap (λ (k : ℕ). max from (get_or os k 0)) to) part)

  -- all objects are passed
  pub rows_end : {from : ℕ} {r : Bool} → RowsAt os ts ms bs w from w.last → Decides r (PartMarked ts ms bs w.from from w.to)
      → Decides r (AllMarked os ts ms bs w.from w.to)
  rows_end {from} x d =
      decides_same d
      (λ part u h m e a b z.
      let o = there.leaves u e h (omega arith) (omega arith) (omega arith) (omega arith) in
      by_cases (dec_lt e from)
      (λ (p : e < from). x.done u o.0 o.1 m e (omega arith) (omega arith) (omega arith) (omega arith) p z)
      (λ (p : ¬ (e < from)). part e (omega arith) (omega arith) z))
      (row_known x there.objects (omega arith) there.ends)
