-- The stretches of all workers, one after the other.
use mathlib.Core.Path.{◌≡◌, refl, sym, ap, ◌∙◌}
use mathlib.Core.Bool.{Bool, true, false, not}
use lib.Dec.{eqb}
use mir.Val.{bool_byte}
use borrow.Author.Tests.{eqb-true, eqb-false}
use mathlib.Core.List.{List, [], ◌∷◌}
use mathlib.Core.Logic.{by_cases}
use native.Mathlib.Decide.{dec_lt}
use Prim.Native.Nat.{ℕ, zero, suc, ◌+◌, ◌-◌, ◌*◌, ◌≤◌, ◌<◌}
use native.Mathlib.Omega.{arith}
use lib.ListN.{length, take, drop, length-take}
use borrow.Author.Count.{below_more}
use Rattle.laws.specs.Decides.{Decides}
use Rattle.laws.specs.Every.{Every}
use Rattle.laws.specs.Span.{span}
use Rattle.laws.specs.Sum.{sum, hit}
use Rattle.laws.proofs.Passing.{span_next, span_agree, span_limit}
use Rattle.laws.proofs.Span.{span_hit_in}
use Rattle.graph.specs.Graph.{Graph, objects, references}
use Rattle.graph.specs.Formed.{Formed}
use Rattle.graph.specs.Chain.{set?}
use Rattle.graph.proofs.OverMarked.{after_limit}
use Rattle.graph.specs.Limits.{most_objects}
use Rattle.desk.specs.Lengths.{marks_place, stretch_length}
use Rattle.machine.specs.Run.{Run, run, carried}
use Rattle.machine.specs.Sound.{Within, runs_sum}
use Rattle.saved.specs.Layout.{worker_word, stretch_in}
use Rattle.frontier.specs.declared.runs.Loads.{Loads}
use Rattle.frontier.specs.Runs.{LoadIs, runs_at, times_words, carried_words, carrying_words, StretchAt, LoadsAre, LoadsThere, LoadedAre}
use Rattle.frontier.specs.Windows.{WindowSound}

-- ---- where worker b's stretch stands, with the marks from m on and stretches of L words

module _ (n W b : ℕ) {m L : ℕ} (w : List ℕ) (place : m ≡ marks_place W) (size : L ≡ stretch_length n) where
  pub stretch_is : take (m + n + b * L + L - (m + n + b * L)) (drop (m + n + b * L) w) ≡ stretch_in n W w b
  stretch_is =
      let e : m + n + b * L + L - (m + n + b * L) ≡ L = omega arith in
      rw (e, place, size)

-- it is short
pub stretch_short : (n : ℕ) {L : ℕ} → L ≡ stretch_length n → n ≤ most_objects → (at : ℕ) (w : List ℕ)
    → length (take (at + L - at) (drop at w)) ≤ stretch_length most_objects
stretch_short n {L} size h at w = omega (arith, length-take (at + L - at) (drop at w))

-- ---- the loop

pub record LoadsAt (G : Graph) (ms : List ℕ) (W : ℕ) (w : List ℕ) (carrying total b : ℕ) : Type 0 where
  pub high : b ≤ W
  pub each : (a : ℕ) → a < b → StretchAt G ms W w a
  pub total_is : total ≡ carried_words (objects G) W w b
  pub carrying_is : carrying ≡ carrying_words (objects G) W w b
  pub carrying_low : carrying ≤ b
  pub total_low : total ≤ 562967133290496 * b

pub loads_start : {G : Graph} {ms : List ℕ} {W : ℕ} {w : List ℕ} → LoadsAt G ms W w 0 0 0
unfolding span
loads_start =
    record {
      high = omega arith;
      each = λ a h. absurd (omega arith);
      total_is = refl;
      carrying_is = refl;
      carrying_low = omega arith;
      total_low = omega arith;
    }

-- 1 for a worker that carries something
set_byte : (k : ℕ) → bool_byte (not (eqb k 0)) ≡ set? k
set_byte k =
    let cases : (b : Bool) → eqb k 0 ≡ b → bool_byte (not b) ≡ set? k =
    λ b. elim b as (λ b. eqb k 0 ≡ b → bool_byte (not b) ≡ set? k)
    [ true ↦ λ p. rw (eqb-true k 0 p) refl | false ↦ λ p. sym (set_one k (eqb-false k 0 p)) ] in
    cases (eqb k 0) refl
  where
    set_one : (x : ℕ) → (x ≡ 0 → ⊥) → set? x ≡ 1
    set_one zero n = absurd (n refl)
    set_one (suc x) n = refl

module _ {G : Graph} {ms : List ℕ} {W : ℕ} {w : List ℕ} {carrying total b : ℕ} (x : LoadsAt G ms W w carrying total b)
    (h : b < W) {status batch k : ℕ} {st : List ℕ} (found : LoadIs G ms status batch st k)
    (s : status ≡ worker_word w b 0) (t : batch ≡ worker_word w b 3) (is : st ≡ stretch_in (objects G) W w b) where
  here : LoadIs G ms (worker_word w b 0) (worker_word w b 3) (stretch_in (objects G) W w b) k
  here = rw (← s, ← t, ← is) found

  pub loads_next : {one : ℕ} → one ≡ bool_byte (not (eqb k 0))
      → length st ≤ 131076 → LoadsAt G ms W w (carrying + one) (total + k) (b + 1)
  loads_next c low =
      let own = here.total in
      let one = c ∙ set_byte k in
      record {
        high = omega arith;
        each = below_more _ b x.each here.right;
        total_is = omega (arith, x.total_is, own, span_next (λ (a : ℕ). carried (runs_at (objects G) W w a)) b);
        carrying_is = omega (arith, x.carrying_is, one, ap set? own, span_next (λ (a : ℕ). set? (carried (runs_at (objects G) W w a))) b);
        carrying_low = omega (arith, x.carrying_low, one, set_low k);
        total_low = omega (arith, x.total_low, found.low);
      }
    where
      set_low : (k : ℕ) → set? k ≤ 1
      set_low zero = omega arith
      set_low (suc k) = omega arith

-- ---- `check_loads`

-- nobody carries a reference that is none of the graph
runs_beyond : {G : Graph} (ms : List ℕ) (F : Formed G) (e : ℕ) → references G ≤ e → (rs : List Run) → Every (Within G ms) rs → runs_sum (hit e) rs ≡ 0
unfolding runs_sum sum
runs_beyond ms F e h [] w = refl
runs_beyond {G} ms F e h (run f k ∷ rs) w =
    let inside = w.0 in
    let low : f + suc k ≤ e = omega (arith, inside.ends, after_limit G F inside.object inside.is_object) in
    let none : span (hit e) f (suc k) ≡ 0 =
    by_cases (dec_lt 0 (span (hit e) f (suc k)))
    (λ (p : 0 < span (hit e) f (suc k)). absurd (omega (arith, span_hit_in e f (suc k) p)))
    (λ (p : ¬ (0 < span (hit e) f (suc k))). omega arith) in
    omega (arith, none, runs_beyond ms F e h rs w.1)

module _ {G : Graph} {ms : List ℕ} {W : ℕ} {w : List ℕ} {r : Loads} (there : LoadsThere G ms W w) (x : LoadsAre G ms W w r)
    {t : Bool} (d : Decides t (WindowSound G ms W w 0 (references G))) where
  module _ (q : t ≡ true) where
    -- no reference is carried twice
    once : (e : ℕ) → times_words (objects G) W w e W ≤ 1
    unfolding span
    once e =
        by_cases (dec_lt e (references G))
        (λ (p : e < references G). (d.right q).once e (omega arith) p)
        (λ (p : ¬ (e < references G)).
        let none : times_words (objects G) W w e W ≡ span (λ (b : ℕ). 0) 0 W =
        span_agree (λ (b : ℕ). runs_sum (hit e) (runs_at (objects G) W w b)) (λ (b : ℕ). 0) W
        (λ b h. runs_beyond ms there.formed e (omega arith) (runs_at (objects G) W w b) (x.right b h).within) in
        omega (arith, none, span_limit (λ (b : ℕ). 0) 0 0 W (λ i. omega arith)))

    pub loaded : LoadedAre G ms W w r
    loaded =
        record {
          right = record { each = x.right; once = once };
          targets = λ v h m e a b clear. (d.right q).targets v h m e a b (omega arith) (omega (arith, after_limit G there.formed v (omega (arith, there.marks_length)))) clear;
          total = x.total;
          carrying = x.carrying;
          low = x.low;
        }
