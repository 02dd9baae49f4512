-- The numbers that are taken out, gathered as bits; the count goes up with each new bit.
use mathlib.Core.Path.{◌≡◌, refl, sym, ap, ◌∙◌}
use mathlib.Core.Bool.{Bool, true, false}
use mathlib.Core.List.{List}
use mathlib.Core.Logic.{by_cases}
use Prim.Native.Nat.{ℕ, zero, suc, ◌+◌, ◌-◌, ◌≤◌, ◌<◌}
use native.Mathlib.Nat.{add-zero, zero-add}
use native.Mathlib.Numerals.{add-one}
use native.Mathlib.Decide.{ℕ_discrete}
use native.Mathlib.Omega.{arith}
use lib.ListN.{length, get_or, take, replicate, length-replicate}
use lib.Seq.{take-suc, take-length}
use Rattle.laws.specs.Sum.{sum, hit}
use Rattle.laws.specs.Span.{span}
use Rattle.laws.proofs.Sum.{hit_same, hit_other, hit_swap, sum_snoc}
use Rattle.laws.proofs.Span.{span_add, span_agree_from, span_hit_one}
use Rattle.laws.proofs.Passing.{span_plus, span_limit}
use Rattle.graph.specs.Chain.{set?}
use Rattle.slices.specs.Bits.{bit, Inserts}
use Rattle.slices.proofs.BitWords.{bit_low, bit_none, hit_shift}
use Rattle.changes.specs.Stores.{distinct}
use Rattle.changes.specs.Taking.{named, Gathered}

set_some : (x : ℕ) → 0 < x → set? x ≡ 1
set_some zero h = absurd (omega arith)
set_some (suc x) h = refl

-- a number that is not 0 counts as before; one that is 0 counts by what is added
set_more : (x y : ℕ) → 0 < x → set? (x + y) ≡ set? x
set_more zero y h = absurd (omega arith)
set_more (suc x) y h = set_some (suc x + y) (omega arith)

set_back : (x : ℕ) → set? x ≡ 1 → 0 < x
set_back zero e = absurd (omega arith)
set_back (suc x) e = omega arith

set_none : (x : ℕ) → set? x ≡ 0 → x ≡ 0
set_none zero e = refl
set_none (suc x) e = absurd (omega arith)

-- the first i numbers are gathered, in L words
pub record GatheredTo (ns : List ℕ) (base end L : ℕ) (ws : List ℕ) (r i : ℕ) : Type 0 where
  pub within : i ≤ length ns
  pub long : length ws ≡ L
  pub bits : (e : ℕ) → base ≤ e → e < end → bit ws (e - base) ≡ named (take i ns) e
  pub count_is : r ≡ span (λ (e : ℕ). bit ws (e - base)) base (end - base)

pub gathered_none : (ns : List ℕ) (base end : ℕ) {L : ℕ} {ws : List ℕ} → ws ≡ replicate L 0 → GatheredTo ns base end L ws 0 0
unfolding sum
gathered_none ns base end {L} {ws} e =
    rw e
    (record {
      within = omega arith;
      long = length-replicate {A = ℕ} L 0;
      bits = λ k h q. bit_none L (k - base);
      count_is =
          omega (arith, span_limit (λ (k : ℕ). bit (replicate L 0) (k - base)) 0 base (end - base) (λ k. omega (arith, bit_none L (k - base))));
    })

module _ {ns : List ℕ} {base end L : ℕ} {ws : List ℕ} {r i : ℕ} (a : GatheredTo ns base end L ws r i) where
  pub gathered_low : r ≤ end - base
  gathered_low = omega (arith, a.count_is, span_limit (λ (k : ℕ). bit ws (k - base)) 1 base (end - base) (λ k. bit_low ws (k - base)))

  module _ (h : i < length ns) where
    abbrev x : ℕ
    x = get_or ns i 0

    more : (e : ℕ) → sum (hit e) (take (suc i) ns) ≡ sum (hit e) (take i ns) + hit e x
    more e = rw (take-suc ns i 0 h) (sum_snoc (hit e) (take i ns) x)

    -- one that is not in the window
    pub gathered_out : (base ≤ x → x < end → ⊥) → GatheredTo ns base end L ws r (i + 1)
    gathered_out n =
        record {
          within = omega (arith, h);
          long = a.long;
          bits = λ k p q.
              rw (add-one i, more k, hit_other k x (λ z. n (rw (← z) p) (rw (← z) q)), add-zero (sum (hit k) (take i ns)))
              (a.bits k p q);
          count_is = a.count_is;
        }

    module _ (low : base ≤ x) (high : x < end) {ws' : List ℕ} (same : length ws' ≡ length ws) where
      -- a new one
      pub gathered_new : {t : Bool} → Inserts ws (x - base) t ws' → t ≡ true → GatheredTo ns base end L ws' (r + 1) (i + 1)
      gathered_new p e =
          let f : (k : ℕ) → base ≤ k → bit ws' (k - base) ≡ bit ws (k - base) + hit k x =
          λ k l. p.fresh e (k - base) ∙ ap (λ (j : ℕ). bit ws (k - base) + j) (hit_shift k x base l low) in
          let z : bit ws (x - base) ≡ 0 = omega (arith, f x low, bit_low ws' (x - base), hit_same x) in
          let w : sum (hit x) (take i ns) ≡ 0 = set_none (sum (hit x) (take i ns)) (sym (a.bits x low high) ∙ z) in
          record {
            within = omega (arith, h);
            long = same ∙ a.long;
            bits = λ k l u.
                rw (add-one i, more k)
                (by_cases (ℕ_discrete k x)
                (λ (s : k ≡ x). rw (s, w, hit_same x) (omega (arith, f x low, z, hit_same x)))
                (λ s. rw (hit_other k x s, add-zero (sum (hit k) (take i ns))) (omega (arith, f k l, a.bits k l u, hit_other k x s))));
            count_is =
                omega (
                  arith,
                  a.count_is,
                  span_agree_from (λ (k : ℕ). bit ws' (k - base)) (λ (k : ℕ). bit ws (k - base) + hit x k) base (end - base)
                      (λ k l u. f k l ∙ ap (λ (j : ℕ). bit ws (k - base) + j) (hit_swap k x)),
                  span_plus (λ (k : ℕ). bit ws (k - base)) (hit x) base (end - base),
                  span_hit_one x base (end - base) low (omega arith),
                );
          }

      -- one that is there
      pub gathered_again : {t : Bool} → Inserts ws (x - base) t ws' → t ≡ false → GatheredTo ns base end L ws' r (i + 1)
      gathered_again p e =
          let f = p.same e in
          let z = set_back (sum (hit x) (take i ns)) (sym (a.bits x low high) ∙ p.there e) in
          record {
            within = omega (arith, h);
            long = same ∙ a.long;
            bits = λ k l u.
                rw (add-one i, more k)
                (by_cases (ℕ_discrete k x)
                (λ (s : k ≡ x). rw s (f (x - base) ∙ a.bits x low high ∙ sym (set_more (sum (hit x) (take i ns)) (hit x x) z)))
                (λ s. rw (hit_other k x s, add-zero (sum (hit k) (take i ns))) (f (k - base) ∙ a.bits k l u)));
            count_is =
                a.count_is
                ∙ sym (span_agree_from (λ (k : ℕ). bit ws' (k - base)) (λ (k : ℕ). bit ws (k - base)) base (end - base) (λ k l u. f (k - base)));
          }

  pub gathered_end : length ns ≤ i → base ≤ end → Gathered ns base end r ws
  gathered_end h o =
      let q : i ≡ length ns = omega (arith, h, a.within) in
      let b : (e : ℕ) → base ≤ e → e < end → bit ws (e - base) ≡ named ns e = λ e l u. rw (q, take-length) at (a.bits e l u) in
      record {
        bits = b;
        count_is =
            a.count_is
            ∙ span_agree_from (λ (e : ℕ). bit ws (e - base)) (named ns) base (end - base) (λ e l u. b e l (omega arith));
        count_low = gathered_low;
      }

-- ---- the windows laid end to end

pub named_next : (ns : List ℕ) {from to r s : ℕ} {ws : List ℕ} → r ≡ distinct ns from → from ≤ to → Gathered ns from to s ws → r + s ≡ distinct ns to
named_next ns {from} {to} {r} {s} e h g =
    let p : from + (to - from) ≡ to = omega arith in
    let z : 0 + from ≡ from = zero-add from in
    omega (arith, e, g.count_is, rw (p, z) at (span_add (named ns) 0 from (to - from)))
