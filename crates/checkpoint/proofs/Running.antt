-- Workers that have not ended, counted by their words.
use mathlib.Core.Path.{◌≡◌, refl, ap, ◌∙◌}
use mathlib.Core.List.{List}
use Prim.Native.Nat.{ℕ, ◌+◌, ◌-◌, ◌*◌, ◌≤◌}
use native.Mathlib.Nat.{zero-add}
use native.Mathlib.Omega.{arith}
use mathlib.Core.Bool.{true, false, not}
use lib.Dec.{eqb}
use mir.Val.{bool_byte}
use lib.ListN.{get_or}
use Rattle.laws.specs.Choice.{pick}
use Rattle.laws.specs.Span.{span}
use Rattle.laws.proofs.Span.{span_add}
use Rattle.checkpoint.specs.Restoring.{runs?, running_in, Telling}
use Rattle.step.specs.declared.Progress.{Progress}
use Rattle.step.specs.declared.ring.Ring.{Ring}
use Rattle.step.specs.Counting.{Summable}

runs_byte : (status : ℕ) → bool_byte (not (eqb status 3)) ≡ runs? status
runs_byte status = elim (eqb status 3) as (λ b. bool_byte (not b) ≡ pick b 0 1) [ true ↦ refl | false ↦ refl ]

runs_low : (status : ℕ) → runs? status ≤ 1
runs_low status = elim (eqb status 3) as (λ b. pick b 0 1 ≤ 1) [ true ↦ omega arith | false ↦ omega arith ]

-- so many of the first b have not ended
pub record Counting (words : List ℕ) (b count : ℕ) : Type 0 where
  pub is : count ≡ running_in words b
  pub few : count ≤ b

pub counting_none : (words : List ℕ) → Counting words 0 0
unfolding span
counting_none words = record { is = refl; few = omega arith }

module _ {words : List ℕ} {b count : ℕ} (x : Counting words b count) where
  -- one more
  more : running_in words (b + 1) ≡ running_in words b + runs? (get_or words (4 * b) 0)
  unfolding span
  more =
      omega (arith, span_add (λ (i : ℕ). runs? (get_or words (4 * i) 0)) 0 b 1, ap (λ (i : ℕ). runs? (get_or words (4 * i) 0)) (zero-add b))

  pub counting_next : {k : ℕ} → k ≡ bool_byte (not (eqb (get_or words (4 * b) 0) 3)) → Counting words (b + 1) (count + k)
  counting_next h =
      let one = h ∙ runs_byte (get_or words (4 * b) 0) in
      record { is = omega (arith, x.is, more, one); few = omega (arith, x.few, one, runs_low (get_or words (4 * b) 0)) }

-- the claims won can be added up
abbrev pub won_sums : {numbers words : List ℕ} {W : ℕ} → Telling numbers words W → Summable words W 1
won_sums x =
    record {
      tallies = x.tallies;
      words_are = x.words_are;
      count = x.count;
      few = x.few;
      low = omega arith;
      fits = omega (arith, x.won_live, x.small);
    }

-- the starts that are left, worked out from the claims won
pub same_starts : (numbers : List ℕ) (running : ℕ) (ring : Ring) {k won : ℕ} → k ≡ won
    → ◌≡◌ {A = Progress}
    (record { starts = get_or numbers 0 0 - k; refused = get_or numbers 3 0; moved = get_or numbers 4 0; carrying = get_or numbers 5 0; running = running; ring = ring })
    (record { starts = get_or numbers 0 0 - won; refused = get_or numbers 3 0; moved = get_or numbers 4 0; carrying = get_or numbers 5 0; running = running; ring = ring })
same_starts numbers running ring e = rw e refl
