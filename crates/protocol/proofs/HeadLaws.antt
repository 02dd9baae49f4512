-- The loops over the workers.
use mathlib.Core.Path.{◌≡◌, refl}
use mathlib.Core.Bool.{Bool, true, false}
use mathlib.Core.List.{List}
use Prim.Native.Nat.{ℕ, suc, ◌+◌, ◌*◌, ◌≤◌, ◌<◌}
use native.Mathlib.Omega.{arith}
use lib.Dec.{eqb}
use mir.Val.{bool_byte}
use borrow.Author.Tests.{eqb-true, eq-eqb}
use native.Mathlib.Nat.{add-zero}
use borrow.Author.Count.{below_more}
use Rattle.laws.specs.Span.{span}
use Rattle.laws.specs.Sum.{hit}
use Rattle.laws.proofs.Decides.{never}
use Rattle.laws.proofs.Passing.{span_next, hit_counts, miss_counts}
use Rattle.laws.proofs.Sum.{hit_at_most_one}
use Rattle.worker.specs.Registers.{status_ended}
use Rattle.saved.specs.Layout.{worker_word}
use Rattle.saved.specs.declared.WorkerWords.{WorkerWords}
use Rattle.protocol.specs.Heads.{Head, ended_words, since_words, holders}

-- one more, where x is k, is what `hit` counts
pub counted : {r x y : ℕ} (n k : ℕ) → r ≡ bool_byte (eqb x k) → x ≡ y → n + r ≡ n + hit k y
counted {x = x} n k e same =
    let cases : (b : Bool) → eqb x k ≡ b → n + bool_byte b ≡ n + hit k x =
    λ b. elim b as (λ b. eqb x k ≡ b → n + bool_byte b ≡ n + hit k x)
    [ true ↦ λ p. hit_counts n k x (eqb-true x k p) | false ↦ λ p. rw add-zero (miss_counts n k x (λ q. never (eq-eqb x k q) p)) ] in
    rw (e, ← same) (cases (eqb x k) refl)

-- ---- the loop of `check_heads`

pub record HeadsAt (W D : ℕ) (w : List ℕ) (ended since b : ℕ) : Type 0 where
  pub high : b ≤ W
  pub each : (a : ℕ) → a < b → Head W D (worker_word w a 0) (worker_word w a 1) (worker_word w a 2) (worker_word w a 3)
  pub ended_is : ended ≡ ended_words w b
  pub since_is : since ≡ since_words w b
  pub ended_low : ended ≤ b
  pub since_low : since ≤ 4294967296 * b

module _ {W D : ℕ} {w : List ℕ} where
  pub heads_start : HeadsAt W D w 0 0 0
  unfolding span
  heads_start =
      record {
        high = omega arith;
        each = λ a h. absurd (omega arith);
        ended_is = refl;
        since_is = refl;
        ended_low = omega arith;
        since_low = omega arith;
      }

  pub heads_next : {ended since b ended' : ℕ} {r : WorkerWords} → HeadsAt W D w ended since b → b < W
      → Head W D r.status r.cell r.since r.batch
      → r.status ≡ worker_word w b 0 → r.cell ≡ worker_word w b 1 → r.since ≡ worker_word w b 2 → r.batch ≡ worker_word w b 3
      → ended' ≡ ended + hit status_ended (worker_word w b 0) → r.since < 4294967296
      → HeadsAt W D w ended' (since + r.since) (b + 1)
  heads_next {b = b} x h head s c n t e small =
      record {
        high = omega arith;
        each = below_more _ b x.each (rw (← s, ← c, ← n, ← t) head);
        ended_is = omega (arith, x.ended_is, e, span_next (λ (a : ℕ). hit status_ended (worker_word w a 0)) b);
        since_is = omega (arith, n, x.since_is, span_next (λ (a : ℕ). worker_word w a 2) b);
        ended_low = omega (arith, x.ended_low, e, hit_at_most_one status_ended (worker_word w b 0));
        since_low = omega (arith, x.since_low);
      }

-- ---- the loop of `holders_of`

pub record HoldersAt (w : List ℕ) (W a found b : ℕ) : Type 0 where
  pub high : b ≤ W
  pub found_is : found ≡ holders w a b
  pub low : found ≤ b

module _ {w : List ℕ} {W a : ℕ} where
  pub holders_start : HoldersAt w W a 0 0
  unfolding span
  holders_start = record { high = omega arith; found_is = refl; low = omega arith }

  pub holders_next : {found b found' : ℕ} → HoldersAt w W a found b → b < W → found' ≡ found + hit (suc a) (worker_word w b 1)
      → HoldersAt w W a found' (b + 1)
  holders_next {b = b} x h e =
      record {
        high = omega arith;
        found_is = omega (arith, x.found_is, e, span_next (λ (i : ℕ). hit (suc a) (worker_word w i 1)) b);
        low = omega (arith, x.low, e, hit_at_most_one (suc a) (worker_word w b 1));
      }
