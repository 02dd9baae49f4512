-- The rounds of a hand, one behind the other.
use mathlib.Core.Path.{◌≡◌, ap, sym, ◌∙◌}
use mathlib.Core.List.{List, append-nil}
use Prim.Native.Nat.{ℕ, ◌+◌, ◌*◌, ◌≤◌, ◌<◌}
use native.Mathlib.Nat.{suc-mul, zero-mul, mul-le-mul_right}
use native.Mathlib.Numerals.{add-one}
use native.Mathlib.Omega.{arith}
use lib.ListN.{length, get_or, take}
use lib.Seq.{take-length, drop-length}
use Rattle.laws.specs.Blocks.{laid}
use Rattle.slices.specs.Put.{Put}
use Rattle.slices.proofs.Written.{nothing, same_long}
use Rattle.hands.specs.Hand.{round_of, turns_of}
use Rattle.hands.proofs.Lengths.{known_at}
use Rattle.hands.proofs.Rows.{laid_next}
use Rattle.seats.specs.Rounding.{Roomy, Rounded, Dealing}

-- the first i cards' turns stand at the beginning
pub record At (W : ℕ) (cards before schedule : List ℕ) (at i : ℕ) : Type 0 where
  pub low : i ≤ length cards
  pub place : at ≡ i * (2 * W)
  pub put : Put before 0 (turns_of W (take i cards)) schedule at

module _ {W : ℕ} {cards before : List ℕ} where
  pub at_start : At W cards before before 0 0
  unfolding turns_of laid
  at_start = record { low = omega arith; place = sym (zero-mul (2 * W)); put = nothing (omega arith) }

  module _ (d : Dealing cards W (length before)) {schedule : List ℕ} {at i : ℕ} (a : At W cards before schedule at i) where
    pub at_ready : i < length cards → Roomy W (get_or cards i 0) at (length schedule)
    at_ready h =
        record {
          some = d.some;
          few = d.few;
          known = known_at cards d.known i;
          room = omega (arith, a.place, suc-mul i (2 * W), d.exact, same_long a.put, mul-le-mul_right (2 * W) h);
        }

    pub at_next : i < length cards → {after : List ℕ} {end : ℕ} → Rounded W (get_or cards i 0) at schedule after end
        → At W cards before after end (i + 1)
    unfolding turns_of
    at_next h r =
        rw add-one
        (record {
          low = omega arith;
          place = omega (arith, a.place, r.ends, suc-mul i (2 * W));
          put = laid_next (round_of W) cards i h a.put r.put;
        })

    pub at_end : length cards ≤ i → schedule ≡ turns_of W cards
    at_end h =
        let n : i ≡ length cards = omega (arith, a.low) in
        let e : at ≡ length before = omega (arith, a.place, d.exact, ap (λ (k : ℕ). k * (2 * W)) n) in
        a.put.holds ∙ rw (e, n, take-length, drop-length) (append-nil (turns_of W cards))
