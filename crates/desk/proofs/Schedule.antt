-- Check 9, entry by entry.
use mathlib.Core.Path.{◌≡◌, refl}
use mathlib.Core.Bool.{Bool, true, false}
use mathlib.Core.List.{List, [], ◌∷◌, ◌++◌}
use Prim.Native.Nat.{ℕ, suc, ◌-◌, ◌*◌, ◌/◌, ◌<◌}
use native.Mathlib.Omega.{arith}
use lib.ListN.{length, get_or}
use lib.Dec.{ltb}
use Rattle.laws.specs.Choice.{both}
use Rattle.laws.proofs.Test.{both_true}
use Rattle.graph.specs.Graph.{all_below}
use Rattle.desk.specs.Checks.{schedule_fits}

-- a schedule of odd length
pub fits_odd : (W : ℕ) (l : List ℕ) → ((k : ℕ) → 2 * k ≡ length l → ⊥) → schedule_fits W l ≡ false
unfolding schedule_fits
fits_odd W [] h = absurd (h 0 refl)
fits_odd W (b ∷ []) h = refl
fits_odd W (b ∷ v ∷ l) h = rw (fits_odd W l (λ k e. h (suc k) (omega arith))) (never (ltb b W))
  where
    never : (t : Bool) → both t false ≡ false
    never true = refl
    never false = refl

-- all bytes below W
pub fits_below : (W : ℕ) (l : List ℕ) → all_below W l ≡ true → (k : ℕ) → 2 * k ≡ length l → schedule_fits W l ≡ true
unfolding schedule_fits all_below
fits_below W [] e k h = refl
fits_below W (b ∷ []) e k h = absurd (omega arith)
fits_below W (b ∷ v ∷ l) e k h =
    let p = both_true (ltb b W) (all_below W (v ∷ l)) e in
    rw p.0 (fits_below W l (both_true (ltb v W) (all_below W l) p.1).1 (k - 1) (omega arith))

-- the next entry, and what is left behind it
pub fits_entry : (W : ℕ) (e r : List ℕ) → length e ≡ 2 → schedule_fits W (e ++ r) ≡ both (ltb (get_or e 0 0) W) (schedule_fits W r)
unfolding schedule_fits
fits_entry W [] r h = absurd (omega (arith, h))
fits_entry W (b ∷ []) r h = absurd (omega (arith, h))
fits_entry W (b ∷ v ∷ []) r h = refl
fits_entry W (b ∷ v ∷ a ∷ e) r h = absurd (omega (arith, h))

-- less than an entry, of whole ones
pub fits_end : (W : ℕ) (r : List ℕ) → 2 * (length r / 2) ≡ length r → length r < 2 → schedule_fits W r ≡ true
unfolding schedule_fits
fits_end W [] e h = refl
fits_end W (b ∷ []) e h = absurd (omega (arith, e))
fits_end W (b ∷ v ∷ r) e h = absurd (omega (arith, h))
