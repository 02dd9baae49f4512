-- Checks that find no fault.
use mathlib.Core.Path.{◌≡◌, refl}
use mathlib.Core.Bool.{Bool, true, false, ◌||◌}
use Prim.Native.Nat.{ℕ, zero, suc}
use native.Mathlib.Omega.{arith}
use Rattle.refusal.specs.Order.{raise, first}

-- no number is raised only where the fault is not there, nor a later one
pub raise_none : (t : Bool) (k later : ℕ) → raise t (suc k) later ≡ 0 → (t ≡ false) × (later ≡ 0)
raise_none true k later h = absurd (omega arith)
raise_none false k later h = (refl, h)

pub first_none : (k later : ℕ) → first k later ≡ 0 → (k ≡ 0) × (later ≡ 0)
first_none zero later h = (refl, h)
first_none (suc k) later h = absurd (omega arith)

pub or_none : (s t : Bool) → (s || t) ≡ false → (s ≡ false) × (t ≡ false)
or_none true t h = let z : ◌≡◌ {A = ℕ} 0 1 = cc in absurd (omega arith)
or_none false t h = (refl, h)
