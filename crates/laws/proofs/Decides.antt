-- Answers that decide facts.
use mathlib.Core.Path.{◌≡◌, refl}
use mathlib.Core.Bool.{Bool, true, false}
use Prim.Native.Nat.{ℕ}
use native.Mathlib.Omega.{arith}
use Rattle.laws.specs.Decides.{Decides}

-- no answer is both
pub never {ℓ} : {A : Type ℓ} {r : Bool} → r ≡ true → r ≡ false → A
never p q = let z : ◌≡◌ {A = ℕ} 0 1 = cc in absurd (omega arith)

pub decides_yes : {P : Type 0} → P → Decides true P
decides_yes p = record { right = λ e. p; known = λ q. refl }

pub decides_no : {P : Type 0} → (P → ⊥) → Decides false P
decides_no n = record { right = λ e. never e refl; known = λ p. absurd (n p) }

-- the fact does not hold where the answer is false
pub refuted : {r : Bool} {P : Type 0} → Decides r P → r ≡ false → P → ⊥
refuted d e p = never (d.known p) e

-- the same answer for a fact that holds as well
pub decides_same : {r : Bool} {P Q : Type 0} → Decides r P → (P → Q) → (Q → P) → Decides r Q
decides_same d f g = record { right = λ e. f (d.right e); known = λ q. d.known (g q) }
