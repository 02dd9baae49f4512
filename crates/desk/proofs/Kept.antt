-- Beside a refusal nothing that is lent changes.
use mathlib.Core.Path.{◌≡◌, refl}
use Prim.Native.Nat.{ℕ, zero, suc, ◌<◌}
use native.Mathlib.Omega.{arith}
use Rattle.refusal.specs.declared.Refusal.{Refusal}
use Rattle.refusal.specs.Number.{number}
use Rattle.refusal.proofs.Numbers.{numbered}
use Rattle.desk.specs.Kept.{unless_refused}

pub unwritten : {A : Type 0} (k : ℕ) (new old : A) → 0 < k → old ≡ unless_refused k new old
unwritten zero new old h = absurd (omega arith)
unwritten (suc k) new old h = refl

pub kept : {A : Type 0} (r : Refusal) (new old : A) → old ≡ unless_refused (number r) new old
kept r new old = unwritten (number r) new old (numbered r)
