-- What a check's answer says of its test, and what a check that finds nothing leaves to the next.
use mathlib.Core.Path.{◌≡◌, sym, ◌∙◌}
use mathlib.Core.Bool.{Bool, false}
use Prim.Native.Nat.{ℕ, ◌≤◌}
use borrow.Author.Tests.{ltb-false}
use lib.Dec.{ltb}
use Rattle.refusal.proofs.None.{or_none}
use Rattle.graph.specs.Limits.{most_objects, most_references}
use Rattle.desk.specs.Checks.{outside, counts_outside}

-- what a check's answer says of its test
pub so : {r test t : Bool} → r ≡ test → r ≡ t → test ≡ t
so e h = sym e ∙ h

-- a number that is 1 to the largest
pub inside : (most x : ℕ) → outside most x ≡ false → (1 ≤ x) × (x ≤ most)
inside most x e = let s = or_none (ltb x 1) (ltb most x) e in (ltb-false x 1 s.0, ltb-false most x s.1)

pub counts_low : (n m : ℕ) → counts_outside n m ≡ false → (1 ≤ n) × (n ≤ most_objects) × (m ≤ most_references)
counts_low n m e =
    let s = or_none (outside most_objects n) (ltb most_references m) e in
    let t = inside most_objects n s.0 in
    (t.0, t.1, ltb-false most_references m s.1)
