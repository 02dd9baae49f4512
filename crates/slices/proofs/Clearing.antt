-- Zeros from one place up to another.
use mathlib.Core.Path.{◌≡◌}
use mathlib.Core.List.{List, ◌++◌}
use Prim.Native.Nat.{ℕ, ◌+◌, ◌-◌, ◌≤◌}
use native.Mathlib.Omega.{arith}
use lib.ListN.{length, take, drop, replicate, length-drop}
use lib.Seq.{drop-drop, length-take-le}
use Rattle.slices.specs.Slices.{cleared}

-- what filling a part with zeros leaves
pub filled : (w : List ℕ) (from to : ℕ) {zeros : List ℕ} → from ≤ to → to ≤ length w → zeros ≡ replicate (length (take (to - from) (drop from w))) 0
    → take from w ++ (zeros ++ drop (to - from) (drop from w)) ≡ cleared w from to
filled w from to {zeros} h g e =
    let n : length (take (to - from) (drop from w)) ≡ to - from = length-take-le (to - from) (drop from w) (rw length-drop (omega arith)) in
    let m : from + (to - from) ≡ to = omega arith in
    rw (e, n, drop-drop, m)
