-- A stretch written out at the end of a call is the machine's stretch of its runs.
use mathlib.Core.Path.{◌≡◌}
use mathlib.Core.List.{List, [], ◌∷◌, ◌++◌, append_assoc}
use Prim.Native.Nat.{ℕ, suc, ◌+◌, ◌-◌, ◌*◌}
use native.Mathlib.Omega.{arith}
use borrow.Author.Tests.{lt-ltb}
use lib.ListN.{length, replicate, length-append}
use Rattle.machine.specs.Run.{Run, run, pairs}
use Rattle.worker.specs.declared.stretch.Top.{Top}
use Rattle.worker.specs.Stretch.{Told, settled}
use Rattle.worker.proofs.Pairs.{length_pairs}

-- all pairs, then zeros
pub settled_told : (rs : List Run) (t : Top) (s : List ℕ) → Told rs t s
    → settled s t ≡ pairs rs ++ replicate (length s - length (pairs rs)) 0
unfolding pairs
settled_told [] t s h = let n : length s - 0 ≡ length s = omega arith in rw (h.top, n)
settled_told (run f j ∷ rs) t s h =
    let n : length s - (2 * length rs + 2) ≡ length s - length (pairs rs ++ (f ∷ (f + suc j) ∷ [])) =
    rw length-append (omega (arith, length_pairs rs)) in
    rw (h.top, lt-ltb f (f + suc j) (omega arith), h.holds.words, n, append_assoc)
