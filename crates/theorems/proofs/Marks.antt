-- One more mark: x, a value above 0, is written at place v.
use mathlib.Core.Path.{◌≡◌, refl, ap}
use mathlib.Core.List.{List, [], ◌∷◌}
use mathlib.Core.Logic.{◌⊎◌, inl, inr, ⊎_map}
use Prim.Native.Nat.{ℕ, zero, suc, ◌+◌, ◌≤◌, ◌<◌}
use native.Mathlib.Omega.{arith}
use native.Mathlib.Nat.{zero-add}
use lib.ListN.{length, get_or, set}
use Rattle.laws.specs.Sum.{sum}
use Rattle.laws.proofs.Sum.{sum_set, inside}
use Rattle.graph.specs.Chain.{set?, over_marked}
use Rattle.graph.proofs.OverMarked.{over_set, over_set_again}
use Rattle.machine.specs.Machine.{claim_mark, live}
use Rattle.machine.specs.Sound.{Marked}

-- a claim's mark is set; no other proof looks into its value
pub claim_mark_set : (b : ℕ) → 0 < claim_mark b
claim_mark_set b = omega arith

-- and it is at most the number of workers
pub claim_mark_limit : (b W : ℕ) → b < W → claim_mark b ≤ W
claim_mark_limit b W h = omega arith

-- a mark keeps every mark
pub marked_keeps : (ms : List ℕ) (v x u : ℕ) → 0 < x → Marked ms u → Marked (set ms v x) u
marked_keeps [] v x u p h = h
marked_keeps (m ∷ ms) zero x zero p h = p
marked_keeps (m ∷ ms) zero x (suc u) p h = h
marked_keeps (m ∷ ms) (suc v) x zero p h = h
marked_keeps (m ∷ ms) (suc v) x (suc u) p h = marked_keeps ms v x u p h

-- and adds no other
pub marked_from : (ms : List ℕ) (v x u : ℕ) → Marked (set ms v x) u → Marked ms u ⊎ (u ≡ v)
marked_from [] v x u h = inl h
marked_from (m ∷ ms) zero x zero h = inr refl
marked_from (m ∷ ms) zero x (suc u) h = inl h
marked_from (m ∷ ms) (suc v) x zero h = inl h
marked_from (m ∷ ms) (suc v) x (suc u) h = ⊎_map (λ (p : Marked ms u). p) (λ (p : u ≡ v). ap suc p) (marked_from ms v x u h)

-- and stands there
pub marked_there : (ms : List ℕ) (v x : ℕ) → 0 < x → v < length ms → Marked (set ms v x) v
marked_there [] v x p h = absurd (omega arith)
marked_there (m ∷ ms) zero x p h = p
marked_there (m ∷ ms) (suc v) x p h = marked_there ms v x p (omega arith)

-- what is summed over the marked objects grows by the new one's share
pub over_more : (f : ℕ → ℕ) (ms : List ℕ) (v x : ℕ) → 0 < x → get_or ms v 1 ≡ 0 → over_marked f 0 (set ms v x) ≡ over_marked f 0 ms + f v
over_more f ms v zero p e = absurd (omega arith)
over_more f ms v (suc k) p e = omega (arith, over_set f 0 ms v k e, ap f (zero-add v))

-- live is the sum of 1 over the marked objects
live_over : (b : ℕ) (ms : List ℕ) → over_marked (λ (v : ℕ). 1) b ms ≡ live ms
unfolding live sum over_marked
live_over b [] = refl
live_over b (zero ∷ ms) = omega (arith, live_over (suc b) ms)
live_over b (suc m ∷ ms) = omega (arith, live_over (suc b) ms)

-- live grows by 1
pub live_more : (ms : List ℕ) (v x : ℕ) → 0 < x → get_or ms v 1 ≡ 0 → live (set ms v x) ≡ suc (live ms)
live_more ms v x p e = omega (arith, over_more (λ (u : ℕ). 1) ms v x p e, live_over 0 ms, live_over 0 (set ms v x))

-- or stays, where the mark was set
pub live_again : (ms : List ℕ) (v x k : ℕ) → 0 < x → get_or ms v 1 ≡ suc k → live (set ms v x) ≡ live ms
live_again ms v zero k p e = absurd (omega arith)
live_again ms v (suc x) k p e = omega (arith, over_set_again (λ (u : ℕ). 1) 0 ms v x k e, live_over 0 ms, live_over 0 (set ms v (suc x)))

-- a number counts once where it is not 0
pub set_some : (x : ℕ) → 0 < x → set? x ≡ 1
set_some zero h = absurd (omega arith)
set_some (suc k) h = refl

-- live falls by 1 where a mark is taken away
pub live_less : (ms : List ℕ) (v : ℕ) → Marked ms v → live ms ≡ suc (live (set ms v 0))
unfolding live
live_less ms v m =
    let x = get_or ms v 0 in
    omega (arith, sum_set set? 0 ms v x 0 refl (inside ms v 0 (λ (y : ℕ). y) refl m), set_some x m)
