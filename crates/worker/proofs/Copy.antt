-- What stands before and behind words that are pasted into a list.
use mathlib.Core.Path.{◌≡◌, sym, ap, ◌∙◌}
use mathlib.Core.List.{List, ◌++◌}
use Prim.Native.Nat.{ℕ, ◌+◌, ◌-◌, ◌≤◌, ◌<◌}
use native.Mathlib.Omega.{arith}
use lib.ListN.{length, get_or, take, drop, get_or-append}
use lib.Seq.{paste, length_paste_head, get_or-take, get_or-drop, length-take-le}
use Rattle.laws.proofs.Stores.{get_or_past}

-- what a copy leaves alone
pub paste_before : (d s : List ℕ) (at j k : ℕ) → at ≤ length d → j ≤ length s → k < at
    → get_or (paste d at s j) k 0 ≡ get_or d k 0
paste_before d s at j k hd hs h =
    get_or-append (take at d ++ take j s) (drop (at + j) d) 0 k (omega (arith, length_paste_head d at s j hd hs))
    ∙ get_or-append (take at d) (take j s) 0 k (omega (arith, length-take-le at d hd))
    ∙ get_or-take at d k 0 h

pub paste_after : (d s : List ℕ) (at j k : ℕ) → at ≤ length d → j ≤ length s → at + j ≤ k
    → get_or (paste d at s j) k 0 ≡ get_or d k 0
paste_after d s at j k hd hs h =
    let e : k ≡ at + j + (k - (at + j)) = omega arith in
    ap (λ (i : ℕ). get_or (paste d at s j) i 0) e
    ∙ get_or_past (take at d ++ take j s) (drop (at + j) d) (at + j) (k - (at + j)) 0 (length_paste_head d at s j hd hs)
    ∙ get_or-drop (at + j) d (k - (at + j)) 0
    ∙ ap (λ (i : ℕ). get_or d i 0) (sym e)
