-- Which part of what a worker carries held the last reference that it keeps when it shares (SPECIFICATION 4.4).
-- The parts are the paper's: the front is its r1, the middle its vs, the back its r2.
use Rattle.std.specs.Prelude.{ℕ, ◌-◌, ◌≤◌, ◌<◌, ◌≡◌, refl, List, [], ◌∷◌, map, leb, ltb}
use Rattle.laws.specs.Choice.{pick}
use Rattle.machine.specs.declared.frontier.Held.{Held}
use Rattle.machine.specs.declared.frontier.Held.TheVariants.{Front, Back, Middle}
use Rattle.machine.specs.Run.{Run, run, size, carried, half}

-- how many references the last of runs holds, 0 where there is none
unfoldable pub last_size : List Run → ℕ
last_size [] = 0
last_size (r ∷ []) = size r
last_size (r ∷ q ∷ rs) = last_size (q ∷ rs)

-- The first run holds the last of the first k references if k is at most its size; if not, the last of the others does
-- if k is above what all but that one hold; if not, it is one in the middle.
unfoldable pub held : ℕ → List Run → Held
unfolding carried last_size
held k [] = Front
held k (r ∷ rs) = pick (leb k (size r)) Front (pick (ltb (carried (r ∷ rs) - last_size rs) k) Back Middle)

-- what the part says of the runs that are kept, so many of so many: the first alone, all of two or more, or some between
abbrev pub Tells : Held → ℕ → ℕ → Type 0
Tells Front kept all = kept ≡ 1
Tells Back kept all = (2 ≤ all) × (kept ≡ all)
Tells Middle kept all = (2 ≤ kept) × (kept < all)

-- the answer at a hand-over
abbrev pub held_half : List Run → Held
held_half rs = held (half (carried rs)) rs

-- runs of these sizes
abbrev pub sized : List ℕ → List Run
sized [] = []
sized (k ∷ ks) = run 0 (k - 1) ∷ sized ks

-- one run is the front; the front holds half exactly, and less; the back of two, and two equal runs; the back holds more
-- than half, and half exactly: it is handed over whole then, and the last reference kept lies before it; half is rounded up
pub held_half_lem :
    map (λ (ks : List ℕ). held_half (sized ks))
    ((9 ∷ [])
    ∷ (2 ∷ 1 ∷ 1 ∷ [])
    ∷ (2 ∷ 2 ∷ 2 ∷ [])
    ∷ (1 ∷ 2 ∷ [])
    ∷ (2 ∷ 2 ∷ [])
    ∷ (1 ∷ 1 ∷ 3 ∷ [])
    ∷ (1 ∷ 1 ∷ 2 ∷ [])
    ∷ (1 ∷ 1 ∷ 1 ∷ [])
    ∷ [])
    ≡ Front ∷ Front ∷ Middle ∷ Back ∷ Front ∷ Back ∷ Middle ∷ Middle ∷ []
unfolding held carried
held_half_lem = refl
