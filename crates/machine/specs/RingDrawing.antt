-- The token ring drawn for three workers, turn by turn. Worker 0 hands over to 1 and sends the token; while it is at worker 1,
-- that one hands over to 2, which the token has left behind: it comes back black, and worker 0 sends it a second time.
use Rattle.std.specs.Prelude.{◌≡◌, refl, true, List, [], ◌∷◌, map, ℕ, take}
use Rattle.graph.specs.Graph.{rising, all_below, well_formed}
use Rattle.graph.specs.Chain.{marks_at}
use Rattle.machine.specs.Run.{carried, keep, rest}
use Rattle.machine.specs.Ring.{Colour, white, black, Ring}
use Rattle.machine.specs.Machine.{live, start_runs, start, turns, entries, all_ended}
use Rattle.machine.specs.Demand2.{outcome}
use Rattle.desk.specs.Checks.{schedule_fits}
use Rattle.machine.specs.Drawings.{Drawing, gives, drawing, drawn}
use Rattle.machine.specs.Rules.{repeated}

-- who has the turn, and whom it names: 1 asks 0, which shares, follows its two references and sends the token; 2 passes it on
-- and asks 1, which shares, follows its reference and passes the token, black; 0 sends it again; 2 follows the last reference;
-- 2 and 1 pass it on, and 0, 1 and 2 end
abbrev pub ring_turns : List ℕ
ring_turns =
    1 ∷ 0 ∷ 0 ∷ 0 ∷ 1 ∷ 0 ∷ 0 ∷ 0 ∷ 0 ∷ 0 ∷ 0 ∷ 0 ∷ 0 ∷ 0
    ∷ 0 ∷ 0 ∷ 2 ∷ 0 ∷ 2 ∷ 1 ∷ 1 ∷ 0 ∷ 1 ∷ 0 ∷ 1 ∷ 0
    ∷ 0 ∷ 0 ∷ 2 ∷ 0 ∷ 2 ∷ 0 ∷ 2 ∷ 0 ∷ 2 ∷ 0 ∷ 1 ∷ 0
    ∷ 0 ∷ 0 ∷ 1 ∷ 0 ∷ 2 ∷ 0 ∷ []

-- 22 turns, of which six pass the token and 16 are counted
abbrev pub ring_drawn : Drawing
ring_drawn = drawing (repeated 4) 3 1 1 ring_turns (gives true 2 4 2 0 16 0)

pub ring_gives : drawn ring_drawn ≡ ring_drawn.gives
unfolding drawn turns start entries all_ended live start_runs carried marks_at keep rest rising all_below well_formed schedule_fits
ring_gives = refl

-- who holds the token, its colour, and the colours of workers 0, 1 and 2
abbrev pub ring : ℕ → Colour → Colour → Colour → Colour → Ring
ring h t a b c = record { holder = h; token = t; colours = a ∷ b ∷ c ∷ [] }

-- the ring at the start; after 0 has shared (turn 2), sent the token (8), and 2 has passed it (9); after 1 has shared (11) and
-- passed it (13); after 0 has sent it again (14), and 2 (18) and 1 (19) have passed it; at the end
pub rings_are :
    map (λ (k : ℕ). (outcome (repeated 4) (0 ∷ []) 3 (record { batch = 1; cutoff = 1 }) (take k (entries ring_turns))).ring)
    (0 ∷ 2 ∷ 8 ∷ 9 ∷ 11 ∷ 13 ∷ 14 ∷ 18 ∷ 19 ∷ 22 ∷ [])
    ≡ ring 0 white white white white
    ∷ ring 0 white black white white
    ∷ ring 2 white white white white
    ∷ ring 1 white white white white
    ∷ ring 1 white white black white
    ∷ ring 0 black white white white
    ∷ ring 2 white white white white
    ∷ ring 1 white white white white
    ∷ ring 0 white white white white
    ∷ ring 0 white white white white
    ∷ []
unfolding turns start entries live start_runs carried marks_at keep rest
rings_are = refl
