-- The start list of SPECIFICATION 4.2, drawn: a call, its row, the workers that its turns leave and the marks, computed.
use Rattle.std.specs.Prelude.{◌≡◌, refl, true, false, List, [], ◌∷◌, map, ℕ, replicate}
use Rattle.graph.specs.Graph.{rising, all_below, well_formed}
use Rattle.graph.specs.Chain.{marks_at, leaving_reached}
use Rattle.machine.specs.Run.{run, carried, keep, rest}
use Rattle.machine.specs.Machine.{idle, ended, busy, poll, empty, turns, start, start_runs, entries, all_ended, live}
use Rattle.desk.specs.Checks.{schedule_fits}
use Rattle.machine.specs.Call.{fault, first_fault, final}
use Rattle.machine.specs.Drawings.{S, naming0, gives, drawing_from, faulty, drawn, drawn_trail}
use Rattle.machine.specs.Rules.{Rule, rule}

unfoldable pub leased : List Rule
unfolding naming0
leased =
    -- all starts are marked, and worker 0 carries their runs in list order; the other is idle
    rule (drawing_from S (3 ∷ 0 ∷ 5 ∷ []) 2 1 1 [] (gives false 3 0 0 0 0 1))
    (busy empty 0 poll (run 4 0 ∷ run 0 1 ∷ run 5 0 ∷ []) ∷ idle ∷ [])
    -- a repeated start adds nothing: its first place counts
    ∷ rule (drawing_from S (5 ∷ 0 ∷ 5 ∷ 0 ∷ 0 ∷ []) 1 1 1 [] (gives false 2 0 0 0 0 1))
    (busy empty 0 poll (run 5 0 ∷ run 0 1 ∷ []) ∷ [])
    -- a start without references is marked and adds no run
    ∷ rule (drawing_from S (4 ∷ 5 ∷ []) 1 1 1 [] (gives false 2 0 0 0 0 1))
    (busy empty 0 poll (run 5 0 ∷ []) ∷ [])
    -- no start has references: worker 0 is idle, and ends in its turn
    ∷ rule (drawing_from S (4 ∷ 4 ∷ []) 2 1 1 [] (gives false 1 0 0 0 0 0))
    (idle ∷ idle ∷ [])
    ∷ rule (drawing_from S (4 ∷ 4 ∷ []) 2 1 1 (naming0 (0 ∷ 1 ∷ [])) (gives true 1 0 0 0 2 0))
    (ended ∷ ended ∷ [])
    -- from the index alone objects 4 and 5 are left out; a lease of 5 keeps both
    ∷ rule (drawing_from S (0 ∷ []) 1 6 1 (naming0 (replicate 12 0)) (gives true 4 5 0 0 12 0))
    (ended ∷ [])
    ∷ rule (drawing_from S (0 ∷ 5 ∷ []) 1 6 1 (naming0 (replicate 13 0)) (gives true 6 6 0 0 13 0))
    (ended ∷ [])
    ∷ []

pub leased_give : map (λ (r : Rule). drawn r.shown) leased ≡ map (λ (r : Rule). r.shown.gives) leased
unfolding drawn leased turns start entries all_ended live start_runs carried marks_at keep rest rising all_below well_formed schedule_fits
leased_give = refl

pub leased_leave : map (λ (r : Rule). (final r.shown.call).workers) leased ≡ map (λ (r : Rule). r.leaves) leased
unfolding leased turns start entries live start_runs carried marks_at keep rest
leased_leave = refl

pub leased_marks :
    map (λ (r : Rule). (final r.shown.call).marks) leased
    ≡ (1 ∷ 0 ∷ 0 ∷ 1 ∷ 0 ∷ 1 ∷ [])
    ∷ (1 ∷ 0 ∷ 0 ∷ 0 ∷ 0 ∷ 1 ∷ [])
    ∷ (0 ∷ 0 ∷ 0 ∷ 0 ∷ 1 ∷ 1 ∷ [])
    ∷ (0 ∷ 0 ∷ 0 ∷ 0 ∷ 1 ∷ 0 ∷ [])
    ∷ (0 ∷ 0 ∷ 0 ∷ 0 ∷ 1 ∷ 0 ∷ [])
    ∷ (1 ∷ 1 ∷ 1 ∷ 1 ∷ 0 ∷ 0 ∷ [])
    ∷ (1 ∷ 1 ∷ 1 ∷ 1 ∷ 1 ∷ 1 ∷ [])
    ∷ []
unfolding leased turns start entries live start_runs carried marks_at keep rest
leased_marks = refl

-- the runs of the starts are followed in list order: the trails of the last two
pub leased_trails :
    map (λ (r : Rule). drawn_trail r.shown) leased
    ≡ [] ∷ [] ∷ [] ∷ [] ∷ [] ∷ (0 ∷ 1 ∷ 3 ∷ 4 ∷ 2 ∷ []) ∷ (0 ∷ 1 ∷ 3 ∷ 4 ∷ 2 ∷ 5 ∷ []) ∷ []
unfolding drawn_trail leased turns start entries all_ended live start_runs carried marks_at keep rest
leased_trails = refl

-- R over the starts: 5 from the index alone, 6 with a lease of 5, 1 from 5 alone
pub leased_leaving :
    leaving_reached S (0 ∷ []) ∷ leaving_reached S (0 ∷ 5 ∷ []) ∷ leaving_reached S (5 ∷ 5 ∷ []) ∷ leaving_reached S (4 ∷ []) ∷ []
    ≡ 5 ∷ 6 ∷ 1 ∷ 0 ∷ []
unfolding leaving_reached
leased_leaving = refl

-- the edges of 13: 1 and 257 starts are taken, none and 258 are not
pub start_counts :
    map (λ (k : ℕ). fault (faulty (0 ∷ 0 ∷ []) [] (replicate k 0) 1 []) 1 6 4) (0 ∷ 1 ∷ 257 ∷ 258 ∷ []) ≡ 13 ∷ 0 ∷ 0 ∷ 13 ∷ []
unfolding first_fault rising all_below well_formed schedule_fits
start_counts = refl

-- 5 looks at every start: n - 1 is taken, n is not
pub start_objects :
    map (λ (v : ℕ). fault (faulty (0 ∷ 0 ∷ 0 ∷ []) [] (0 ∷ v ∷ []) 1 []) 2 8 4) (0 ∷ 1 ∷ 2 ∷ []) ≡ 0 ∷ 0 ∷ 5 ∷ []
unfolding first_fault rising all_below well_formed schedule_fits
start_objects = refl
