-- The drawings A to J and L: one statement over one table, computed. (K is the reader's: `records/specs/Examples`.)
use Rattle.std.specs.Prelude.{◌≡◌, refl, Bool, true, false, List, [], ◌∷◌, ◌++◌, map, ℕ, ◌*◌, replicate}
use Rattle.graph.specs.Graph.{Graph, objects, rising, all_below, well_formed}
use Rattle.graph.specs.Chain.{marks_at}
use Rattle.desk.specs.Lengths.{stretch_length, tally_word_count}
use Rattle.machine.specs.Run.{carried, keep, rest}
use Rattle.machine.specs.Machine.{turns, trail, start, start_runs, entries, all_ended, live}
use Rattle.machine.specs.Row.{Row, refused_row}
use Rattle.desk.specs.Checks.{schedule_fits}
use Rattle.machine.specs.Call.{Call, graph_of, setting_of, fault, first_fault, final, marking}
use Rattle.machine.specs.Owners.{Win, claims_won, claims_won_of}

-- a call, and the row that it must give
pub record Drawing : Type 0 where
  pub call : Call
  pub gives : Row

-- store S: 0→1, 0→2, 1→3, 2→3, 3→0, 5→4
abbrev pub S : Graph
S = record { offsets = 0 ∷ 2 ∷ 3 ∷ 4 ∷ 5 ∷ 5 ∷ 6 ∷ []; targets = 1 ∷ 2 ∷ 3 ∷ 3 ∷ 0 ∷ 4 ∷ [] }

-- one object without references; one that refers to itself; 0→1 twice
abbrev pub alone : Graph
alone = record { offsets = 0 ∷ 0 ∷ []; targets = [] }

abbrev pub itself : Graph
itself = record { offsets = 0 ∷ 1 ∷ []; targets = 0 ∷ [] }

abbrev pub twice : Graph
twice = record { offsets = 0 ∷ 2 ∷ 2 ∷ []; targets = 1 ∷ 1 ∷ [] }

-- a schedule of these workers, all naming 0
unfoldable pub naming0 : List ℕ → List ℕ
naming0 [] = []
naming0 (b ∷ bs) = b ∷ 0 ∷ naming0 bs

-- case A's turns; with the last two, of workers 0 and 1, they end
unfoldable pub turns_A : List ℕ
unfolding naming0
turns_A = naming0 (0 ∷ 1 ∷ 0 ∷ 0 ∷ 0 ∷ 1 ∷ 1 ∷ 0 ∷ 1 ∷ 0 ∷ 0 ∷ 0 ∷ 1 ∷ 0 ∷ 1 ∷ 1 ∷ 0 ∷ 1 ∷ 0 ∷ 1 ∷ [])

-- no refusal; finished or not, live, followed, handed, refused, moved, carrying
abbrev pub gives : Bool → ℕ → ℕ → ℕ → ℕ → ℕ → ℕ → Row
gives f l fo h r m c =
    record { number = 0; finished = f; counts = record { live = l; followed = fo; handed = h; refused = r; moved = m; carrying = c } }

-- the graph with starts, W, D, K and a schedule
abbrev pub drawing_from : Graph → List ℕ → ℕ → ℕ → ℕ → List ℕ → Row → Drawing
drawing_from G starts W D K l r =
    record {
      call = record { offsets = G.offsets; targets = G.targets; starts = starts; workers = W; batch = D; cutoff = K; schedule = l };
      gives = r;
    }

-- where object 0 is the only start
abbrev pub drawing : Graph → ℕ → ℕ → ℕ → List ℕ → Row → Drawing
drawing G = drawing_from G (0 ∷ [])

-- a call with W workers on these offsets and targets, D and K 1
abbrev pub faulty : List ℕ → List ℕ → List ℕ → ℕ → List ℕ → Call
faulty offsets targets starts W l =
    record { offsets = offsets; targets = targets; starts = starts; workers = W; batch = 1; cutoff = 1; schedule = l }

-- the order of the checks, by calls with the faults of two neighbours at once: 8 and 4, 4 and 7, 7 and 10, 10 and 13,
-- 13 and 5, 5 and 9
pub checks_in_order :
    fault (faulty [] [] (0 ∷ []) 0 []) 0 0 0
    ∷ fault (faulty (0 ∷ []) [] (0 ∷ []) 1 []) 5 0 4
    ∷ fault (faulty (1 ∷ 0 ∷ []) [] (0 ∷ []) 1 []) 0 6 4
    ∷ fault (faulty (1 ∷ 0 ∷ []) [] [] 1 []) 1 6 4
    ∷ fault (faulty (0 ∷ 0 ∷ []) [] (replicate 258 9) 1 []) 1 6 4
    ∷ fault (faulty (0 ∷ 0 ∷ []) [] (0 ∷ 9 ∷ []) 1 (7 ∷ [])) 1 6 4
    ∷ []
    ≡ 8 ∷ 4 ∷ 7 ∷ 10 ∷ 13 ∷ 5 ∷ []
unfolding first_fault rising all_below well_formed schedule_fits
checks_in_order = refl

-- A to J, and L
unfoldable pub drawings : List Drawing
unfolding turns_A naming0
drawings =
    drawing S 2 1 1 turns_A (gives true 4 5 1 0 18 0)
    ∷ drawing S 2 1 1 (naming0 (0 ∷ 1 ∷ 0 ∷ 0 ∷ 0 ∷ [])) (gives false 2 1 1 0 5 2)
    ∷ drawing S 2 1 2 (naming0 (0 ∷ 1 ∷ 0 ∷ 0 ∷ 0 ∷ [])) (gives false 2 1 0 1 5 1)
    ∷ drawing S 1 2 1 (naming0 (0 ∷ 0 ∷ 0 ∷ 0 ∷ 0 ∷ 0 ∷ 0 ∷ 0 ∷ 0 ∷ 0 ∷ 0 ∷ 0 ∷ [])) (gives true 4 5 0 0 12 0)
    ∷ drawing S 1 2 1 (naming0 (0 ∷ 0 ∷ 0 ∷ 0 ∷ 0 ∷ 0 ∷ 0 ∷ 0 ∷ 0 ∷ 0 ∷ 0 ∷ [])) (gives false 4 5 0 0 11 0)
    ∷ drawing alone 1 1 1 [] (gives false 1 0 0 0 0 0)
    ∷ drawing alone 1 1 1 (naming0 (0 ∷ [])) (gives true 1 0 0 0 1 0)
    ∷ drawing alone 2 1 1 (naming0 (0 ∷ 0 ∷ [])) (gives false 1 0 0 0 1 0)
    ∷ drawing itself 1 1 1 (naming0 (0 ∷ 0 ∷ 0 ∷ [])) (gives true 1 1 0 0 3 0)
    ∷ drawing twice 1 2 1 (naming0 (0 ∷ 0 ∷ 0 ∷ 0 ∷ 0 ∷ [])) (gives true 2 2 0 0 5 0)
    ∷ drawing S 2 1 1 (naming0 (2 ∷ [])) (refused_row 9)
    ∷ []

-- so many ones, as a lent buffer may hold before the call
abbrev pub ones : ℕ → List ℕ
ones k = replicate k 1

-- what the definitions give for a drawing's call, with buffers of the right lengths
unfoldable pub drawn : Drawing → Row
unfolding first_fault
drawn d =
    marking d.call
    (ones (objects (graph_of d.call)))
    (ones (d.call.workers * stretch_length (objects (graph_of d.call))))
    (ones (d.call.workers * tally_word_count))

pub drawings_hold : map drawn drawings ≡ map (λ (d : Drawing). d.gives) drawings
unfolding drawn drawings turns start entries all_ended live start_runs carried marks_at keep rest rising all_below well_formed schedule_fits
drawings_hold = refl

-- the trail of a drawing's call
unfoldable pub drawn_trail : Drawing → List ℕ
unfolding trail start entries
drawn_trail d =
    let c = d.call in
    trail (graph_of c) (setting_of c) (start (graph_of c) c.starts c.workers) (entries c.schedule)

-- the trails of these: A's second worker loses a claim and follows all the same, and D goes on with what is left of
-- a run before the run of a claimed target
pub trails_hold :
    map drawn_trail drawings
    ≡ (0 ∷ 1 ∷ 2 ∷ 3 ∷ 4 ∷ [])
    ∷ (0 ∷ [])
    ∷ (0 ∷ [])
    ∷ (0 ∷ 1 ∷ 3 ∷ 4 ∷ 2 ∷ [])
    ∷ (0 ∷ 1 ∷ 3 ∷ 4 ∷ 2 ∷ [])
    ∷ []
    ∷ []
    ∷ []
    ∷ (0 ∷ [])
    ∷ (0 ∷ 1 ∷ [])
    ∷ []
    ∷ []
unfolding drawn_trail drawings all_ended live start_runs carried marks_at keep rest
trails_hold = refl

-- who claimed what: case A, and with the same setting worker 0 alone until it ends, then a turn of the other
unfoldable pub two_orders : List Drawing
unfolding turns_A naming0
two_orders =
    drawing S 2 1 1 turns_A (gives true 4 5 1 0 18 0)
    ∷ drawing S 2 1 1 (naming0 (replicate 14 0 ++ (1 ∷ []))) (gives true 4 5 0 0 15 0)
    ∷ []

pub orders_give : map drawn two_orders ≡ map (λ (d : Drawing). d.gives) two_orders
unfolding drawn two_orders turns start entries all_ended live start_runs carried marks_at keep rest rising all_below well_formed schedule_fits
orders_give = refl

-- the claims that a drawing's call wins
unfoldable pub drawn_wins : Drawing → List Win
unfolding claims_won start entries
drawn_wins d =
    let c = d.call in
    claims_won_of (graph_of c) c.starts c.workers (setting_of c) (entries c.schedule)

abbrev pub won : ℕ → ℕ → Win
won v b = record { object = v; winner = b }

-- in A worker 1 wins object 3, where the other order has worker 0
pub wins_hold : map drawn_wins two_orders ≡ (won 1 0 ∷ won 2 0 ∷ won 3 1 ∷ []) ∷ (won 1 0 ∷ won 2 0 ∷ won 3 0 ∷ []) ∷ []
unfolding drawn_wins two_orders all_ended live start_runs carried marks_at keep rest
wins_hold = refl

-- so the owners differ; the marked objects are the same
pub owners_differ : map (λ (d : Drawing). (final d.call).marks) two_orders ≡ (1 ∷ 1 ∷ 1 ∷ 2 ∷ 0 ∷ 0 ∷ []) ∷ (1 ∷ 1 ∷ 1 ∷ 1 ∷ 0 ∷ 0 ∷ []) ∷ []
unfolding two_orders turns start entries live start_runs carried marks_at keep rest
owners_differ = refl
