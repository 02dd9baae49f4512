-- Drawings of the checks that several calls make, at the edges of the ranges, and of the lengths.
use Rattle.std.specs.Prelude.{◌≡◌, refl, true, false, [], ◌∷◌, map, ℕ, replicate}
use Rattle.graph.specs.Graph.{rising, all_below, well_formed}
use Rattle.desk.specs.Lengths.{stretch_length, tallies_place, marks_place, saved_length}
use Rattle.desk.specs.Checks.{setting_fault, workers_fault, counts_outside, objects_fault, starts_fault, graph_faults, store_fault}

-- the order of the checks of a store, by the faults of two neighbours at once: 10 and 13, 13 and 5; then 5 alone, and none
pub store_order :
    store_fault (1 ∷ 0 ∷ []) [] []
    ∷ store_fault (0 ∷ 0 ∷ []) [] (replicate 258 9)
    ∷ store_fault (0 ∷ 0 ∷ []) [] (0 ∷ 9 ∷ [])
    ∷ store_fault (0 ∷ 0 ∷ []) [] (0 ∷ [])
    ∷ []
    ≡ 10 ∷ 13 ∷ 5 ∷ 0 ∷ []
unfolding rising all_below well_formed
store_order = refl

-- 1 to 257 starts
pub start_counts : map (λ (k : ℕ). starts_fault (replicate k 0)) (0 ∷ 1 ∷ 257 ∷ 258 ∷ []) ≡ 13 ∷ 0 ∷ 0 ∷ 13 ∷ []
start_counts = refl

-- 1 to 16 workers; D and K are 1 to 65535
pub worker_counts : map workers_fault (0 ∷ 1 ∷ 16 ∷ 17 ∷ []) ≡ 8 ∷ 0 ∷ 0 ∷ 8 ∷ []
worker_counts = refl

pub setting_edges :
    setting_fault 16 65535 65535
    ∷ setting_fault 0 1 1
    ∷ setting_fault 17 1 1
    ∷ setting_fault 1 0 1
    ∷ setting_fault 1 65536 1
    ∷ setting_fault 1 1 0
    ∷ setting_fault 1 1 65536
    ∷ []
    ≡ 0 ∷ 8 ∷ 8 ∷ 8 ∷ 8 ∷ 8 ∷ 8 ∷ []
setting_edges = refl

-- 1 to 65536 objects, and up to 1048576 references
pub object_counts : map objects_fault (0 ∷ 1 ∷ 65536 ∷ 65537 ∷ []) ≡ 4 ∷ 0 ∷ 0 ∷ 4 ∷ []
object_counts = refl

pub count_edges :
    counts_outside 0 0 ∷ counts_outside 1 0 ∷ counts_outside 65536 1048576 ∷ counts_outside 65537 0 ∷ counts_outside 1 1048577 ∷ []
    ≡ true ∷ false ∷ false ∷ true ∷ true ∷ []
count_edges = refl

-- the order of the checks of a graph: no offsets at all, offsets that fall and no object, offsets that fall, none
pub graph_order : graph_faults [] [] ∷ graph_faults (1 ∷ []) [] ∷ graph_faults (1 ∷ 0 ∷ []) [] ∷ graph_faults (0 ∷ 0 ∷ []) [] ∷ [] ≡ 4 ∷ 4 ∷ 10 ∷ 0 ∷ []
unfolding rising all_below well_formed
graph_order = refl

-- of two objects and three workers: a stretch, where tallies and marks begin, and how many saved words there are
pub lengths_drawn : stretch_length 2 ∷ tallies_place 3 ∷ marks_place 3 ∷ saved_length 2 3 ∷ [] ≡ 8 ∷ 28 ∷ 52 ∷ 78 ∷ []
lengths_drawn = refl
