-- SPECIFICATION 2: the checks that several calls make, each with its number.
use Rattle.std.specs.Prelude.{ℕ, ◌*◌, Bool, true, false, not, ◌||◌, List, [], ◌∷◌, length, ltb, eqb, Option, None, Some}
use Rattle.laws.specs.Choice.{both}
use Rattle.refusal.specs.Order.{raise, first}
use Rattle.graph.specs.Graph.{Graph, graph, objects, all_below, well_formed}
use Rattle.graph.specs.Limits.{most_objects, most_references, most_starts}
use Rattle.desk.specs.Limits.{most_workers, most_setting}
use Rattle.desk.specs.Lengths.{stretch_length, tally_word_count, saved_length}
use Rattle.desk.specs.declared.Lengths.{Lengths}

-- not 1 to the largest
abbrev pub outside : ℕ → ℕ → Bool
outside most x = ltb x 1 || ltb most x

-- 8: W, D or K outside its range
abbrev pub settings_outside : ℕ → ℕ → ℕ → Bool
settings_outside W D K = outside most_workers W || outside most_setting D || outside most_setting K

abbrev pub setting_fault : ℕ → ℕ → ℕ → ℕ
setting_fault W D K = raise (settings_outside W D K) 8 0

-- 8 of W alone
abbrev pub workers_fault : ℕ → ℕ
workers_fault W = raise (outside most_workers W) 8 0

-- 4: n or m outside its range; offsets of length 0 or 1 give no n of 1 or more
abbrev pub counts_outside : ℕ → ℕ → Bool
counts_outside n m = outside most_objects n || ltb most_references m

abbrev pub count_fault : List ℕ → List ℕ → ℕ
count_fault offsets targets = raise (counts_outside (objects (graph offsets targets)) (length targets)) 4 0

-- 4 of n alone
abbrev pub objects_fault : ℕ → ℕ
objects_fault n = raise (outside most_objects n) 4 0

-- 7, of saved words where they are lent: another number than the layout has
abbrev pub saved_wrong : ℕ → ℕ → Option ℕ → Bool
saved_wrong n W None = false
saved_wrong n W (Some k) = not (eqb k (saved_length n W))

-- 7: not n marks, not W × (2n + 4) work words, not 4 × W tally words, or a wrong number of saved words
abbrev pub lengths_wrong : ℕ → ℕ → Lengths → Bool
lengths_wrong n W l =
    saved_wrong n W l.saved
    || (not (eqb l.marks n) || not (eqb l.work (W * stretch_length n)) || not (eqb l.tallies (W * tally_word_count)))

abbrev pub buffer_fault : ℕ → ℕ → Lengths → ℕ
buffer_fault n W l = raise (lengths_wrong n W l) 7 0

-- 10
abbrev pub graph_fault : Graph → ℕ
graph_fault G = raise (not (well_formed G)) 10 0

-- 13: no start, or more than a collection may have
abbrev pub starts_fault : List ℕ → ℕ
starts_fault starts = raise (outside most_starts (length starts)) 13 0

-- 5: a start is no object
abbrev pub object_fault : ℕ → List ℕ → ℕ
object_fault n starts = raise (not (all_below n starts)) 5 0

-- whole entries, each with a worker below W
unfoldable pub schedule_fits : ℕ → List ℕ → Bool
schedule_fits W [] = true
schedule_fits W (b ∷ []) = false
schedule_fits W (b ∷ v ∷ l) = both (ltb b W) (schedule_fits W l)

-- 9: a schedule of odd length, or an entry whose worker is not below W
abbrev pub schedule_fault : ℕ → List ℕ → ℕ
schedule_fault W schedule = raise (not (schedule_fits W schedule)) 9 0

-- ---- several of them, in their order

-- 4, 10
abbrev pub graph_faults : List ℕ → List ℕ → ℕ
graph_faults offsets targets = first (count_fault offsets targets) (graph_fault (graph offsets targets))

-- 10, 13, 5
abbrev pub store_fault : List ℕ → List ℕ → List ℕ → ℕ
store_fault offsets targets starts =
    first (graph_fault (graph offsets targets)) (first (starts_fault starts) (object_fault (objects (graph offsets targets)) starts))
