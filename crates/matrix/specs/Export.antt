-- SPECIFICATION 13.3: the text of a graph, how long it is, what export answers, and the lent buffer afterwards.
use Rattle.std.specs.Prelude.{not, List, [], ◌++◌, map, ℕ, zero, suc, length, eqb}
use Rattle.laws.specs.Blocks.{laid}
use Rattle.refusal.specs.Order.{raise, first}
use Rattle.graph.specs.Graph.{Graph, graph, objects, references, references_of}
use Rattle.records.specs.Store.{Pair}
use Rattle.desk.specs.Checks.{graph_faults}
use Rattle.desk.specs.Kept.{unless_refused}
use Rattle.desk.specs.Length.{LengthRow, length_by}
use Rattle.text.specs.Text.{decimal}
use Rattle.matrix.specs.Layout.{banner, space, feed, stopped}

-- the references of one object, as pairs
abbrev pub pairs_from : ℕ → List ℕ → List Pair
pairs_from v ts = map (λ (t : ℕ). record { from = v; to = t }) ts

-- those of the objects below v, object after object
unfoldable pub pairs_below : Graph → ℕ → List Pair
pairs_below G zero = []
pairs_below G (suc v) = pairs_below G v ++ pairs_from v (references_of G v)

-- the line of a pair, counted from 1
abbrev pub line_of : Pair → List ℕ
line_of p = stopped (decimal (suc p.from)) space ++ stopped (decimal (suc p.to)) feed

-- the line of the counts
abbrev pub counts_line : ℕ → ℕ → List ℕ
counts_line n m = stopped (decimal n) space ++ (stopped (decimal n) space ++ stopped (decimal m) feed)

-- the text of a graph: the first line, the counts, and the stored list by object
unfoldable pub exported : Graph → List ℕ
unfolding laid pairs_below
exported G = banner ++ (counts_line (objects G) (references G) ++ laid line_of (pairs_below G (objects G)))

-- ---- the calls

-- how long the text of a graph is
abbrev pub length_for : List ℕ → List ℕ → LengthRow
length_for os ts = length_by (graph_faults os ts) (length (exported (graph os ts)))

-- export: 7 comes last
unfoldable pub export_fault : List ℕ → List ℕ → ℕ → ℕ
export_fault os ts bytes = first (graph_faults os ts) (raise (not (eqb bytes (length (exported (graph os ts))))) 7 0)

-- the lent bytes afterwards
abbrev pub bytes_after : List ℕ → List ℕ → List ℕ → List ℕ
bytes_after os ts out = unless_refused (export_fault os ts (length out)) (exported (graph os ts)) out
