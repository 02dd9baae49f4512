-- SPECIFICATION 12: the store and the marks after references were added, and after some were taken out.
use Rattle.std.specs.Prelude.{List, [], ◌∷◌, ◌++◌, map, ℕ, zero, suc, length, get_or}
use Rattle.laws.specs.Grouping.{grouped, starts}
use Rattle.laws.specs.Span.{span, listing}
use Rattle.laws.specs.Sum.{sum, hit}
use Rattle.graph.specs.Graph.{Graph, graph, objects}
use Rattle.graph.specs.Chain.{set?, closure}
use Rattle.graph.specs.Leaving.{unset?}
use Rattle.changes.specs.Pairs.{Pair, from_of, to_of, pairs_of}

-- the store of n objects whose references are these pairs: by object, those of one object in the list's order
unfoldable pub store_of : ℕ → List Pair → Graph
unfolding starts grouped
store_of n ps = graph (starts from_of n ps) (map to_of (grouped from_of n ps))

-- the enlarged store: the new references stand behind their object's old ones, in list order
unfoldable pub added : Graph → List Pair → Graph
unfolding store_of pairs_of
added G ps = store_of (objects G) (pairs_of G ++ ps)

-- the mark of an object newly in the set
abbrev pub new_mark : ℕ
new_mark = 255

-- a mark that was set stays; another becomes the new mark where the object is in the set
abbrev pub mark_by : ℕ → ℕ → ℕ
mark_by zero zero = 0
mark_by zero (suc k) = new_mark
mark_by (suc m) k = suc m

-- marks completed: the least set that holds those given and is closed under the graph's references
unfoldable pub completed : Graph → List ℕ → List ℕ
unfolding closure listing
completed G ms = listing (λ (v : ℕ). mark_by (get_or ms v 0) (get_or (closure G ms) v 0)) 0 (length ms)

-- ---- taking out

-- 1 where the reference with number e stays, that is where the list does not name it, else 0
abbrev pub stays : List ℕ → ℕ → ℕ
stays ns e = unset? (sum (hit e) ns)

-- how many of the references below number e stay
abbrev pub staying : List ℕ → ℕ → ℕ
staying ns e = span (stays ns) 0 e

-- how many of m references the list names, a repeated one counting once
abbrev pub distinct : List ℕ → ℕ → ℕ
distinct ns m = span (λ (e : ℕ). set? (sum (hit e) ns)) 0 m

abbrev pub keep_if : ℕ → ℕ → List ℕ → List ℕ
keep_if zero t rest = rest
keep_if (suc k) t rest = t ∷ rest

-- of elements numbered from e on, those whose number is chosen: f is not 0 there
unfoldable pub chosen : (ℕ → ℕ) → ℕ → List ℕ → List ℕ
chosen f e [] = []
chosen f e (t ∷ ts) = keep_if (f e) t (chosen f (suc e) ts)

-- what remains, in order
unfoldable pub removed : Graph → List ℕ → Graph
unfolding chosen
removed G ns = graph (map (staying ns) G.offsets) (chosen (stays ns) 0 G.targets)

-- 1 for a start, else 0
unfoldable pub start_marks : ℕ → List ℕ → List ℕ
unfolding listing
start_marks n starts = listing (λ (v : ℕ). set? (sum (hit v) starts)) 0 n

-- the marks afresh: 1 for a start, 255 for others reached
abbrev pub marks_afresh : Graph → List ℕ → List ℕ
marks_afresh G starts = completed G (start_marks (objects G) starts)
