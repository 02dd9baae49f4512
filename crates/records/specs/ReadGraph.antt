-- What the reader fills in as a graph: it passes the marker's check 10, and the view of an object on it is the object's
-- references in catalogue order.
use Rattle.std.specs.Prelude.{◌≡◌, true, List, map, ℕ, ◌<◌}
use Rattle.laws.specs.Grouping.{part}
use Rattle.graph.specs.Graph.{Graph, graph, well_formed, references_of, objects as graph_objects, references as graph_references}
use Rattle.records.specs.Store.{Store, Pair, objects, references, pairs, offsets_of, targets_of}

-- the graph that the filled offsets and targets are
abbrev pub read_graph : Store → Graph
read_graph s = graph (offsets_of s) (targets_of s)

-- the targets of v's references, in catalogue order
abbrev pub targets_from : Store → ℕ → List ℕ
targets_from s v = map (λ (p : Pair). p.to) (part (λ (p : Pair). p.from) v (pairs s))

-- a graph that is this store's: its n and m, check 10, and the view of each object
pub record ReadGraph (s : Store) (G : Graph) : Type 0 where
  pub n_is : graph_objects G ≡ objects s
  pub m_is : graph_references G ≡ references s
  pub passes : well_formed G ≡ true
  pub view : (v : ℕ) → v < objects s → references_of G v ≡ targets_from s v
