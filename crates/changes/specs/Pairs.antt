-- References as pairs of objects: those of a graph in the order of their numbers, and those that two lists name.
use Rattle.std.specs.Prelude.{List, [], ◌∷◌, ◌++◌, map, ℕ, zero, suc, ◌*◌}
use Rattle.laws.specs.Sum.{sum, hit}
use Rattle.graph.specs.Graph.{Graph, objects, references_of}

pub record Pair : Type 0 where
  pub from : ℕ
  pub to : ℕ

abbrev pub pair : ℕ → ℕ → Pair
pair u v = record { from = u; to = v }

abbrev pub from_of : Pair → ℕ
from_of p = p.from

abbrev pub to_of : Pair → ℕ
to_of p = p.to

-- the references of the objects below v, in the order of their numbers
unfoldable pub pairs_below : Graph → ℕ → List Pair
pairs_below G zero = []
pairs_below G (suc v) = pairs_below G v ++ map (pair v) (references_of G v)

-- those of all objects
unfoldable pub pairs_of : Graph → List Pair
unfolding pairs_below
pairs_of G = pairs_below G (objects G)

-- the pairs of two lists of one length
unfoldable pub paired : List ℕ → List ℕ → List Pair
paired [] ts = []
paired (f ∷ fs) [] = []
paired (f ∷ fs) (t ∷ ts) = pair f t ∷ paired fs ts

-- how many of the pairs lead from u to t
abbrev pub leading : ℕ → ℕ → List Pair → ℕ
leading u t ps = sum (λ (p : Pair). hit u p.from * hit t p.to) ps
