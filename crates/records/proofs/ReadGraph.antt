-- What the reader fills in is a graph without fault 10, and the view on it is what the catalogue says: the laws of a grouped graph.
use mathlib.Core.Path.{◌∙◌}
use lib.ListN.{length-map}
use Rattle.laws.specs.Every.{Every}
use Rattle.laws.proofs.Every.{every_map}
use Rattle.graph.proofs.Formed.{well_formed_lem}
use Rattle.graph.proofs.Grouped.{Inside, grouped_objects, grouped_references, grouped_formed, grouped_view}
use Rattle.records.specs.Store.{Store, Ends, InRange, stored, objects, pairs}
use Rattle.records.specs.Fill.{from_of, to_of}
use Rattle.records.specs.ReadGraph.{ReadGraph, read_graph}

module _ (s : Store) (r : InRange s) where
  ends : Every (Inside from_of to_of (objects s)) (pairs s)
  ends = every_map (Ends (objects s)) (Inside from_of to_of (objects s)) (pairs s) (λ p x. (x.from_below, x.to_below)) r.ends_below

  -- the graph of a store within the ranges
  pub read_graph_lem : ReadGraph s (read_graph s)
  read_graph_lem =
      record {
        n_is = grouped_objects from_of to_of (objects s) (pairs s) ends;
        m_is = grouped_references from_of to_of (objects s) (pairs s) ends ∙ length-map s.links stored;
        passes = well_formed_lem (read_graph s) (grouped_formed from_of to_of (objects s) (pairs s) ends);
        view = grouped_view from_of to_of (objects s) (pairs s) ends;
      }
