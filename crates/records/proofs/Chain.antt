-- Chains of the catalogue's references are the chains of the graph that is read from it, from the same starts.
use mathlib.Core.Path.{◌≡◌, sym, subst}
use mathlib.Core.List.{List, [], ◌∷◌}
use mathlib.Core.Logic.{◌↔◌, by_cases}
use Prim.Native.Nat.{ℕ, ◌<◌}
use native.Mathlib.Decide.{dec_lt}
use native.Mathlib.Omega.{arith}
use Rattle.laws.specs.Every.{Every}
use Rattle.laws.specs.Sum.{sum, hit}
use Rattle.laws.proofs.Sum.{hit_equal}
use Rattle.graph.specs.Graph.{Graph, target, objects as graph_objects, references as graph_references}
use Rattle.graph.specs.Formed.{Formed}
use Rattle.graph.specs.Chain.{Reach, here, on}
use Rattle.graph.proofs.Formed.{formed}
use Rattle.graph.proofs.OverMarked.{after_limit}
use Rattle.graph.proofs.View.{view_has, view_only}
use Rattle.graph.proofs.Grouped.{among}
use Rattle.records.specs.Store.{Store, InRange, objects, pairs}
use Rattle.records.specs.Fill.{from_of, to_of}
use Rattle.records.specs.ReadGraph.{ReadGraph, read_graph, targets_from}
use Rattle.records.specs.Chain.{leading, Chain, begins, along}
use Rattle.records.proofs.ReadGraph.{read_graph_lem}

-- a start is an object where each is
start_below : (n v : ℕ) (l : List ℕ) → Every (λ (x : ℕ). x < n) l → 0 < sum (hit v) l → v < n
unfolding sum
start_below n v [] h g = absurd (omega arith)
start_below n v (x ∷ l) h g =
    by_cases (dec_lt 0 (hit v x)) (λ (p : 0 < hit v x). omega (arith, hit_equal v x p, h.0))
    (λ p. start_below n v l h.1 (omega (arith, p)))

module _ (s : Store) (r : InRange s) (starts : List ℕ) (inside : Every (λ (x : ℕ). x < objects s) starts) where
  abbrev G : Graph
  G = read_graph s

  g : ReadGraph s G
  g = read_graph_lem s r

  is_formed : Formed G
  is_formed = formed G g.passes

  -- by the view of u on the graph
  leading_is : (u v : ℕ) → leading s u v ≡ sum (hit v) (targets_from s u)
  leading_is u v = among from_of to_of u v (pairs s)

  -- chains lead to objects only
  reaches_object : {v : ℕ} → Reach G starts v → v < objects s
  reaches_object (here {v = v} h) = start_below (objects s) v starts inside h
  reaches_object (on {u = u} e c l) =
      let below : e < graph_references G = omega (arith, l.below, after_limit G is_formed u l.object) in
      omega (arith, g.n_is, is_formed.inside e below)

  chain_reaches : {v : ℕ} → Chain s starts v → Reach G starts v
  chain_reaches (begins h) = here h
  chain_reaches (along {u = u} {v = v} c h) =
      let reached = chain_reaches c in
      let below = reaches_object reached in
      let there : u < graph_objects G = omega (arith, g.n_is) in
      let q = view_only is_formed there v (rw (g.view u below) (rw (leading_is u v) at h)) in
      subst (Reach G starts) (sym q.2) (on q.0 reached q.1)

  reach_chains : {v : ℕ} → Reach G starts v → Chain s starts v
  reach_chains (here h) = begins h
  reach_chains (on {u = u} e c l) =
      let below : u < objects s = omega (arith, l.object, g.n_is) in
      along {v = target G e} (reach_chains c) (rw (leading_is u (target G e), ← g.view u below) (view_has is_formed l.object l))

  pub chain_is_reach : (v : ℕ) → Chain s starts v ↔ Reach G starts v
  chain_is_reach v = (λ c. chain_reaches c, λ c. reach_chains c)
