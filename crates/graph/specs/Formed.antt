-- Check 10 as plain facts: what a graph without that fault is. `proofs/Formed` shows that it is `well_formed`.
use Rattle.std.specs.Prelude.{◌≡◌, ℕ, ◌≤◌, ◌<◌, length}
use Rattle.graph.specs.Graph.{Graph, objects, references, first, after, target}

-- a graph without fault 10
pub record Formed (G : Graph) : Type 0 where
  -- there is an offset
  pub some : 0 < length G.offsets
  -- the first is 0
  pub from_zero : first G 0 ≡ 0
  -- offsets do not fall
  pub rises : (v : ℕ) → v < objects G → first G v ≤ after G v
  -- the last is the number of targets
  pub to_all : first G (objects G) ≡ references G
  -- every target is an object
  pub inside : (e : ℕ) → e < references G → target G e < objects G
