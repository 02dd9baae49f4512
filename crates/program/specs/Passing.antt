-- What a store that was read passes: the checks of the marker and of the sweep that look at it.
use Rattle.std.specs.Prelude.{◌≡◌, true, ◌≤◌, length}
use Rattle.graph.specs.Graph.{graph, objects}
use Rattle.desk.specs.Checks.{count_fault, graph_fault, starts_fault, object_fault}
use Rattle.sweep.specs.Sweep.{all_fit}
use Rattle.program.specs.Program.{Contents}

-- contents in which neither the marker nor the sweep finds a fault
pub record Passing (s : Contents) : Type 0 where
  pub counts : count_fault s.offsets s.targets ≡ 0
  pub formed : graph_fault (graph s.offsets s.targets) ≡ 0
  pub some_starts : starts_fault s.starts ≡ 0
  pub starts_below : object_fault (objects (graph s.offsets s.targets)) s.starts ≡ 0
  pub objects_are : objects (graph s.offsets s.targets) ≡ length s.sizes
  pub some : 1 ≤ length s.sizes
  pub sizes_fit : all_fit s.sizes ≡ true
