-- What the marker's checks establish of a call, as plain facts: a call in which they find no fault is accepted.
use Rattle.std.specs.Prelude.{ℕ, ◌≤◌, ◌<◌, List}
use Rattle.laws.specs.Sum.{sum, hit}
use Rattle.graph.specs.Graph.{Graph, objects}
use Rattle.graph.specs.Formed.{Formed}
use Rattle.desk.specs.Limits.{most_workers, most_setting}
use Rattle.machine.specs.Machine.{Setting}

pub record Accepted (G : Graph) (starts : List ℕ) (W : ℕ) (g : Setting) : Type 0 where
  pub formed : Formed G
  pub some_object : 1 ≤ objects G
  pub some_worker : 1 ≤ W
  pub workers_limit : W ≤ most_workers
  pub some_batch : 1 ≤ g.batch
  pub batch_limit : g.batch ≤ most_setting
  pub some_cutoff : 1 ≤ g.cutoff
  pub cutoff_limit : g.cutoff ≤ most_setting
  pub starts_below : (v : ℕ) → 0 < sum (hit v) starts → v < objects G
