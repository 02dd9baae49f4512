-- What the checks of a call establish where they find no fault.
use Rattle.std.specs.Prelude.{◌≡◌, true, false, ◌*◌, ◌≤◌, length}
use Rattle.graph.specs.Graph.{objects, references}
use Rattle.graph.specs.Limits.{most_objects, most_references, most_starts}
use Rattle.desk.specs.declared.Lengths.{Lengths}
use Rattle.desk.specs.Lengths.{tally_word_count, stretch_length}
use Rattle.desk.specs.Checks.{saved_wrong, schedule_fits}
use Rattle.machine.specs.Accepted.{Accepted}
use Rattle.machine.specs.Call.{Call, graph_of, setting_of}

-- of a call whose buffers are so long
pub record Checked (c : Call) (l : Lengths) : Type 0 where
  pub accepted : Accepted (graph_of c) c.starts c.workers (setting_of c)
  pub offsets_some : 2 ≤ length c.offsets
  pub objects_limit : objects (graph_of c) ≤ most_objects
  pub references_limit : references (graph_of c) ≤ most_references
  pub marks_exact : l.marks ≡ objects (graph_of c)
  pub work_exact : l.work ≡ c.workers * stretch_length (objects (graph_of c))
  pub tallies_exact : l.tallies ≡ c.workers * tally_word_count
  pub saved_exact : saved_wrong (objects (graph_of c)) c.workers l.saved ≡ false
  pub starts_few : length c.starts ≤ most_starts
  pub schedule_fitting : schedule_fits c.workers c.schedule ≡ true
