-- What the test of saved words may rely on: the call is accepted so far, and the words are as many as they have to be.
use Rattle.std.specs.Prelude.{◌≡◌, List, ℕ, ◌≤◌, length}
use Rattle.graph.specs.Graph.{Graph, objects, references}
use Rattle.graph.specs.Limits.{most_objects, most_references, most_starts}
use Rattle.desk.specs.declared.Settings.{Settings}
use Rattle.desk.specs.Lengths.{saved_length}
use Rattle.machine.specs.Accepted.{Accepted}
use Rattle.machine.specs.Machine.{Setting}
use Rattle.saved.specs.Layout.{state_of}
use Rattle.saved.specs.Sound.{SavedRun}

-- D and K
abbrev pub setting_of : Settings → Setting
setting_of g = record { batch = g.batch; cutoff = g.cutoff }

pub record Checked (G : Graph) (starts : List ℕ) (W : ℕ) (g : Setting) (w : List ℕ) : Type 0 where
  pub accepted : Accepted G starts W g
  pub objects_limit : objects G ≤ most_objects
  pub references_limit : references G ≤ most_references
  pub starts_limit : length starts ≤ most_starts
  pub long : length w ≡ saved_length (objects G) W

-- the words hold a sound run
abbrev pub Saves : Graph → List ℕ → ℕ → Setting → List ℕ → Type 0
Saves G starts W g w = SavedRun G starts W g w (state_of (objects G) W w)
