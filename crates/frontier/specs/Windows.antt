-- The references in a window, from base up to end; bit i of a set is reference base + i.
use Rattle.std.specs.Prelude.{◌≡◌, Bool, true, List, ℕ, ◌+◌, ◌-◌, ◌*◌, ◌≤◌, ◌<◌, length}
use Rattle.laws.specs.Span.{span}
use Rattle.laws.specs.Sum.{hit}
use Rattle.slices.specs.Bits.{bit, word_bits}
use Rattle.graph.specs.Graph.{Graph, objects, first, after, target}
use Rattle.graph.specs.Limits.{most_objects}
use Rattle.desk.specs.Limits.{most_workers}
use Rattle.desk.specs.Lengths.{saved_length}
use Rattle.machine.specs.Sound.{Marked, runs_sum}
use Rattle.saved.specs.Layout.{runs_in}
use Rattle.frontier.specs.Runs.{times_words}

-- the bits afterwards have each reference of the window as often as f tells, besides those that were
abbrev pub Adds : ℕ → ℕ → List ℕ → (ℕ → ℕ) → List ℕ → Type 0
Adds base end bs f bs' = (e : ℕ) → base ≤ e → e < end → bit bs' (e - base) ≡ bit bs (e - base) + f e

-- none of them is carried twice so
abbrev pub Once : ℕ → ℕ → List ℕ → (ℕ → ℕ) → Type 0
Once base end bs f = (e : ℕ) → base ≤ e → e < end → bit bs (e - base) + f e ≤ 1

-- what a function says and leaves that takes references into the set, each as often as f tells: those of the window are in it;
-- or one of them would be in it twice
pub record Takes (base end : ℕ) (bs : List ℕ) (f : ℕ → ℕ) (r : Bool) (bs' : List ℕ) : Type 0 where
  pub adds : r ≡ true → Adds base end bs f bs'
  pub known : Once base end bs f → r ≡ true

-- the references from one to another
abbrev pub Carried : ℕ → ℕ → List ℕ → ℕ → ℕ → Bool → List ℕ → Type 0
Carried base end bs from to r bs' = Takes base end bs (λ (e : ℕ). span (hit e) from (to - from)) r bs'

-- the runs of a stretch
abbrev pub RunsCarried : ℕ → ℕ → List ℕ → List ℕ → Bool → List ℕ → Type 0
RunsCarried base end bs st r bs' = Takes base end bs (λ (e : ℕ). runs_sum (hit e) (runs_in st)) r bs'

-- as many words as there have to be, and a bit for each reference of the window, none of which is set
pub record AllThere (base end : ℕ) (bs : List ℕ) (n W : ℕ) (w : List ℕ) : Type 0 where
  pub room : end ≤ base + word_bits * length bs
  pub none : (i : ℕ) → bit bs i ≡ 0
  pub objects_limit : n ≤ most_objects
  pub workers_limit : W ≤ most_workers
  pub long : length w ≡ saved_length n W

-- what `carry_all` says of all workers' runs
pub record AllCarried (base end n W : ℕ) (w : List ℕ) (r : Bool) (bs' : List ℕ) : Type 0 where
  pub times : r ≡ true → (e : ℕ) → base ≤ e → e < end → bit bs' (e - base) ≡ times_words n W w e W
  pub known : ((e : ℕ) → base ≤ e → e < end → times_words n W w e W ≤ 1) → r ≡ true

-- no reference from one to another is carried twice, and one of a marked object that nobody carries has a marked target
pub record WindowSound (G : Graph) (ms : List ℕ) (W : ℕ) (w : List ℕ) (from to : ℕ) : Type 0 where
  pub once : (e : ℕ) → from ≤ e → e < to → times_words (objects G) W w e W ≤ 1
  pub targets : (v : ℕ) → v < length ms → Marked ms v → (e : ℕ) → first G v ≤ e → e < after G v → from ≤ e → e < to
      → times_words (objects G) W w e W ≡ 0 → Marked ms (target G e)
