-- A hand-over in the work memory.
use Rattle.std.specs.Prelude.{ℕ, ◌+◌, ◌-◌, ◌*◌, ◌≤◌, ◌<◌, ◌≡◌, ◌≢◌, List, length}
use Rattle.machine.specs.Run.{Run, carried, keep, rest}
use Rattle.machine.specs.Split.{held, Tells}
use Rattle.machine.specs.declared.frontier.Held.{Held}
use Rattle.machine.specs.declared.frontier.Held.TheVariants.{Back}
use Rattle.worker.specs.declared.stretch.Top.{Top}
use Rattle.worker.specs.Stretch.{Told, Sharing, CutFound}
use Rattle.step.specs.Held.{stretch_at}

-- worker b's stretch and top hold more than k references, and asker a is another one
pub record Dividing (L : ℕ) (work : List ℕ) (b a : ℕ) (t : Top) (k : ℕ) : Type 0 where
  pub runs : List Run
  pub told : Told runs t (stretch_at L b work)
  pub some : 1 ≤ k
  pub enough : k < carried runs
  pub other : a ≢ b
  pub giver_room : b * L + L ≤ length work
  pub asker_room : a * L + L ≤ length work

-- b keeps its first run whole, and the cut is at the pair of its stretch that ends at `place`
pub record Cutting (L : ℕ) (work : List ℕ) (b a : ℕ) (t : Top) (k place left : ℕ) : Type 0 where
  pub dividing : Dividing L work b a t k
  pub long : t.end - t.first ≤ k
  pub found : CutFound (stretch_at L b work) t.used (k - (t.end - t.first)) place left

-- the back holds the last reference that b keeps, and so many others are handed over
pub record InBack (L : ℕ) (work : List ℕ) (b a : ℕ) (t : Top) (k others : ℕ) : Type 0 where
  pub dividing : Dividing L work b a t k
  pub sharing : Sharing (stretch_at L b work) t k others
  pub held_is : held k sharing.runs ≡ Back

-- the part told held the last of the first k references, and so says which runs are kept
pub record HeldIn (k : ℕ) (rs : List Run) (part : Held) : Type 0 where
  pub is : part ≡ held k rs
  pub tells : Tells part (length (keep k rs)) (length rs)

-- b keeps the first k, a gets the others, and the other stretches stay
pub record Divided (L : ℕ) (work : List ℕ) (b a : ℕ) (t : Top) (k : ℕ) (work' : List ℕ) (kept given : Top) : Type 0 where
  pub long : length work' ≡ length work
  pub giver : (x : Dividing L work b a t k) → Told (keep k x.runs) kept (stretch_at L b work')
  pub receiver : (x : Dividing L work b a t k) → Told (rest k x.runs) given (stretch_at L a work')
  pub others : (i : ℕ) → i ≢ b → i ≢ a → stretch_at L i work' ≡ stretch_at L i work
