-- The numbers that are taken out, as bits of a window: bit i is number base + i. What remains is written window by window.
use Rattle.std.specs.Prelude.{◌≡◌, List, ℕ, suc, ◌+◌, ◌-◌, ◌*◌, ◌≤◌, ◌<◌, length, get_or, take}
use Rattle.laws.specs.Span.{span}
use Rattle.laws.specs.Sum.{sum, hit}
use Rattle.graph.specs.Chain.{set?}
use Rattle.graph.specs.Leaving.{unset?}
use Rattle.graph.specs.Limits.{most_references}
use Rattle.slices.specs.Bits.{bit, word_bits}
use Rattle.changes.specs.Stores.{chosen}

-- ---- gathering

-- 1 where a list names number e, else 0
abbrev pub named : List ℕ → ℕ → ℕ
named ns e = set? (sum (hit e) ns)

-- the numbers of a list that lie from base up to end, as bits, and how many they are, each once
pub record Gathered (ns : List ℕ) (base end r : ℕ) (ws : List ℕ) : Type 0 where
  pub bits : (e : ℕ) → base ≤ e → e < end → bit ws (e - base) ≡ named ns e
  pub count_is : r ≡ span (named ns) base (end - base)
  pub count_low : r ≤ end - base

-- ---- keeping: f is 1 where a reference stays, else 0

-- 1 where number e is not among the bits of the window from base on, else 0
abbrev pub absent : List ℕ → ℕ → ℕ → ℕ
absent ws base e = unset? (bit ws (e - base))

-- a window whose bits tell which of its references stay
pub record Tells (f : ℕ → ℕ) (ts ws : List ℕ) (base end : ℕ) : Type 0 where
  pub inside : end ≤ length ts
  pub few : length ts ≤ most_references
  pub covered : end ≤ base + word_bits * length ws
  pub agrees : (e : ℕ) → base ≤ e → e < end → f e ≡ absent ws base e

-- the targets of the references below number e that stay are written, up to a place
pub record TargetsTo (f : ℕ → ℕ) (ts l : List ℕ) (at e : ℕ) : Type 0 where
  pub within : e ≤ length ts
  pub long : length l ≡ span f 0 (length ts)
  pub count_is : at ≡ span f 0 e
  pub low : at ≤ e
  pub done : take at l ≡ chosen f 0 (take e ts)

-- what `keep_part` goes on with, and what it leaves
pub record PartReady (ts ws l : List ℕ) (base from to at : ℕ) : Type 0 where
  pub stays : ℕ → ℕ
  pub tells : Tells stays ts ws base to
  pub low : base ≤ from
  pub order : from ≤ to
  pub kept : TargetsTo stays ts l at from

abbrev pub PartKept : List ℕ → List ℕ → List ℕ → ℕ → ℕ → ℕ → ℕ → ℕ → List ℕ → Type 0
PartKept ts ws l base from to at at' l' = (x : PartReady ts ws l base from to at) → TargetsTo x.stays ts l' at' to

-- offsets that rise to at most m
pub record Climbs (os : List ℕ) (m : ℕ) : Type 0 where
  pub up : (v : ℕ) → suc v < length os → get_or os v 0 ≤ get_or os (suc v) 0
  pub top : (v : ℕ) → v < length os → get_or os v 0 ≤ m

-- and the offsets of what remains are written, of the objects below v
pub record KeptTo (f : ℕ → ℕ) (os ts bounds places : List ℕ) (e v at : ℕ) : Type 0 where
  pub targets : TargetsTo f ts places at e
  pub long : length bounds ≡ length os
  pub within : v ≤ length os
  pub offsets : (u : ℕ) → u < v → get_or bounds u 0 ≡ span f 0 (get_or os u 0)
  pub next : v < length os → e ≤ get_or os v 0
  pub last : (u : ℕ) → suc u ≡ v → get_or os u 0 ≤ e

-- what `keep_objects` goes on with, in a window, and what it leaves: it comes to the window's end, or to the last object
pub record ObjectsReady (os ts ws bounds places : List ℕ) (base v at end : ℕ) : Type 0 where
  pub stays : ℕ → ℕ
  pub tells : Tells stays ts ws base end
  pub order : base ≤ end
  pub climbs : Climbs os (length ts)
  pub kept : KeptTo stays os ts bounds places base v at

pub record ObjectsKept (os ts ws bounds places : List ℕ) (base v at end e' v' at' : ℕ) (bounds' places' : List ℕ) : Type 0 where
  pub kept : (x : ObjectsReady os ts ws bounds places base v at end) → KeptTo x.stays os ts bounds' places' e' v' at'
  pub onward : base ≤ e'
  pub forth : v ≤ v'
  pub reached : v' < length os → (e' ≡ end) × (end < get_or os v' 0)
