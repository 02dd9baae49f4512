-- From the bytes of the blobs to the list of the dead, over the calls that users link. What names a blob anywhere in a text holds it: no
-- object is listed to which a chain of mentions and of further pairs, such as subjects, leads from a start; every other object is.
use Rattle.std.specs.Prelude.{◌≡◌, List, [], ◌∷◌, ◌++◌, ◌↔◌, ℕ, suc, ◌<◌, length, get_or, take, replicate}
use Rattle.laws.specs.Sum.{sum, hit}
use Rattle.machine.specs.Call.{Call}
use Rattle.changes.specs.Pairs.{Pair, paired, leading}
use Rattle.names.specs.Names.{Names, names_of}
use Rattle.names.specs.Occurs.{Mentioned}
use Rattle.names.specs.Call.{Texts}
use Rattle.kullneyra.specs.Calls.{AddsIn, ScansIn}
use Rattle.kullneyra.specs.Promise.{Marks, SweepPromise}

-- no names, behind the last of a list
abbrev pub nameless : Names
nameless = names_of 0 [] []

-- a chain leads from a start to the object: by mentions of names of any of the widths, and by further pairs
pub data Held (Ns : List Names) (T : Texts) (ps : List Pair) (starts : List ℕ) : ℕ → Type 0 where
  start : {v : ℕ} → 0 < sum (hit v) starts → Held Ns T ps starts v
  mention : {u v : ℕ} (k : ℕ) → k < length Ns → Held Ns T ps starts u → Mentioned (get_or Ns k nameless) T u v → Held Ns T ps starts v
  further : {u v : ℕ} → Held Ns T ps starts u → 0 < leading u v ps → Held Ns T ps starts v

-- a scan for each width over the same texts, each accepted, and what they found, one behind the other
pub data Scans (n : ℕ) (T : Texts) : List Names → List ℕ → List ℕ → Type 0 where
  none : Scans n T [] [] []
  more : {N : Names} {Ns : List Names} (ws : List ℕ) {ws' fs ts fs' ts' from to : List ℕ} → ScansIn n N T ws fs ts ws' fs' ts' 0 → Scans n T Ns from to
      → Scans n T (N ∷ Ns) (fs' ++ from) (ts' ++ to)

-- the calls in their order, each accepted: the scans; adding what they found, and the further pairs, to the store of n objects without
-- references; a marking of the store that this makes, which is finished; and the sweep, with its list and result words
pub record Collects (n : ℕ) (Ns : List Names) (T : Texts) (pf pt starts list told : List ℕ) : Type 0 where
  pub from : List ℕ
  pub to : List ℕ
  pub scans : Scans n T Ns from to
  pub bounds : List ℕ
  pub places : List ℕ
  pub ms : List ℕ
  pub work : List ℕ
  pub ms' : List ℕ
  pub work' : List ℕ
  pub c : Call
  pub started : c.starts ≡ starts
  pub adds : AddsIn (replicate (suc n) 0) [] (from ++ pf) (to ++ pt) bounds places ms work c.offsets c.targets ms' work' 0
  pub marks₀ : List ℕ
  pub work₀ : List ℕ
  pub tallies₀ : List ℕ
  pub result₀ : List ℕ
  pub marks : List ℕ
  pub memory : List ℕ
  pub tallies : List ℕ
  pub result : List ℕ
  pub marked : Marks c marks₀ work₀ tallies₀ result₀ marks memory tallies result 0
  pub finished : get_or result 0 0 ≡ 1
  pub swept : SweepPromise marks list told 0

-- what is listed: as many numbers of the list as the first result word says
abbrev pub Dead : ℕ → List Names → Texts → List ℕ → List ℕ → List ℕ → List ℕ → List ℕ → Type 0
Dead n Ns T pf pt starts list told =
    (v : ℕ) → (0 < sum (hit v) (take (get_or told 0 0) list)) ↔ ((v < n) × (Held Ns T (paired pf pt) starts v → ⊥))
