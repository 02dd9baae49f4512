-- SPECIFICATION 11.2: the call's checks in their order (4, 7, 10, 13, 5), its answer, the lent words afterwards, and how many work words it takes.
use Rattle.std.specs.Prelude.{◌≡◌, not, ◌||◌, List, ℕ, suc, ◌*◌, eqb, length, Result}
use Rattle.refusal.specs.declared.Refusal.{Refusal}
use Rattle.refusal.specs.Number.{number_of}
use Rattle.refusal.specs.Order.{raise, first}
use Rattle.graph.specs.Graph.{graph, objects}
use Rattle.desk.specs.Checks.{count_fault, objects_fault, store_fault}
use Rattle.desk.specs.Length.{LengthRow, length_by}
use Rattle.layers.specs.Hops.{HopsOf, LinksLeft}

-- how many work words n objects take
abbrev pub work_words : ℕ → ℕ
work_words n = 2 * n

-- 7: not n counts, or not that many work words
abbrev pub buffer_fault : ℕ → ℕ → ℕ → ℕ
buffer_fault n hops work = raise (not (eqb hops n) || not (eqb work (work_words n))) 7 0

-- the number of the first fault of a call with so many counts and work words, or 0; the marker's checks but for those of workers and schedule
unfoldable pub fault : List ℕ → List ℕ → List ℕ → ℕ → ℕ → ℕ
fault offsets targets starts hops work =
    first (count_fault offsets targets)
    (first (buffer_fault (objects (graph offsets targets)) hops work)
    (store_fault offsets targets starts))

-- what the checks find is the first fault
pub record Finds (v : Result (Unit {0}) Refusal) (offsets targets starts : List ℕ) (hops work : ℕ) : Type 0 where
  pub number_is : number_of v ≡ fault offsets targets starts hops work

-- the promise of the call, for all inputs
pub record Answered (offsets targets starts hops work : List ℕ) (v : Result (Unit {0}) Refusal) (hops' work' : List ℕ) : Type 0 where
  pub number_is : number_of v ≡ fault offsets targets starts (length hops) (length work)
  -- without a fault: the least lengths of chains
  pub counted : fault offsets targets starts (length hops) (length work) ≡ 0 → HopsOf (graph offsets targets) starts hops'
  -- and the work words of an object without a count are as they were
  pub work_left : fault offsets targets starts (length hops) (length work) ≡ 0 → LinksLeft hops' work work'
  -- beside a refusal every lent word is as it was
  pub unchanged : (k : ℕ) → fault offsets targets starts (length hops) (length work) ≡ suc k → (hops' ≡ hops) × (work' ≡ work)

-- ---- the number of work words

-- 4: n outside its range
abbrev pub length_for : ℕ → LengthRow
length_for n = length_by (objects_fault n) (work_words n)
