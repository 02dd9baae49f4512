-- SPECIFICATION 12: the two calls' checks in their order, their answers, the lent words afterwards, and how many work words they take.
use Rattle.std.specs.Prelude.{◌≡◌, Bool, not, ◌||◌, List, ℕ, suc, ◌+◌, ◌-◌, ltb, eqb, length, get_or, replicate, Result}
use Rattle.laws.specs.Choice.{either}
use Rattle.laws.specs.Test.{all, all_up_to}
use Rattle.refusal.specs.declared.Refusal.{Refusal}
use Rattle.refusal.specs.Number.{number_of}
use Rattle.refusal.specs.Order.{raise, first}
use Rattle.graph.specs.Graph.{Graph, graph, objects, references, references_of, all_below}
use Rattle.graph.specs.Limits.{most_references}
use Rattle.desk.specs.Checks.{count_fault, objects_fault, graph_fault, store_fault}
use Rattle.desk.specs.Length.{LengthRow, length_by}
use Rattle.updates.specs.declared.Lengths.{Lengths}
use Rattle.changes.specs.Pairs.{paired}
use Rattle.changes.specs.Stores.{added, completed, distinct, removed, marks_afresh}
use Rattle.changes.specs.Marking.{ListLeft}
use Rattle.changes.specs.Promise.{AddPromise, RemovePromise}

-- how many work words n objects take, in either call; 4: n outside its range
abbrev pub length_for : ℕ → LengthRow
length_for n = length_by (objects_fault n) n

-- the lengths of the buffers that both calls are lent
abbrev pub lengths : List ℕ → List ℕ → List ℕ → List ℕ → Lengths
lengths offsets targets marks work =
    record { offsets = length offsets; targets = length targets; marks = length marks; work = length work }

-- not n + 1 new offsets, so many new targets, n marks or n work words
abbrev pub lengths_wrong : ℕ → ℕ → Lengths → Bool
lengths_wrong n targets l =
    not (eqb l.offsets (n + 1)) || not (eqb l.targets targets) || not (eqb l.marks n) || not (eqb l.work n)

-- ---- adding

-- 4: the enlarged m out of range
abbrev pub sum_fault : ℕ → ℕ → ℕ
sum_fault m k = raise (ltb most_references (m + k)) 4 0

-- 7: lists of different lengths, or a buffer of the wrong length
abbrev pub add_length_fault : Graph → List ℕ → List ℕ → Lengths → ℕ
add_length_fault G from to l =
    raise (not (eqb (length to) (length from)) || lengths_wrong (objects G) (references G + length from) l) 7 0

-- 5: an end of a pair is no object
abbrev pub pair_fault : ℕ → List ℕ → List ℕ → ℕ
pair_fault n from to = raise (not (all_below n from) || not (all_below n to)) 5 0

-- every target of a list is marked
abbrev pub all_marked : List ℕ → List ℕ → Bool
all_marked ms ts = all (λ (t : ℕ). not (eqb (get_or ms t 0) 0)) ts

-- object u is not marked, or all its references lead to marked objects
abbrev pub closed_at : Graph → List ℕ → ℕ → Bool
closed_at G ms u = either (eqb (get_or ms u 0) 0) (all_marked ms (references_of G u))

-- 17: a marked object has a reference to an unmarked one
abbrev pub marks_fault : Graph → List ℕ → ℕ
marks_fault G ms = raise (not (all_up_to (objects G) (closed_at G ms))) 17 0

-- the number of the first fault, or 0: 4, 7, 10, 5, 17
unfoldable pub add_fault : List ℕ → List ℕ → List ℕ → List ℕ → List ℕ → Lengths → ℕ
unfolding all_up_to all
add_fault offsets targets from to marks l =
    first (count_fault offsets targets)
    (first (sum_fault (length targets) (length from))
    (first (add_length_fault (graph offsets targets) from to l)
    (first (graph_fault (graph offsets targets))
    (first (pair_fault (objects (graph offsets targets)) from to)
    (marks_fault (graph offsets targets) marks)))))

-- what the checks find is the first fault
pub record AddFinds (v : Result (Unit {0}) Refusal) (offsets targets from to marks : List ℕ) (l : Lengths) : Type 0 where
  pub number_is : number_of v ≡ add_fault offsets targets from to marks l

-- the promise of the call, for all inputs
pub record Adds (offsets targets from to new_offsets new_targets marks work : List ℕ) (v : Result (Unit {0}) Refusal) (new_offsets' new_targets' marks' work' : List ℕ)
    : Type 0 where
  pub number_is : number_of v ≡ add_fault offsets targets from to marks (lengths new_offsets new_targets marks work)
  -- without a fault: the enlarged store, and the marks completed on it
  pub store_is : add_fault offsets targets from to marks (lengths new_offsets new_targets marks work) ≡ 0
      → graph new_offsets' new_targets' ≡ added (graph offsets targets) (paired from to)
  pub marks_are : add_fault offsets targets from to marks (lengths new_offsets new_targets marks work) ≡ 0
      → marks' ≡ completed (added (graph offsets targets) (paired from to)) marks
  pub promise : add_fault offsets targets from to marks (lengths new_offsets new_targets marks work) ≡ 0
      → AddPromise (graph offsets targets) (paired from to) marks marks'
  -- each work word is as it was, or one of the first, as many as there are objects newly marked, and names one of these
  pub work_left : add_fault offsets targets from to marks (lengths new_offsets new_targets marks work) ≡ 0 → ListLeft 0 marks work marks' work'
  -- beside a refusal every lent word is as it was
  pub unchanged : (k : ℕ) → add_fault offsets targets from to marks (lengths new_offsets new_targets marks work) ≡ suc k
      → (new_offsets' ≡ new_offsets) × (new_targets' ≡ new_targets) × (marks' ≡ marks) × (work' ≡ work)

-- ---- taking out

-- 5: a number is not one of the m references
abbrev pub number_fault : ℕ → List ℕ → ℕ
number_fault m ns = raise (not (all_below m ns)) 5 0

-- 7: a buffer of the wrong length; of the m targets those remain that no number names
abbrev pub remove_length_fault : Graph → List ℕ → Lengths → ℕ
remove_length_fault G ns l = raise (lengths_wrong (objects G) (references G - distinct ns (references G)) l) 7 0

-- the number of the first fault, or 0: 4, 5 (numbers), 7, 10, 13, 5 (starts)
unfoldable pub remove_fault : List ℕ → List ℕ → List ℕ → List ℕ → Lengths → ℕ
remove_fault offsets targets ns starts l =
    first (count_fault offsets targets)
    (first (number_fault (length targets) ns)
    (first (remove_length_fault (graph offsets targets) ns l)
    (store_fault offsets targets starts)))

-- what the checks find is the first fault
pub record RemoveFinds (v : Result (Unit {0}) Refusal) (offsets targets ns starts : List ℕ) (l : Lengths) : Type 0 where
  pub number_is : number_of v ≡ remove_fault offsets targets ns starts l

-- the promise of the call, for all inputs
pub record Removes (offsets targets ns starts new_offsets new_targets marks work : List ℕ) (v : Result (Unit {0}) Refusal) (new_offsets' new_targets' marks' work' : List ℕ)
    : Type 0 where
  pub number_is : number_of v ≡ remove_fault offsets targets ns starts (lengths new_offsets new_targets marks work)
  -- without a fault: what remains, and the marks afresh on it
  pub store_is : remove_fault offsets targets ns starts (lengths new_offsets new_targets marks work) ≡ 0
      → graph new_offsets' new_targets' ≡ removed (graph offsets targets) ns
  pub marks_are : remove_fault offsets targets ns starts (lengths new_offsets new_targets marks work) ≡ 0
      → marks' ≡ marks_afresh (removed (graph offsets targets) ns) starts
  pub promise : remove_fault offsets targets ns starts (lengths new_offsets new_targets marks work) ≡ 0
      → RemovePromise (removed (graph offsets targets) ns) starts marks'
  -- the same, where nothing was marked before
  pub work_left : remove_fault offsets targets ns starts (lengths new_offsets new_targets marks work) ≡ 0
      → ListLeft 0 (replicate (length marks) 0) work marks' work'
  -- beside a refusal every lent word is as it was
  pub unchanged : (k : ℕ) → remove_fault offsets targets ns starts (lengths new_offsets new_targets marks work) ≡ suc k
      → (new_offsets' ≡ new_offsets) × (new_targets' ≡ new_targets) × (marks' ≡ marks) × (work' ≡ work)
