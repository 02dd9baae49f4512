-- SPECIFICATION 5: an object is dead where its mark is 0. The list gets the numbers of the dead upwards, then zeros;
-- the answer is their count and the sum of their sizes. The checks are 4 (n is how many sizes there are), 7 and 6.
use Rattle.std.specs.Prelude.{◌≡◌, Bool, true, not, ◌||◌, List, [], ◌∷◌, ◌++◌, ℕ, zero, suc, ◌+◌, ◌-◌, ◌*◌, ◌≤◌, ◌<◌, length, get_or, take, drop, replicate, leb, eqb, Result, Ok, Err}
use Rattle.laws.specs.Choice.{both}
use Rattle.laws.specs.Sum.{sum}
use Rattle.refusal.specs.Number.{number}
use Rattle.refusal.specs.Order.{raise, first}
use Rattle.graph.specs.Limits.{most_objects, largest_size}
use Rattle.desk.specs.Checks.{objects_fault}
use Rattle.desk.specs.Kept.{unless_refused}
use Rattle.refusal.specs.declared.Refusal.{Refusal}
use Rattle.sweep.specs.declared.Swept.{Swept}

-- the numbers of the objects whose mark is 0, upwards, the first mark being that of object v
unfoldable pub dead_from : ℕ → List ℕ → List ℕ
dead_from v [] = []
dead_from v (zero ∷ ms) = v ∷ dead_from (suc v) ms
dead_from v (suc k ∷ ms) = dead_from (suc v) ms

-- the dead objects
abbrev pub dead : List ℕ → List ℕ
dead ms = dead_from 0 ms

-- the sum of the sizes of these objects
unfoldable pub sizes_of : List ℕ → List ℕ → ℕ
unfolding sum
sizes_of sizes vs = sum (λ (v : ℕ). get_or sizes v 0) vs

-- no size is above the largest
unfoldable pub all_fit : List ℕ → Bool
all_fit [] = true
all_fit (x ∷ xs) = both (leb x largest_size) (all_fit xs)

-- an answer: the number returned (0 for none), the count and the sum
pub record Row : Type 0 where
  pub number : ℕ
  pub count : ℕ
  pub freed : ℕ

-- a refusal: its number, and zeros beside it
abbrev pub refused_row : ℕ → Row
refused_row k = record { number = k; count = 0; freed = 0 }

-- each answer so
abbrev pub row : Result Swept Refusal → Row
row (Ok d) = record { number = 0; count = d.count; freed = d.freed }
row (Err k) = refused_row (number k)

-- 7: not n marks, or a list of another length
abbrev pub buffer_fault : ℕ → ℕ → ℕ → ℕ
buffer_fault n marks list = raise (not (eqb marks n) || not (eqb list n)) 7 0

-- 6: a size above the largest
abbrev pub size_fault : List ℕ → ℕ
size_fault sizes = raise (not (all_fit sizes)) 6 0

-- the number of the first fault, or 0
unfoldable pub fault : List ℕ → List ℕ → List ℕ → ℕ
unfolding all_fit
fault marks sizes list =
    first (objects_fault (length sizes))
    (first (buffer_fault (length sizes) (length marks) (length list))
    (size_fault sizes))

-- what the sweep answers, by the fault found
abbrev pub answer_for : ℕ → List ℕ → List ℕ → Row
answer_for zero marks sizes = record { number = 0; count = length (dead marks); freed = sizes_of sizes (dead marks) }
answer_for (suc k) marks sizes = refused_row (suc k)

-- what the sweep answers
abbrev pub sweeping : List ℕ → List ℕ → List ℕ → Row
sweeping marks sizes list = answer_for (fault marks sizes list) marks sizes

-- the list afterwards: the dead numbers, then zeros
abbrev pub list_after : List ℕ → List ℕ → List ℕ → List ℕ
list_after marks sizes list =
    unless_refused (fault marks sizes list) (dead marks ++ replicate (length list - length (dead marks)) 0) list

-- what the pass over the marks asks
pub record Listable (marks sizes list : List ℕ) : Type 0 where
  pub marks_are : length marks ≡ length sizes
  pub list_is : length list ≡ length sizes
  pub few : length sizes ≤ most_objects
  pub fit : all_fit sizes ≡ true

-- and what it leaves: the dead numbers in front, their count and the sum of their sizes
pub record Listed (marks sizes before after : List ℕ) (count freed : ℕ) : Type 0 where
  pub front : take count after ≡ dead marks
  pub long : length after ≡ length before
  pub counted : count ≡ length (dead marks)
  pub room : count ≤ length after
  pub summed : freed ≡ sizes_of sizes (dead marks)

-- so many objects from this one on are marked
abbrev pub LiveFor : List ℕ → ℕ → ℕ → Type 0
LiveFor marks from k = (j : ℕ) → j < k → get_or marks (from + j) 0 ≡ 0 → ⊥

-- where the pass stands at object i: the dead ones found so far stand in front of the list, and those behind are still
-- to come
pub record At (marks sizes before list : List ℕ) (count freed i : ℕ) : Type 0 where
  pub ready : Listable marks sizes before
  pub low : i ≤ length marks
  pub few : count ≤ i
  pub long : length list ≡ length before
  pub front : take count list ++ dead_from i (drop i marks) ≡ dead marks
  pub summed : freed + sizes_of sizes (dead_from i (drop i marks)) ≡ sizes_of sizes (dead marks)
  pub small : freed ≤ largest_size * i
