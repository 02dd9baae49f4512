-- SPECIFICATION 13.2: what import and the call for the counts answer, and the lent buffers afterwards.
use Rattle.std.specs.Prelude.{◌≡◌, Bool, true, false, not, ◌||◌, List, [], map, ℕ, zero, suc, ◌+◌, ◌-◌, length, replicate, leb, ltb, eqb}
use Rattle.laws.specs.Choice.{both}
use Rattle.laws.specs.Test.{all}
use Rattle.refusal.specs.Order.{raise}
use Rattle.graph.specs.Graph.{graph, well_formed}
use Rattle.desk.specs.Checks.{counts_outside}
use Rattle.records.specs.Store.{Pair, Store, refers, objects, references}
use Rattle.records.specs.Reading.{Reading, refused, accepted, judged}
use Rattle.catalogue.specs.Answer.{Row, refusal_row, offsets_after, targets_after, sizes_after}
use Rattle.matrix.specs.Reading.{is_head, is_text, rows, entries, pairs}

-- objects are counted from 0, and in the text from 1
abbrev pub from_zero : Pair → Pair
from_zero p = record { from = p.from - 1; to = p.to - 1 }

-- the store of a text: index 0, as many sizes of 0 as there are rows, the pairs in their order, and no lease
abbrev pub store_of : List ℕ → Store
store_of t = record { index = 0; sizes = replicate (rows t) 0; links = map (λ (p : Pair). refers (from_zero p)) (pairs t); leases = [] }

-- 5: a number of a pair that is 0 or above n
abbrev pub within : ℕ → ℕ → Bool
within n x = both (ltb 0 x) (leb x n)

abbrev pub is_inside : ℕ → Pair → Bool
is_inside n p = both (within n p.from) (within n p.to)

unfoldable pub inside : ℕ → List Pair → Bool
unfolding all
inside n ps = all (is_inside n) ps

-- the number of the first fault of a text, or 0: 18 over the whole text, then 4, then 5
unfoldable pub fault : List ℕ → ℕ
fault t =
    raise (not (is_text t)) 18
    (raise (counts_outside (rows t) (entries t)) 4
    (raise (not (inside (rows t) (pairs t))) 5 0))

-- ---- the call for the counts

-- 18 for what stands before the pairs, then 4
unfoldable pub head_fault : List ℕ → ℕ
head_fault t = raise (not (is_head t)) 18 (raise (counts_outside (rows t) (entries t)) 4 0)

abbrev pub head_for : ℕ → List ℕ → Row
head_for zero t = record { refusal = 0; n = rows t; m = entries t; index = 0 }
head_for (suc k) t = refusal_row (suc k)

abbrev pub head_row : List ℕ → Row
head_row t = head_for (head_fault t) t

-- ---- import

-- 7: not n + 1 offsets, m targets and n sizes
abbrev pub misfits : ℕ → ℕ → ℕ → ℕ → ℕ → Bool
misfits n m offsets targets sizes = not (eqb offsets (n + 1)) || not (eqb targets m) || not (eqb sizes n)

abbrev pub lent_to : Bool → Store → Reading
lent_to true s = refused 7
lent_to false s = accepted s

abbrev pub lent : Reading → ℕ → ℕ → ℕ → Reading
lent (refused k) offsets targets sizes = refused k
lent (accepted s) offsets targets sizes = lent_to (misfits (objects s) (references s) offsets targets sizes) s

-- what is made of a text and the lent lengths
abbrev pub taken : List ℕ → List ℕ → List ℕ → List ℕ → Reading
taken t os ts ss = lent (judged (fault t) (store_of t)) (length os) (length ts) (length ss)

-- the answer
abbrev pub answer_of : Reading → Row
answer_of (refused k) = refusal_row k
answer_of (accepted s) = record { refusal = 0; n = objects s; m = references s; index = s.index }

-- what import answers, and every lent word afterwards: those that the reader writes of the same store, unchanged beside a refusal
pub record Imports (t os ts ss : List ℕ) (r : Row) (os' ts' ss' : List ℕ) : Type 0 where
  pub returned : r ≡ answer_of (taken t os ts ss)
  pub offsets_are : os' ≡ offsets_after (taken t os ts ss) os
  pub targets_are : ts' ≡ targets_after (taken t os ts ss) ts
  pub sizes_are : ss' ≡ sizes_after (taken t os ts ss) ss
  -- what is written passes check 10
  pub passes : r.refusal ≡ 0 → well_formed (graph os' ts') ≡ true
