-- Both calls computed on store S: what they leave, and the numbers of calls at both edges of each check and with two faults.
use Rattle.std.specs.Prelude.{◌≡◌, refl, List, [], ◌∷◌, map, ℕ, length, replicate}
use Rattle.std.proofs.Common.{arith}
use Rattle.laws.specs.Sum.{sum, hit}
use Rattle.laws.specs.Span.{span, listing}
use Rattle.laws.specs.Grouping.{part, grouped, under, below, starts}
use Rattle.laws.specs.Test.{all, all_up_to}
use Rattle.graph.specs.Graph.{Graph, graph, references_of, rising, all_below, well_formed}
use Rattle.graph.specs.Chain.{closure, rounds, spread, spread_run}
use Rattle.desk.specs.Length.{length_with}
use Rattle.updates.specs.declared.Lengths.{Lengths}
use Rattle.changes.specs.Pairs.{pairs_below, pairs_of, paired}
use Rattle.changes.specs.Promise.{singly, Alike}
use Rattle.changes.specs.Stores.{store_of, added, completed, chosen, removed, start_marks, marks_afresh}
use Rattle.updates.specs.Call.{add_fault, remove_fault, length_for}

-- lengths in the order of the buffers
abbrev pub lengths_of : ℕ → ℕ → ℕ → ℕ → Lengths
lengths_of offsets targets marks work = record { offsets = offsets; targets = targets; marks = marks; work = work }

-- store S: 0→1, 0→2, 1→3, 2→3, 3→0, 5→4
abbrev pub offsets_S : List ℕ
offsets_S = 0 ∷ 2 ∷ 3 ∷ 4 ∷ 5 ∷ 5 ∷ 6 ∷ []

abbrev pub targets_S : List ℕ
targets_S = 1 ∷ 2 ∷ 3 ∷ 3 ∷ 0 ∷ 4 ∷ []

abbrev pub S : Graph
S = graph offsets_S targets_S

-- its marks by two workers
abbrev pub marks_S : List ℕ
marks_S = 1 ∷ 1 ∷ 2 ∷ 1 ∷ 0 ∷ 0 ∷ []

-- 4→1 and 3→5: the first leaves an object that is not marked, until the second brings 5, and 5's reference 4
abbrev pub T : Graph
T = added S (paired (4 ∷ 3 ∷ []) (1 ∷ 5 ∷ []))

pub added_holds : T ≡ graph (0 ∷ 2 ∷ 3 ∷ 4 ∷ 6 ∷ 7 ∷ 8 ∷ []) (1 ∷ 2 ∷ 3 ∷ 3 ∷ 0 ∷ 5 ∷ 1 ∷ 4 ∷ [])
unfolding added store_of pairs_of pairs_below paired references_of starts grouped part below under sum hit
added_holds = refl

pub completed_holds : completed (graph (0 ∷ 2 ∷ 3 ∷ 4 ∷ 6 ∷ 7 ∷ 8 ∷ []) (1 ∷ 2 ∷ 3 ∷ 3 ∷ 0 ∷ 5 ∷ 1 ∷ 4 ∷ [])) marks_S
    ≡ 1 ∷ 1 ∷ 2 ∷ 1 ∷ 255 ∷ 255 ∷ []
unfolding completed listing closure rounds spread spread_run
completed_holds = refl

-- the same two pairs given singly, in this order and in the other
pub either_order :
    singly S marks_S (paired (4 ∷ 3 ∷ []) (1 ∷ 5 ∷ [])) ∷ singly S marks_S (paired (3 ∷ 4 ∷ []) (5 ∷ 1 ∷ [])) ∷ []
    ≡ (1 ∷ 1 ∷ 2 ∷ 1 ∷ 255 ∷ 255 ∷ []) ∷ (1 ∷ 1 ∷ 2 ∷ 1 ∷ 255 ∷ 255 ∷ []) ∷ []
unfolding singly added completed store_of pairs_of pairs_below paired references_of starts grouped part below under sum hit listing closure rounds spread spread_run
either_order = refl

pub orders_alike : Alike (paired (4 ∷ 3 ∷ []) (1 ∷ 5 ∷ [])) (paired (3 ∷ 4 ∷ []) (5 ∷ 1 ∷ []))
unfolding paired sum
orders_alike = λ u t. omega arith

-- without the numbers 3, 1 and 3 again: 0→1, 1→3, 3→0, 5→4
pub removed_holds : removed S (3 ∷ 1 ∷ 3 ∷ []) ≡ graph (0 ∷ 1 ∷ 2 ∷ 2 ∷ 3 ∷ 3 ∷ 4 ∷ []) (1 ∷ 3 ∷ 0 ∷ 4 ∷ [])
unfolding removed chosen span sum hit
removed_holds = refl

pub afresh_holds : marks_afresh (graph (0 ∷ 1 ∷ 2 ∷ 2 ∷ 3 ∷ 3 ∷ 4 ∷ []) (1 ∷ 3 ∷ 0 ∷ 4 ∷ [])) (0 ∷ []) ≡ 1 ∷ 255 ∷ 0 ∷ 255 ∷ 0 ∷ 0 ∷ []
unfolding start_marks completed listing closure rounds spread spread_run sum hit
afresh_holds = refl

-- ---- the checks

pub record Adding : Type 0 where
  pub offsets : List ℕ
  pub targets : List ℕ
  pub from : List ℕ
  pub to : List ℕ
  pub marks : List ℕ
  pub lent : Lengths
  pub number : ℕ

abbrev pub adding : List ℕ → List ℕ → List ℕ → List ℕ → List ℕ → Lengths → ℕ → Adding
adding os ts from to marks lent number =
    record { offsets = os; targets = ts; from = from; to = to; marks = marks; lent = lent; number = number }

abbrev pub addings : List Adding
addings =
    adding offsets_S targets_S (4 ∷ 3 ∷ []) (1 ∷ 5 ∷ []) marks_S (lengths_of 7 8 6 6) 0
    ∷ adding [] [] [] [] [] (lengths_of 1 0 0 0) 4
    ∷ adding (0 ∷ []) [] [] [] [] (lengths_of 1 0 0 0) 4
    ∷ adding offsets_S targets_S (4 ∷ []) [] marks_S (lengths_of 7 7 6 6) 7
    ∷ adding offsets_S targets_S [] (4 ∷ []) marks_S (lengths_of 7 6 6 6) 7
    ∷ adding offsets_S targets_S [] [] marks_S (lengths_of 6 6 6 6) 7
    ∷ adding offsets_S targets_S [] [] marks_S (lengths_of 7 5 6 6) 7
    ∷ adding offsets_S targets_S [] [] marks_S (lengths_of 7 6 5 6) 7
    ∷ adding offsets_S targets_S [] [] marks_S (lengths_of 7 6 6 7) 7
    ∷ adding offsets_S (1 ∷ 2 ∷ 3 ∷ 3 ∷ 0 ∷ 6 ∷ []) [] [] marks_S (lengths_of 7 6 6 6) 10
    ∷ adding offsets_S targets_S (5 ∷ []) (5 ∷ []) marks_S (lengths_of 7 7 6 6) 0
    ∷ adding offsets_S targets_S (6 ∷ []) (5 ∷ []) marks_S (lengths_of 7 7 6 6) 5
    ∷ adding offsets_S targets_S (5 ∷ []) (6 ∷ []) marks_S (lengths_of 7 7 6 6) 5
    ∷ adding offsets_S targets_S [] [] (replicate 6 0) (lengths_of 7 6 6 6) 0
    ∷ adding offsets_S targets_S [] [] (0 ∷ 0 ∷ 0 ∷ 0 ∷ 255 ∷ 255 ∷ []) (lengths_of 7 6 6 6) 0
    ∷ adding offsets_S targets_S [] [] (0 ∷ 0 ∷ 0 ∷ 0 ∷ 0 ∷ 255 ∷ []) (lengths_of 7 6 6 6) 17
    ∷ adding offsets_S targets_S [] [] (1 ∷ 1 ∷ 0 ∷ 1 ∷ 0 ∷ 0 ∷ []) (lengths_of 7 6 6 6) 17
    ∷ adding offsets_S targets_S (6 ∷ []) (5 ∷ []) (1 ∷ 1 ∷ 0 ∷ 1 ∷ 0 ∷ 0 ∷ []) (lengths_of 7 7 6 6) 5
    ∷ adding offsets_S [] (6 ∷ []) (5 ∷ []) (1 ∷ 0 ∷ []) (lengths_of 7 7 2 6) 7
    ∷ []

pub addings_hold : map (λ (a : Adding). add_fault a.offsets a.targets a.from a.to a.marks a.lent) addings
    ≡ map (λ (a : Adding). a.number) addings
unfolding add_fault well_formed rising all_below all_up_to all references_of
addings_hold = refl

-- one object without references, so many sources and no target: an enlarged m above the largest is 4, though the lists are unlike too; at the
-- largest they are 7
pub sum_above : (from : List ℕ) → length from ≡ 1048577 → add_fault (0 ∷ 0 ∷ []) [] from [] (0 ∷ []) (lengths_of 2 1048577 1 1) ≡ 4
unfolding add_fault
sum_above from e = rw e

pub sum_largest : (from : List ℕ) → length from ≡ 1048576 → add_fault (0 ∷ 0 ∷ []) [] from [] (0 ∷ []) (lengths_of 2 1048576 1 1) ≡ 7
unfolding add_fault
sum_largest from e = rw e

pub record Removing : Type 0 where
  pub offsets : List ℕ
  pub targets : List ℕ
  pub numbers : List ℕ
  pub starts : List ℕ
  pub lent : Lengths
  pub number : ℕ

abbrev pub removing : List ℕ → List ℕ → List ℕ → List ℕ → Lengths → ℕ → Removing
removing os ts ns ss lent number =
    record { offsets = os; targets = ts; numbers = ns; starts = ss; lent = lent; number = number }

abbrev pub removings : List Removing
removings =
    removing offsets_S targets_S (3 ∷ 1 ∷ 3 ∷ []) (0 ∷ []) (lengths_of 7 4 6 6) 0
    ∷ removing (0 ∷ []) [] [] (0 ∷ []) (lengths_of 1 0 0 0) 4
    ∷ removing offsets_S targets_S (5 ∷ []) (0 ∷ []) (lengths_of 7 5 6 6) 0
    ∷ removing offsets_S targets_S (6 ∷ []) (0 ∷ []) (lengths_of 7 5 6 6) 5
    ∷ removing offsets_S targets_S (6 ∷ []) (0 ∷ []) (lengths_of 7 0 0 0) 5
    ∷ removing offsets_S targets_S (3 ∷ 1 ∷ 3 ∷ []) (0 ∷ []) (lengths_of 7 3 6 6) 7
    ∷ removing offsets_S targets_S [] (0 ∷ []) (lengths_of 7 6 6 6) 0
    ∷ removing offsets_S targets_S [] (0 ∷ []) (lengths_of 8 6 6 6) 7
    ∷ removing offsets_S targets_S [] (0 ∷ []) (lengths_of 7 6 7 6) 7
    ∷ removing offsets_S targets_S [] (0 ∷ []) (lengths_of 7 6 6 5) 7
    ∷ removing offsets_S (1 ∷ 2 ∷ 3 ∷ 3 ∷ 0 ∷ 6 ∷ []) [] [] (lengths_of 7 6 6 6) 10
    ∷ removing offsets_S targets_S [] [] (lengths_of 7 6 6 6) 13
    ∷ removing offsets_S targets_S [] (replicate 257 5) (lengths_of 7 6 6 6) 0
    ∷ removing offsets_S targets_S [] (replicate 258 6) (lengths_of 7 6 6 6) 13
    ∷ removing offsets_S targets_S [] (6 ∷ []) (lengths_of 7 6 6 6) 5
    ∷ []

pub removings_hold : map (λ (a : Removing). remove_fault a.offsets a.targets a.numbers a.starts a.lent) removings
    ≡ map (λ (a : Removing). a.number) removings
unfolding remove_fault well_formed rising all_below span sum hit
removings_hold = refl

pub words_hold : map length_for (0 ∷ 1 ∷ 65536 ∷ 65537 ∷ []) ≡ length_with 4 0 ∷ length_with 0 1 ∷ length_with 0 65536 ∷ length_with 4 0 ∷ []
words_hold = refl
