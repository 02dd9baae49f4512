-- The hops' call computed: the numbers of calls with one fault or two on store S, both edges of each check, and how many work words there are.
use Rattle.std.specs.Prelude.{◌≡◌, refl, List, [], ◌∷◌, map, ℕ, replicate}
use Rattle.graph.specs.Graph.{rising, all_below, well_formed}
use Rattle.desk.specs.Length.{length_with}
use Rattle.layers.specs.Drawings.{offsets_S, targets_S, one}
use Rattle.hops.specs.Call.{fault, length_for}

pub record Lent : Type 0 where
  pub offsets : List ℕ
  pub targets : List ℕ
  pub starts : List ℕ
  pub hops : ℕ
  pub work : ℕ
  pub number : ℕ

abbrev pub lent : List ℕ → List ℕ → List ℕ → ℕ → ℕ → ℕ → Lent
lent os ts ss hops work number = record { offsets = os; targets = ts; starts = ss; hops = hops; work = work; number = number }

-- both edges of each check, and two faults at once
abbrev pub refusals : List Lent
refusals =
    lent offsets_S targets_S one 6 12 0
    ∷ lent [] [] one 0 0 4
    ∷ lent one [] one 0 0 4
    ∷ lent offsets_S targets_S one 5 12 7
    ∷ lent offsets_S targets_S one 7 12 7
    ∷ lent offsets_S targets_S one 6 11 7
    ∷ lent offsets_S targets_S one 6 13 7
    ∷ lent offsets_S (1 ∷ 2 ∷ 3 ∷ 3 ∷ 0 ∷ 6 ∷ []) one 6 12 10
    ∷ lent offsets_S (1 ∷ 2 ∷ 3 ∷ 3 ∷ 0 ∷ []) one 6 12 10
    ∷ lent offsets_S targets_S [] 6 12 13
    ∷ lent offsets_S targets_S (replicate 257 0) 6 12 0
    ∷ lent offsets_S targets_S (replicate 258 0) 6 12 13
    ∷ lent offsets_S targets_S (0 ∷ 5 ∷ []) 6 12 0
    ∷ lent offsets_S targets_S (0 ∷ 6 ∷ []) 6 12 5
    ∷ lent one [] one 3 3 4
    ∷ lent offsets_S [] [] 5 12 7
    ∷ lent offsets_S [] [] 6 12 10
    ∷ lent offsets_S targets_S (replicate 258 6) 6 12 13
    ∷ []

pub refusals_hold : map (λ (l : Lent). fault l.offsets l.targets l.starts l.hops l.work) refusals ≡ map (λ (l : Lent). l.number) refusals
unfolding fault well_formed rising all_below
refusals_hold = refl

pub words_hold : map length_for (0 ∷ 1 ∷ 6 ∷ 65536 ∷ 65537 ∷ [])
    ≡ length_with 4 0 ∷ length_with 0 2 ∷ length_with 0 12 ∷ length_with 0 131072 ∷ length_with 4 0 ∷ []
words_hold = refl
