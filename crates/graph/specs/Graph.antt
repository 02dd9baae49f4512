-- SPECIFICATION 3: a store as n + 1 offsets and m targets. Object v's references are the targets from offset v up to
-- offset v + 1, and a reference's number is its place among the targets.
use Rattle.std.specs.Prelude.{◌≡◌, ℕ, suc, ◌-◌, ◌≤◌, ◌<◌, Bool, true, List, [], ◌∷◌, length, get_or, take, drop, leb, ltb, eqb}
use Rattle.laws.specs.Choice.{pick, both}

-- what is lent as a graph
pub record Graph : Type 0 where
  pub offsets : List ℕ
  pub targets : List ℕ

-- the graph of lent offsets and targets
abbrev pub graph : List ℕ → List ℕ → Graph
graph os ts = record { offsets = os; targets = ts }

-- n
abbrev pub objects : Graph → ℕ
objects G = length G.offsets - 1

-- m
abbrev pub references : Graph → ℕ
references G = length G.targets

-- where v's references begin among the targets
abbrev pub first : Graph → ℕ → ℕ
first G v = get_or G.offsets v 0

-- where they end: the next object's begin there
abbrev pub after : Graph → ℕ → ℕ
after G v = get_or G.offsets (suc v) 0

-- how many references leave v
abbrev pub degree : Graph → ℕ → ℕ
degree G v = after G v - first G v

-- the object that reference number e leads to
abbrev pub target : Graph → ℕ → ℕ
target G e = get_or G.targets e 0

-- reference number e leaves object v
pub record Leaves (G : Graph) (e v : ℕ) : Type 0 where
  pub object : v < objects G
  pub from : first G v ≤ e
  pub below : e < after G v

-- no number of the list is above the one after it
unfoldable pub rising : List ℕ → Bool
rising [] = true
rising (a ∷ []) = true
rising (a ∷ b ∷ l) = both (leb a b) (rising (b ∷ l))

-- every number of the list is below n
unfoldable pub all_below : ℕ → List ℕ → Bool
all_below n [] = true
all_below n (a ∷ l) = both (ltb a n) (all_below n l)

-- what check 10 finds no fault in: the first offset is 0, offsets do not fall, the last one is the number of
-- targets, and every target is below n
unfoldable pub well_formed : Graph → Bool
unfolding rising all_below
well_formed G =
    both (eqb (get_or G.offsets 0 1) 0)
    (both (rising G.offsets)
    (both (eqb (get_or G.offsets (objects G) 0) (references G))
    (all_below (objects G) G.targets)))

-- the object number is below n, and its two offsets bound a part of the targets
abbrev pub bounded : Graph → ℕ → Bool
bounded G v = both (ltb v (objects G)) (both (leb (first G v) (after G v)) (leb (after G v) (references G)))

-- where v's part of the targets starts, and how long it is; the empty part is 0 long
abbrev pub part_start : Graph → ℕ → ℕ
part_start G v = pick (bounded G v) (first G v) 0

abbrev pub part_length : Graph → ℕ → ℕ
part_length G v = pick (bounded G v) (degree G v) 0

-- the view: v's part of the targets, empty where v is no object or its offsets bound no part
unfoldable pub references_of : Graph → ℕ → List ℕ
references_of G v = take (part_length G v) (drop (part_start G v) G.targets)

-- a part of the targets, as the bounds that the code finds
pub record IsPart (G : Graph) (v start end : ℕ) : Type 0 where
  pub starts : start ≡ part_start G v
  pub long : end - start ≡ part_length G v
  pub order : start ≤ end
  pub inside : end ≤ references G
