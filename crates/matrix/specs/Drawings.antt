-- Texts computed: store S as a text of 79 bytes and back, and the numbers of texts with one fault or two, both edges of each check.
use Rattle.std.specs.Prelude.{◌≡◌, refl, true, List, [], ◌∷◌, ◌++◌, map, ℕ, length, take, replicate}
use Prim.Native.String.{String}
use Rattle.laws.specs.Blocks.{laid}
use Rattle.laws.specs.Grouping.{part, grouped, under, below, starts}
use Rattle.laws.specs.Sum.{sum, hit}
use Rattle.laws.specs.Test.{all}
use Rattle.graph.specs.Graph.{Graph, graph, references_of, rising, all_below, well_formed}
use Rattle.records.specs.Store.{offsets_of, targets_of}
use Rattle.text.specs.Text.{codes, digits_in, decimal}
use Rattle.matrix.specs.Layout.{banner, value_from}
use Rattle.matrix.specs.Reading.{begins, skip, digits, are_lines, pairs_in, is_head, is_text, rows, entries, pairs}
use Rattle.matrix.specs.Import.{store_of, inside, fault, head_fault, taken, answer_of}
use Rattle.matrix.specs.Export.{pairs_below, exported, export_fault}

-- store S: 0→1, 0→2, 1→3, 2→3, 3→0, 5→4
abbrev pub S : Graph
S = graph (0 ∷ 2 ∷ 3 ∷ 4 ∷ 5 ∷ 5 ∷ 6 ∷ []) (1 ∷ 2 ∷ 3 ∷ 3 ∷ 0 ∷ 4 ∷ [])

-- a text behind the first line
abbrev pub behind_banner : String → List ℕ
behind_banner s = banner ++ codes s

abbrev pub text_S : List ℕ
text_S = behind_banner "6 6 6\n1 2\n1 3\n2 4\n3 4\n4 1\n6 5\n"

pub exported_holds : exported S ≡ text_S
unfolding exported laid pairs_below references_of decimal digits_in
exported_holds = refl

pub length_holds : length text_S ≡ 79
length_holds = refl

pub offsets_hold : offsets_of (store_of text_S) ≡ S.offsets
unfolding starts below under sum pairs pairs_in skip digits value_from
offsets_hold = refl

pub targets_hold : targets_of (store_of text_S) ≡ S.targets
unfolding grouped part hit pairs pairs_in skip digits value_from
targets_hold = refl

-- a text and the number of its refusal
pub record Case : Type 0 where
  pub text : List ℕ
  pub number : ℕ

abbrev pub case : List ℕ → ℕ → Case
case t k = record { text = t; number = k }

-- the text behind the first line, and its number
abbrev pub then : String → ℕ → Case
then s k = case (behind_banner s) k

abbrev pub cases : List Case
cases =
    case text_S 0
    ∷ case [] 18
    ∷ case (take 48 text_S) 18
    ∷ case banner 18
    ∷ case (codes "%%MatrixMarket matrix coordinate pattern symmetric\n1 1 0\n") 18
    ∷ case (codes "%%MatrixMarket matrix coordinate pattern general \n1 1 0\n") 18
    ∷ then "1 1 0\n" 0
    ∷ then "1 1 0" 18
    ∷ then "1 1 0\r\n" 18
    ∷ then "%\n% two lines\n2 2 1\n1 2\n" 0
    ∷ then "2 2 1\n% late\n1 2\n" 18
    ∷ then "2 2 1\n1 2\n% late\n" 18
    ∷ then "% no end" 18
    ∷ then "\n2 2 1\n1 2\n" 18
    ∷ then " 2 2 1\n1 2\n" 18
    ∷ then "2  2 1\n1 2\n" 18
    ∷ then "2 2 1 \n1 2\n" 18
    ∷ then "2 2 1\n1 2" 18
    ∷ then "2 2 1\n1 2\n\n" 18
    ∷ then "2 2 2\n1 2\n" 18
    ∷ then "2 2 0\n1 2\n" 18
    ∷ then "2 3 1\n1 2\n" 18
    ∷ then "02 2 0000000001\n0000000001 02\n" 0
    ∷ then "02 2 00000000001\n1 2\n" 18
    ∷ then "0 0 0\n" 4
    ∷ then "65536 65536 0\n" 0
    ∷ then "65537 65537 0\n" 4
    ∷ then "9999999999 9999999999 0\n" 4
    ∷ then "9999999999 9999999998 0\n" 18
    ∷ then "2 2 1000\n1 2\n" 18
    ∷ then "2 2 1\n0 1\n" 5
    ∷ then "2 2 1\n1 0\n" 5
    ∷ then "2 2 1\n2 3\n" 5
    ∷ then "2 2 1\n3 2\n" 5
    ∷ then "0 0 1\n1 1\n" 4
    ∷ then "2 2 2\n3 2\nx\n" 18
    ∷ []

pub cases_hold : map (λ (c : Case). fault c.text) cases ≡ map (λ (c : Case). c.number) cases
unfolding fault is_text is_head begins skip digits value_from are_lines pairs pairs_in inside all
cases_hold = refl

-- both edges of the counts, by the call for them
abbrev pub heads : List Case
heads =
    then "1 1 0\n" 0
    ∷ then "65536 65536 1048576\n" 0
    ∷ then "0 0 0\n" 4
    ∷ then "65537 65537 0\n" 4
    ∷ then "1 1 1048577\n" 4
    ∷ []

pub heads_hold : map (λ (c : Case). head_fault c.text) heads ≡ map (λ (c : Case). c.number) heads
unfolding head_fault is_head begins skip digits value_from
heads_hold = refl

-- and by import, of a text of one row and so many lines
pub entries_above : (t : List ℕ) → is_text t ≡ true → rows t ≡ 1 → entries t ≡ 1048577 → fault t ≡ 4
unfolding fault
entries_above t e r m = rw (e, r, m)

pub entries_largest : (t : List ℕ) → is_text t ≡ true → rows t ≡ 1 → entries t ≡ 1048576 → inside 1 (pairs t) ≡ true → fault t ≡ 0
unfolding fault
entries_largest t e r m i = rw (e, r, m, i)

-- import's buffers: the offsets, targets and sizes of store S have 7, 6 and 6 words, and others are 7
abbrev pub number_of : ℕ → ℕ → ℕ → ℕ
number_of offsets targets sizes = (answer_of (taken text_S (replicate offsets 0) (replicate targets 0) (replicate sizes 0))).refusal

pub lent_hold :
    number_of 7 6 6 ∷ number_of 6 6 6 ∷ number_of 8 6 6 ∷ number_of 7 5 6 ∷ number_of 7 7 6 ∷ number_of 7 6 5 ∷ number_of 7 6 7 ∷ []
    ≡ 0 ∷ 7 ∷ 7 ∷ 7 ∷ 7 ∷ 7 ∷ 7 ∷ []
unfolding fault is_text is_head begins skip digits value_from are_lines pairs pairs_in inside all
lent_hold = refl

-- export: offsets, targets, how long the lent buffer is, and the number
pub record Lent : Type 0 where
  pub graph_of : Graph
  pub bytes : ℕ
  pub number : ℕ

abbrev pub lent : Graph → ℕ → ℕ → Lent
lent G bytes number = record { graph_of = G; bytes = bytes; number = number }

abbrev pub exports : List Lent
exports =
    lent S 79 0
    ∷ lent S 78 7
    ∷ lent S 80 7
    ∷ lent (graph [] []) 0 4
    ∷ lent (graph (0 ∷ []) []) 0 4
    ∷ lent (graph (0 ∷ 0 ∷ []) []) 55 0
    ∷ lent (graph (0 ∷ 1 ∷ []) []) 55 10
    ∷ lent (graph (0 ∷ 1 ∷ []) (1 ∷ [])) 0 10
    ∷ []

pub exports_hold : map (λ (l : Lent). export_fault l.graph_of.offsets l.graph_of.targets l.bytes) exports ≡ map (λ (l : Lent). l.number) exports
unfolding export_fault exported laid pairs_below references_of decimal digits_in well_formed rising all_below
exports_hold = refl
