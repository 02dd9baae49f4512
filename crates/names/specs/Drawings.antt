-- Names, texts and the calls computed: places at the edges of a text, names that overlap, what is no name, and each fault.
use Rattle.std.specs.Prelude.{◌≡◌, refl, Bool, true, false, List, [], ◌∷◌, map, ℕ, ◌-◌, replicate}
use Rattle.laws.specs.Blocks.{laid}
use Rattle.laws.specs.Test.{all, all_up_to, same}
use Rattle.graph.specs.Graph.{all_below}
use Rattle.names.specs.Names.{Names, names_of, is_digit, ascends}
use Rattle.names.specs.Mentions.{named_from, mentions, texts_from, targets, sources}
use Rattle.names.specs.Call.{Texts, texts_of, from, to, work_word_count, blank, ends_right, fault, scan_fault}

-- the digits and their neighbours: / 0 9 : ` a f g A
pub digits_drawn : map is_digit (47 ∷ 48 ∷ 57 ∷ 58 ∷ 96 ∷ 97 ∷ 102 ∷ 103 ∷ 65 ∷ []) ≡ false ∷ true ∷ true ∷ false ∷ false ∷ true ∷ true ∷ false ∷ false ∷ []
digits_drawn = refl

-- three names of two digits: 0a, aa, ab, for the objects 2, 0 and 1
abbrev pub N : Names
N = names_of 2 (48 ∷ 97 ∷ 97 ∷ 97 ∷ 97 ∷ 98 ∷ []) (2 ∷ 0 ∷ 1 ∷ [])

-- 0a at the first byte and ab at the last, with a quotation mark between; a name that the text's end cuts; upper case; one digit
pub edges : map (mentions N) ((48 ∷ 97 ∷ 34 ∷ 97 ∷ 98 ∷ []) ∷ (34 ∷ 48 ∷ []) ∷ (65 ∷ 65 ∷ []) ∷ (97 ∷ []) ∷ [] ∷ []) ≡ (2 ∷ 1 ∷ []) ∷ [] ∷ [] ∷ [] ∷ [] ∷ []
unfolding mentions named_from same
edges = refl

-- names that overlap: 0aaab has 0a, aa, aa and ab
pub overlap : mentions N (48 ∷ 97 ∷ 97 ∷ 97 ∷ 98 ∷ []) ≡ 2 ∷ 0 ∷ 0 ∷ 1 ∷ []
unfolding mentions named_from same
overlap = refl

-- two texts, 0aaa of object 1 and b of object 0: no name goes over the end of a text
abbrev pub T : Texts
T = texts_of (48 ∷ 97 ∷ 97 ∷ 97 ∷ 98 ∷ []) (4 ∷ 5 ∷ []) (1 ∷ 0 ∷ [])

pub listed : from N T ∷ to N T ∷ [] ≡ (1 ∷ 1 ∷ 1 ∷ []) ∷ (2 ∷ 0 ∷ 0 ∷ []) ∷ []
unfolding targets sources laid mentions named_from same texts_from
listed = refl

-- ---- the faults

-- n, the names, the texts, whether the work is blank
pub record Given : Type 0 where
  pub n : ℕ
  pub names : Names
  pub texts : Texts
  pub ready : Bool
  pub number : ℕ

abbrev pub given : ℕ → Names → Texts → ℕ → Given
given n N T number = record { n = n; names = N; texts = T; ready = true; number = number }

-- with work that is not
abbrev pub littered : ℕ → Names → Texts → ℕ → Given
littered n N T number = record { n = n; names = N; texts = T; ready = false; number = number }

-- no texts and no bytes; no names
abbrev pub none : Texts
none = texts_of [] [] []

abbrev pub nameless : ℕ → Names
nameless w = names_of w [] []

-- each fault alone at its edges, then each two neighbours of the order at once
abbrev pub givens : List Given
givens =
    given 3 N T 0
    ∷ given 1 (nameless 64) none 0
    ∷ given 65536 (nameless 64) none 0
    ∷ given 0 (nameless 64) none 4
    ∷ given 65537 (nameless 64) none 4
    ∷ given 3 (names_of 2 (48 ∷ 97 ∷ 97 ∷ []) (2 ∷ 0 ∷ [])) none 7
    ∷ given 3 (names_of 2 (48 ∷ 97 ∷ 97 ∷ 97 ∷ []) (2 ∷ [])) none 7
    ∷ given 3 N (texts_of [] [] (0 ∷ [])) 7
    ∷ given 3 N (texts_of [] (0 ∷ []) []) 7
    ∷ littered 3 N T 7
    ∷ given 3 N (texts_of (97 ∷ []) [] []) 10
    ∷ given 3 N (texts_of (97 ∷ []) (0 ∷ []) (0 ∷ [])) 10
    ∷ given 3 N (texts_of (97 ∷ []) (2 ∷ []) (0 ∷ [])) 10
    ∷ given 3 N (texts_of (97 ∷ []) (1 ∷ 0 ∷ 1 ∷ []) (0 ∷ 0 ∷ 0 ∷ [])) 10
    ∷ given 3 N (texts_of (97 ∷ []) (0 ∷ 1 ∷ 1 ∷ []) (0 ∷ 0 ∷ 2 ∷ [])) 0
    ∷ given 2 N none 5
    ∷ given 3 N (texts_of (97 ∷ []) (0 ∷ 1 ∷ 1 ∷ []) (0 ∷ 0 ∷ 3 ∷ [])) 5
    ∷ given 3 (nameless 0) none 19
    ∷ given 3 (names_of 0 [] (0 ∷ [])) none 19
    ∷ given 3 (names_of 2 (48 ∷ 65 ∷ []) (0 ∷ [])) none 19
    ∷ given 3 (names_of 2 (48 ∷ 97 ∷ 48 ∷ 97 ∷ []) (0 ∷ 1 ∷ [])) none 19
    ∷ given 3 (names_of 2 (97 ∷ 48 ∷ 48 ∷ 97 ∷ []) (0 ∷ 1 ∷ [])) none 19
    ∷ given 0 (names_of 2 (48 ∷ []) []) none 4
    ∷ littered 0 N T 4
    ∷ littered 3 N (texts_of (97 ∷ []) [] []) 7
    ∷ given 3 (names_of 2 (48 ∷ []) []) (texts_of (97 ∷ []) [] []) 7
    ∷ given 2 N (texts_of (97 ∷ []) [] []) 10
    ∷ given 3 (names_of 2 (48 ∷ 65 ∷ []) (3 ∷ [])) none 5
    ∷ []

pub givens_hold : map (λ (g : Given). fault g.n g.names g.texts g.ready) givens ≡ map (λ (g : Given). g.number) givens
unfolding fault ends_right all_below ascends all_up_to all
givens_hold = refl

-- lists of the right length, one too short, one too long; and behind another fault
pub lists_drawn : scan_fault 3 N T true 3 3 ∷ scan_fault 3 N T true 2 3 ∷ scan_fault 3 N T true 3 4 ∷ scan_fault 3 (nameless 0) T true 9 9 ∷ [] ≡ 0 ∷ 7 ∷ 7 ∷ 19 ∷ []
unfolding scan_fault fault ends_right all_below ascends all_up_to all targets laid mentions named_from same texts_from
lists_drawn = refl

-- work of another length, a word of it that is not 0, and work that is blank
pub work_drawn : blank [] ∷ blank (1 ∷ replicate (work_word_count - 1) 0) ∷ blank (replicate work_word_count 0) ∷ [] ≡ false ∷ false ∷ true ∷ []
unfolding all_below
work_drawn = refl
