-- SPECIFICATION 4.8, the token ring (Dijkstra, Feijen, van Gasteren): a token goes round the workers, from each to the next
-- lower number and from worker 0 to the highest, and tells worker 0 that nobody carries anything any more.
use Rattle.std.specs.Prelude.{ℕ, zero, suc, ◌+◌, ◌-◌, ◌*◌, List, [], ◌∷◌, get_or, set, replicate}
use Rattle.laws.specs.Span.{span}

pub data Colour : Type 0 where
  white black : Colour

-- 1 for black
abbrev pub shade : Colour → ℕ
shade white = 0
shade black = 1

-- who holds the token, its colour, and the colour of each worker
pub record Ring : Type 0 where
  pub holder : ℕ
  pub token : Colour
  pub colours : List Colour

-- worker b's colour; one that is not there counts as white
abbrev pub colour_of : Ring → ℕ → Colour
colour_of r b = get_or r.colours b white

-- before the first turn: all are white, and worker 0 holds a white token, which counts as come back
abbrev pub fresh_ring : ℕ → Ring
fresh_ring W = record { holder = 0; token = white; colours = replicate W white }

-- worker b hands over: it turns black
abbrev pub blackened : ℕ → Ring → Ring
blackened b r = record { holder = r.holder; token = r.token; colours = set r.colours b black }

-- a token of colour t that a worker of colour c passes: a black worker blackens it
abbrev pub darkened : Colour → Colour → Colour
darkened white t = t
darkened black t = black

-- Worker b of W passes the token, and is white after. Worker 0 sends a white one to the highest number; each other one passes
-- it to the next lower.
abbrev pub passed_on : ℕ → ℕ → Ring → Ring
passed_on W zero r = record { holder = W - 1; token = white; colours = set r.colours 0 white }
passed_on W (suc b) r =
    record { holder = b; token = darkened (colour_of r (suc b)) r.token; colours = set r.colours (suc b) white }

-- how many are black among the token, its holder and the workers below that; and above it, of W
abbrev pub black_below : Ring → ℕ
black_below r = shade r.token + span (λ (i : ℕ). shade (colour_of r i)) 0 (suc r.holder)

abbrev pub black_above : ℕ → Ring → ℕ
black_above W r = span (λ (i : ℕ). shade (colour_of r i)) (suc r.holder) (W - suc r.holder)

-- the black workers as bits of one number, worker 0 the lowest
unfoldable pub black_set : List Colour → ℕ
black_set [] = 0
black_set (c ∷ cs) = shade c + 2 * black_set cs
