-- SPECIFICATION 4.6: a worker's own tally, over its own turns, and the tallies as words.
use Rattle.std.specs.Prelude.{ℕ, ◌+◌, List, [], ◌∷◌, get_or, set}
use Rattle.laws.specs.Blocks.{laid}

-- the references that the worker followed, the claims that it won and those that it lost, and the hand-overs that it gave
pub record Tally : Type 0 where
  pub followed : ℕ
  pub won : ℕ
  pub lost : ℕ
  pub handed : ℕ

abbrev pub tally : ℕ → ℕ → ℕ → ℕ → Tally
tally followed won lost handed = record { followed = followed; won = won; lost = lost; handed = handed }

abbrev pub no_tally : Tally
no_tally = tally 0 0 0 0

-- number by number
abbrev pub add_tally : Tally → Tally → Tally
add_tally x y = tally (x.followed + y.followed) (x.won + y.won) (x.lost + y.lost) (x.handed + y.handed)

-- the tallies after worker b's turn, which counts so much more
abbrev pub tallied : List Tally → ℕ → Tally → List Tally
tallied ts b y = set ts b (add_tally (get_or ts b no_tally) y)

abbrev pub tally_words : Tally → List ℕ
tally_words t = t.followed ∷ t.won ∷ t.lost ∷ t.handed ∷ []

-- the tallies laid end to end, the one of worker 0 first
unfoldable pub tallies_words : List Tally → List ℕ
unfolding laid
tallies_words ts = laid tally_words ts
