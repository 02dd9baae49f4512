-- What a subject is for: an object that names a live subject lives, and one that has only its subjects dies with them.
use Rattle.std.specs.Prelude.{◌≡◌, List, ℕ, ◌*◌, ◌<◌}
use Rattle.laws.specs.Sum.{sum, hit}
use Rattle.records.specs.Store.{Store, Link, refers, names}
use Rattle.records.specs.Chain.{Chain}

-- 1 if the record says that v names u as its subject
abbrev pub naming : ℕ → ℕ → Link → ℕ
naming v u (refers p) = 0
naming v u (names p) = hit v p.from * hit u p.to

-- 1 if the record refers to v
abbrev pub referring : ℕ → Link → ℕ
referring v (refers p) = hit v p.to
referring v (names p) = 0

-- v names u as its subject
abbrev pub Names : Store → ℕ → ℕ → Type 0
Names s v u = 0 < sum (naming v u) s.links

-- with chains from a list of starts
pub record Follows (s : Store) (starts : List ℕ) : Type 0 where
  pub lives : {v u : ℕ} → Names s v u → Chain s starts u → Chain s starts v
  pub dies : {v : ℕ} → sum (hit v) starts ≡ 0 → sum (referring v) s.links ≡ 0
      → Chain s starts v → (u : ℕ) × (Names s v u × Chain s starts u)
