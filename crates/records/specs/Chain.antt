-- SPECIFICATION 3, of the catalogue alone: chains of its stored references from any of a list of starts.
use Rattle.std.specs.Prelude.{List, ℕ, ◌*◌, ◌<◌}
use Rattle.laws.specs.Sum.{sum, hit}
use Rattle.records.specs.Store.{Store, Pair, pairs}

-- how many stored references lead from u to v
abbrev pub leading : Store → ℕ → ℕ → ℕ
leading s u v = sum (λ (p : Pair). hit u p.from * hit v p.to) (pairs s)

-- a chain leads from one of the starts to the object
pub data Chain (s : Store) (starts : List ℕ) : ℕ → Type 0 where
  begins : {v : ℕ} → 0 < sum (hit v) starts → Chain s starts v
  along : {u v : ℕ} → Chain s starts u → 0 < leading s u v → Chain s starts v
