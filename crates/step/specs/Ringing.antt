-- The token ring as it is kept by value: colours as numbers, and the workers' as bits of one.
use Rattle.std.specs.Prelude.{◌≡◌, ℕ, ◌≤◌, ◌<◌, length}
use Rattle.desk.specs.Limits.{most_workers}
use Rattle.machine.specs.Ring.{Ring, shade, black_set}
use Rattle.step.specs.declared.ring.Ring.{Ring as Words}

abbrev pub ring_with : ℕ → ℕ → ℕ → Words
ring_with holder token black = record { holder = holder; token = token; black = black }

-- the numbers of a ring
abbrev pub ring_of : Ring → Words
ring_of r = ring_with r.holder (shade r.token) (black_set r.colours)

-- numbers of a ring in which worker b is
pub record RingAt (w : Words) (b : ℕ) : Type 0 where
  pub ring : Ring
  pub words_are : w ≡ ring_of ring
  pub low : b < length ring.colours
  pub few : length ring.colours ≤ most_workers
