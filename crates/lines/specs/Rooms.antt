-- The room that lines take: a number has at most 20 digits.
use Rattle.std.specs.Prelude.{ℕ, ◌*◌}

-- whether the collection has finished, and eight counts
abbrev pub counts_room : ℕ
counts_room = 256

-- the tally lines of so many workers
abbrev pub tally_room : ℕ → ℕ
tally_room k = 134 * k

-- so many dead lines
abbrev pub dead_room : ℕ → ℕ
dead_room k = 47 * k
