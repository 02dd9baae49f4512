-- SPECIFICATION 2: the ranges of a setting.
use Rattle.std.specs.Prelude.{ℕ}

-- the most workers
abbrev pub most_workers : ℕ
most_workers = 16

-- the largest batch and cutoff
abbrev pub most_setting : ℕ
most_setting = 65535
