-- SPECIFICATION 1: the limits of a store. The code's constants have the same names.
use Rattle.std.specs.Prelude.{ℕ}

-- the largest n
abbrev pub most_objects : ℕ
most_objects = 65536

-- the largest m
abbrev pub most_references : ℕ
most_references = 1048576

-- the most starts: the index and the leases
abbrev pub most_starts : ℕ
most_starts = 257

-- the largest size
abbrev pub largest_size : ℕ
largest_size = 1099511627776
