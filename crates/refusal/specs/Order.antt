-- SPECIFICATION 2: checks have an order; the number of the first fault counts, and 0 stands for none.
use Rattle.std.specs.Prelude.{ℕ, zero, suc, Bool, true, false}

-- the number k where the fault is there, else what the later checks find
abbrev pub raise : Bool → ℕ → ℕ → ℕ
raise true k later = k
raise false k later = later

-- what the first checks find, else what the later ones find
abbrev pub first : ℕ → ℕ → ℕ
first zero later = later
first (suc k) later = suc k
