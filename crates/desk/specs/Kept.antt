-- SPECIFICATION 2: beside a refusal all lent buffers are as before the call.
use Rattle.std.specs.Prelude.{ℕ, zero, suc}

-- what is lent, after a call that answers this number: what the call makes of it, and as it was beside a refusal
abbrev pub unless_refused : {A : Type 0} → ℕ → A → A → A
unless_refused zero new old = new
unless_refused (suc k) new old = old
