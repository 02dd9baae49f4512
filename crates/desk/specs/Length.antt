-- SPECIFICATION 2: a call for a length answers a number and the length, which is 0 beside a refusal.
use Rattle.std.specs.Prelude.{ℕ, zero, suc, Result, Ok, Err}
use Rattle.refusal.specs.declared.Refusal.{Refusal}
use Rattle.refusal.specs.Number.{number}

-- the number answered, 0 for no fault, and the length
pub record LengthRow : Type 0 where
  pub number : ℕ
  pub long : ℕ

abbrev pub length_with : ℕ → ℕ → LengthRow
length_with number long = record { number = number; long = long }

-- an answer so
abbrev pub length_row : Result ℕ Refusal → LengthRow
length_row (Ok k) = length_with 0 k
length_row (Err r) = length_with (number r) 0

-- by the number of the fault
abbrev pub length_by : ℕ → ℕ → LengthRow
length_by zero long = length_with 0 long
length_by (suc k) long = length_with (suc k) 0
