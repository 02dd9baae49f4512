-- SPECIFICATION 14.1: names, each w bytes long, laid end to end; each names one object.
use Rattle.std.specs.Prelude.{Bool, List, ℕ, suc, ◌*◌, ◌-◌, length, take, drop, leb}
use Rattle.std.specs.declared.cmp.Ordering.{Ordering}
use Rattle.std.specs.Ordering.{nat_cmp, is_lt}
use Rattle.std.specs.Cmp.Lexicographic.{slice_cmp}
use Rattle.laws.specs.Choice.{both, either}
use Rattle.laws.specs.Test.{all, all_up_to}

-- what is lent as names: their width, their bytes, and the object that each of them names
pub record Names : Type 0 where
  pub width : ℕ
  pub bytes : List ℕ
  pub objects : List ℕ

abbrev pub names_of : ℕ → List ℕ → List ℕ → Names
names_of w bytes objects = record { width = w; bytes = bytes; objects = objects }

-- how many there are
abbrev pub count : Names → ℕ
count N = length N.objects

-- w bytes from place p on; fewer where the bytes end before
abbrev pub window : ℕ → List ℕ → ℕ → List ℕ
window w bytes p = take w (drop p bytes)

-- name k
abbrev pub name_at : Names → ℕ → List ℕ
name_at N k = window N.width N.bytes (k * N.width)

-- a lower-case hexadecimal digit: 0 to 9, a to f
abbrev pub is_digit : ℕ → Bool
is_digit b = either (both (leb 48 b) (leb b 57)) (both (leb 97 b) (leb b 102))

-- the first byte in which two names differ decides
abbrev pub order : List ℕ → List ℕ → Ordering
order = slice_cmp nat_cmp

-- each of so many names is below the one after it, so they ascend and are distinct
unfoldable pub ascends : List ℕ → ℕ → ℕ → Bool
unfolding all_up_to
ascends bytes w k = all_up_to (k - 1) (λ (i : ℕ). is_lt (order (window w bytes (i * w)) (window w bytes (suc i * w))))

abbrev pub ascending : Names → Bool
ascending N = ascends N.bytes N.width (count N)

-- every byte of them is a digit
abbrev pub digital : Names → Bool
digital N = all is_digit N.bytes
