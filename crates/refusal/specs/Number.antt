-- SPECIFICATION 2: the number of each refusal.
use Rattle.std.specs.Prelude.{ℕ, Result, Ok, Err}
use Rattle.refusal.specs.declared.Refusal.{Refusal}
use Rattle.refusal.specs.declared.Refusal.TheVariants.{Short, Kind, Place, Count, Object, Size, Buffer, Setting, Schedule, Graph, Large, File, Starts, Saved, Cards, Seed, Marks, Text, Names}

-- the number that is returned for each cause
abbrev pub number : Refusal → ℕ
number Short = 1
number Kind = 2
number Place = 3
number Count = 4
number Object = 5
number Size = 6
number Buffer = 7
number Setting = 8
number Schedule = 9
number Graph = 10
number Large = 11
number File = 12
number Starts = 13
number Saved = 14
number Cards = 15
number Seed = 16
number Marks = 17
number Text = 18
number Names = 19

-- the number that an answer is told by: 0 for no fault
abbrev pub number_of : {A : Type 0} → Result A Refusal → ℕ
number_of (Ok x) = 0
number_of (Err r) = number r
