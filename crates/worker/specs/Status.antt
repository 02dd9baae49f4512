-- What a worker is doing, as words: its status, and the asker in its cell.
use Rattle.std.specs.Prelude.{ℕ, suc}
use Rattle.machine.specs.Machine.{Cell, empty, from, Phase, poll, look, claim}
use Rattle.worker.specs.Registers.{status_poll, status_look, status_claim}

-- an empty cell is 0, one that holds asker a is a + 1
abbrev pub cell_word : Cell → ℕ
cell_word empty = 0
cell_word (from a) = suc a

-- the status of a busy worker
abbrev pub phase_word : Phase → ℕ
phase_word poll = status_poll
phase_word (look k) = status_look
phase_word (claim k) = status_claim
