-- The words of a worker, read together.
use Rattle.std.specs.Prelude.{ℕ, ◌+◌, List, get_or}
use Rattle.saved.specs.declared.WorkerWords.{WorkerWords}

-- those that stand from a place on
abbrev pub words_at : List ℕ → ℕ → WorkerWords
words_at l at =
    record { status = get_or l (at + 0) 0; cell = get_or l (at + 1) 0; since = get_or l (at + 2) 0; batch = get_or l (at + 3) 0 }
