-- SPECIFICATION 7: the lines that the program prints.
use Rattle.std.specs.Prelude.{Bool, true, false, List, [], ◌∷◌, ◌++◌, ℕ, zero, suc, ◌+◌, ◌*◌, ◌<◌, length, get_or}
use Prim.Native.String.{String}
use Rattle.text.specs.Text.{codes, spaced, line}
use Rattle.machine.specs.declared.Counts.{Counts}
use Rattle.machine.specs.Tally.{Tally}

-- a word and a number
abbrev pub named : String → ℕ → List ℕ
named word n = codes word ++ spaced n

-- a line of both
abbrev pub valued : String → ℕ → List ℕ
valued word n = line (named word n)

-- the only line of a refusal
abbrev pub refusal_line : ℕ → List ℕ
refusal_line k = valued "refusal" k

-- whether the collection has finished
abbrev pub state_line : Bool → List ℕ
state_line true = line (codes "finished")
state_line false = line (codes "unfinished")

-- whether the collection has finished, what is marked and what was followed
unfoldable pub found_lines : Bool → Counts → List ℕ
found_lines finished c = state_line finished ++ valued "live" c.live ++ valued "followed" c.followed

-- what the workers did, and how many carry references now
unfoldable pub worker_lines : Counts → List ℕ
worker_lines c =
    valued "handed" c.handed
    ++ valued "refused" c.refused
    ++ valued "moved" c.moved
    ++ valued "carrying" c.carrying

-- the lines of every collection: a count is a line
unfoldable pub count_lines : Bool → Counts → List ℕ
unfolding found_lines worker_lines
count_lines finished c = found_lines finished c ++ worker_lines c

-- what one worker did, in one line
unfoldable pub tally_line : ℕ → Tally → List ℕ
tally_line b t =
    named "box" b
    ++ named " followed" t.followed
    ++ named " won" t.won
    ++ named " lost" t.lost
    ++ valued " handed" t.handed

-- a line for each worker from b on, whatever it did
unfoldable pub tally_lines : ℕ → List Tally → List ℕ
tally_lines b [] = []
tally_lines b (t ∷ ts) = tally_line b t ++ tally_lines (suc b) ts

-- a dead object and its size
abbrev pub dead_line : ℕ → ℕ → List ℕ
dead_line v size = line (codes "dead" ++ spaced v ++ spaced size)

-- a line for each dead object of a list
unfoldable pub dead_lines : List ℕ → List ℕ → List ℕ
dead_lines sizes [] = []
dead_lines sizes (v ∷ vs) = dead_line v (get_or sizes v 0) ++ dead_lines sizes vs

-- every number of a list lies below n
abbrev pub Below : List ℕ → ℕ → Type 0
Below l n = (i : ℕ) → i < length l → get_or l i 0 < n

-- the sum of the dead objects' sizes
abbrev pub freed_line : ℕ → List ℕ
freed_line sum = valued "freed" sum

-- ---- the same by the words of the tallies, four for each worker

-- worker b's tally
abbrev pub tally_at : List ℕ → ℕ → Tally
tally_at words b =
    record {
      followed = get_or words (4 * b) 0;
      won = get_or words (4 * b + 1) 0;
      lost = get_or words (4 * b + 2) 0;
      handed = get_or words (4 * b + 3) 0;
    }

-- the lines of the first k workers
unfoldable pub word_lines : List ℕ → ℕ → List ℕ
word_lines words zero = []
word_lines words (suc k) = word_lines words k ++ tally_line k (tally_at words k)
