-- A worker's tally raised, in words.
use Rattle.std.specs.Prelude.{ℕ, ◌+◌, ◌*◌, ◌≤◌, ◌<◌, ◌^◌, List, length, get_or, set}
use Rattle.desk.specs.Limits.{most_workers}
use Rattle.desk.specs.Lengths.{tally_word_count}
use Rattle.machine.specs.Tally.{Tally}

-- where worker b's tally begins
abbrev pub tally_at : ℕ → ℕ
tally_at b = tally_word_count * b

-- the tally is there, and no word of it is at its end
pub record Raisable (ws : List ℕ) (b : ℕ) (y : Tally) : Type 0 where
  pub low : b < most_workers
  pub room : tally_at b + tally_word_count ≤ length ws
  pub followed : get_or ws (tally_at b) 0 + y.followed < 2 ^ 64
  pub won : get_or ws (tally_at b + 1) 0 + y.won < 2 ^ 64
  pub lost : get_or ws (tally_at b + 2) 0 + y.lost < 2 ^ 64
  pub handed : get_or ws (tally_at b + 3) 0 + y.handed < 2 ^ 64

-- its four words afterwards
abbrev pub raised_words : List ℕ → ℕ → Tally → List ℕ
raised_words ws b y =
    set
    (set
    (set
    (set ws (tally_at b) (get_or ws (tally_at b) 0 + y.followed))
    (tally_at b + 1)
    (get_or ws (tally_at b + 1) 0 + y.won))
    (tally_at b + 2)
    (get_or ws (tally_at b + 2) 0 + y.lost))
    (tally_at b + 3)
    (get_or ws (tally_at b + 3) 0 + y.handed)
