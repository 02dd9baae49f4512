-- SPECIFICATION 2 and 4.6: what a call returns, as one row: the number of a refusal (0 for none), whether the
-- collection is finished, and its counts.
use Rattle.std.specs.Prelude.{ℕ, ◌+◌, ◌-◌, Bool, false, List, [], ◌∷◌}
use Rattle.machine.specs.declared.Counts.{Counts}

pub record Row : Type 0 where
  pub number : ℕ
  pub finished : Bool
  pub counts : Counts

-- the counts before the first turn, with so many marks set and workers that carry references
abbrev pub fresh_counts : ℕ → ℕ → Counts
fresh_counts live carrying = record { live = live; followed = 0; handed = 0; refused = 0; moved = 0; carrying = carrying }

-- beside a refusal every other number is 0
abbrev pub refused_row : ℕ → Row
refused_row k = record { number = k; finished = false; counts = fresh_counts 0 0 }

-- the counts after a turn that changes something and follows nothing: so many more handed and refused. A hand-over makes
-- its asker one more worker that carries
abbrev pub count_move : Counts → ℕ → ℕ → Counts
count_move c handed⁺ refused⁺ =
    record {
      live = c.live;
      followed = c.followed;
      handed = c.handed + handed⁺;
      refused = c.refused + refused⁺;
      moved = c.moved + 1;
      carrying = c.carrying + handed⁺;
    }

-- the counts after a turn that follows a reference: so many more live and refused, and so many workers left with nothing
abbrev pub count_follow : Counts → ℕ → ℕ → ℕ → Counts
count_follow c live⁺ refused⁺ emptied =
    record {
      live = c.live + live⁺;
      followed = c.followed + 1;
      handed = c.handed;
      refused = c.refused + refused⁺;
      moved = c.moved + 1;
      carrying = c.carrying - emptied;
    }

-- the counts as words, in their order
abbrev pub count_words : Counts → List ℕ
count_words c = c.live ∷ c.followed ∷ c.handed ∷ c.refused ∷ c.moved ∷ c.carrying ∷ []
