-- SPECIFICATION 8.2 drawn: for each condition that can fail, words that fail it and no other; and words that hold no collection.
use Rattle.std.specs.Prelude.{◌≡◌, refl, Bool, true, not, List, [], ◌∷◌, map, ℕ, suc, set}
use Rattle.laws.specs.Choice.{pick}
use Rattle.laws.specs.Sum.{hit}
use Rattle.laws.specs.Test.{all}
use Rattle.graph.specs.Graph.{Graph, graph, objects}
use Rattle.graph.specs.Chain.{marks_at, over_marked}
use Rattle.machine.specs.Ring.{white, black}
use Rattle.machine.specs.Run.{run, carried}
use Rattle.machine.specs.Tally.{tally}
use Rattle.machine.specs.Machine.{Setting, State, given, asking, busy, from, look, start, start_runs, live}
use Rattle.machine.specs.Sound.{runs_sum}
use Rattle.machine.specs.Drawings.{alone}
use Rattle.saved.specs.Layout.{saved_words, state_of}
use Rattle.saved.specs.Test.{conditions, held?, saved?}

-- eight objects and eleven references, of which 0, 1, 2 and 9 are followed
abbrev pub G : Graph
G = graph (0 ∷ 3 ∷ 5 ∷ 6 ∷ 8 ∷ 8 ∷ 9 ∷ 9 ∷ 11 ∷ []) (1 ∷ 1 ∷ 2 ∷ 3 ∷ 4 ∷ 0 ∷ 5 ∷ 6 ∷ 6 ∷ 7 ∷ 4 ∷ [])

-- D 2 and K 1
abbrev pub setting : Setting
setting = record { batch = 2; cutoff = 1 }

-- written by hand: worker 0 is asked by worker 2, worker 1 is owed a hand-over; object 7 is marked, to which no chain leads
abbrev pub stopped : State
stopped =
    record {
      marks = 1 ∷ 1 ∷ 2 ∷ 0 ∷ 0 ∷ 0 ∷ 0 ∷ 3 ∷ [];
      workers = busy (from 2) 2 (look 0) (run 3 1 ∷ run 5 0 ∷ []) ∷ given (run 10 0 ∷ []) ∷ asking ∷ [];
      rested = 0 ∷ 0 ∷ 2 ∷ [];
      ring = record { holder = 0; token = black; colours = white ∷ white ∷ white ∷ [] };
      tallies = tally 2 1 1 1 ∷ tally 1 1 0 0 ∷ tally 1 1 0 0 ∷ [];
      counts = record { live = 4; followed = 4; handed = 1; refused = 1; moved = 20; carrying = 2 };
    }

-- words in which some are changed: a place and its new word, one pair behind the other
unfoldable pub changed : List ℕ → List ℕ → List ℕ
changed [] w = w
changed (i ∷ []) w = w
changed (i ∷ x ∷ l) w = changed l (set w i x)

-- the places of the conditions that fail, in the order of the test, from 1 on
unfoldable pub failing : ℕ → List Bool → List ℕ
failing i [] = []
failing i (t ∷ ts) = pick t (failing (suc i) ts) (i ∷ failing (suc i) ts)

-- what is wrong with the words: 0 where they hold no collection, else the conditions that fail
abbrev pub wrong : Graph → ℕ → List ℕ → List ℕ → List ℕ
wrong H W starts w = pick (held? (objects H) W w) (failing 1 (conditions H starts W setting (state_of (objects H) W w))) (0 ∷ [])

-- changes of the words above, and the one condition that fails then
pub record Change : Type 0 where
  pub fails : ℕ
  pub words : List ℕ

abbrev pub fails : ℕ → List ℕ → Change
fails k words = record { fails = k; words = words }

-- by the number of the condition in the specification; at the end words that hold no collection
abbrev pub changes : List Change
changes =
    -- 1: a mark above W
    fails 1 (54 ∷ 4 ∷ [])
    -- 3: live
    ∷ fails 3 (1 ∷ 5 ∷ 30 ∷ 2 ∷ 32 ∷ 0 ∷ [])
    -- 4: carrying
    ∷ fails 4 (11 ∷ 3 ∷ [])
    -- 6: a run over two objects
    ∷ fails 5 (60 ∷ 4 ∷ 63 ∷ 4 ∷ [])
    -- 7: a run of an unmarked object
    ∷ fails 5 (3 ∷ 3 ∷ 26 ∷ 1 ∷ 28 ∷ 1 ∷ 32 ∷ 0 ∷ 80 ∷ 6 ∷ 81 ∷ 7 ∷ 82 ∷ 10 ∷ 83 ∷ 11 ∷ [])
    -- 8: a cut run between others
    ∷ fails 6 (60 ∷ 3 ∷ 61 ∷ 4 ∷ 62 ∷ 4 ∷ 64 ∷ 5 ∷ 65 ∷ 6 ∷ [])
    -- 9: a reference in two runs
    ∷ fails 7 (3 ∷ 3 ∷ 26 ∷ 1 ∷ 28 ∷ 1 ∷ 32 ∷ 0 ∷ 80 ∷ 5 ∷ 81 ∷ 6 ∷ 82 ∷ 10 ∷ 83 ∷ 11 ∷ [])
    -- 10: followed, carried and leaving unmarked
    ∷ fails 8 (3 ∷ 5 ∷ 44 ∷ 2 ∷ [])
    -- 11: carried by nobody, target unmarked
    ∷ fails 9 (80 ∷ 9 ∷ 81 ∷ 10 ∷ [])
    -- 12: busy and carries nothing
    ∷ fails 10 (11 ∷ 1 ∷ 20 ∷ 5 ∷ 60 ∷ 10 ∷ 61 ∷ 11 ∷ 62 ∷ 5 ∷ 63 ∷ 6 ∷ 64 ∷ 3 ∷ 65 ∷ 5 ∷ 80 ∷ 0 ∷ 81 ∷ 0 ∷ [])
    -- 12: owed a hand-over of nothing
    ∷ fails 10 (11 ∷ 1 ∷ 60 ∷ 10 ∷ 61 ∷ 11 ∷ 62 ∷ 5 ∷ 63 ∷ 6 ∷ 64 ∷ 3 ∷ 65 ∷ 5 ∷ 80 ∷ 0 ∷ 81 ∷ 0 ∷ [])
    -- 13: an asker in no cell
    ∷ fails 12 (17 ∷ 0 ∷ [])
    -- 13: an asker in two cells
    ∷ fails 12 (20 ∷ 5 ∷ 21 ∷ 3 ∷ [])
    -- 14: refused and in a cell
    ∷ fails 12 (24 ∷ 2 ∷ [])
    -- 14: owed a hand-over and in a cell
    ∷ fails 12 (17 ∷ 2 ∷ 24 ∷ 0 ∷ [])
    -- 15: idle and in a cell
    ∷ fails 12 (24 ∷ 0 ∷ [])
    -- 15: in its own cell
    ∷ fails 12 (17 ∷ 1 ∷ 24 ∷ 2 ∷ [])
    -- 15: no such worker in a cell
    ∷ fails 11 (17 ∷ 4 ∷ 24 ∷ 2 ∷ [])
    -- 16: batch above D
    ∷ fails 13 (19 ∷ 3 ∷ [])
    -- 17: batch above carried
    ∷ fails 14 (20 ∷ 6 ∷ 23 ∷ 2 ∷ [])
    -- 19: ended while references are carried
    ∷ fails 15 (11 ∷ 1 ∷ 16 ∷ 3 ∷ 17 ∷ 0 ∷ 19 ∷ 0 ∷ 24 ∷ 0 ∷ 60 ∷ 0 ∷ 61 ∷ 0 ∷ 62 ∷ 0 ∷ 63 ∷ 0 ∷ 82 ∷ 5 ∷ 83 ∷ 6 ∷ 84 ∷ 3 ∷ 85 ∷ 5 ∷ [])
    -- 20: moved above its bound
    ∷ fails 16 (9 ∷ 81 ∷ [])
    -- 21: handed above its bound
    ∷ fails 17 (5 ∷ 34 ∷ 9 ∷ 80 ∷ 34 ∷ 34 ∷ [])
    -- 22: sinces above followed
    ∷ fails 18 (26 ∷ 3 ∷ [])
    -- 23: refused above moved
    ∷ fails 20 (7 ∷ 21 ∷ [])
    -- 24: followed of the tallies
    ∷ fails 21 (44 ∷ 2 ∷ [])
    -- 24: handed of the tallies
    ∷ fails 22 (42 ∷ 1 ∷ [])
    -- 24: won of the tallies
    ∷ fails 23 (46 ∷ 0 ∷ [])
    -- 25: won and lost above followed
    ∷ fails 24 (32 ∷ 2 ∷ [])
    -- 26: a token at no worker
    ∷ fails 25 (13 ∷ 3 ∷ [])
    -- 27: carried above a white holder
    ∷ fails 26 (14 ∷ 0 ∷ [])
    -- a since of one that is owed a hand-over
    ∷ fails 19 (18 ∷ 1 ∷ 22 ∷ 1 ∷ [])
    -- 5: an empty run between others
    ∷ fails 0 (62 ∷ 7 ∷ 63 ∷ 7 ∷ 64 ∷ 3 ∷ 65 ∷ 5 ∷ [])
    -- 18: a claim with batch 0
    ∷ fails 0 (16 ∷ 7 ∷ 19 ∷ 0 ∷ [])
    -- another form
    ∷ fails 0 (0 ∷ 1 ∷ [])
    -- a token of a third colour
    ∷ fails 0 (14 ∷ 2 ∷ [])
    -- a black worker that is not there
    ∷ fails 0 (15 ∷ 8 ∷ [])
    -- a status above 7
    ∷ fails 0 (16 ∷ 8 ∷ [])
    -- a cell of one that is not busy
    ∷ fails 0 (25 ∷ 1 ∷ [])
    -- a word behind the runs
    ∷ fails 0 (79 ∷ 1 ∷ [])
    ∷ []

-- as it stands the collection is sound
pub stopped_sound : wrong G 3 (0 ∷ []) (saved_words 8 stopped) ≡ []
unfolding held? conditions saved_words state_of changed failing hit marks_at over_marked carried live runs_sum
stopped_sound = refl

-- each change fails its condition and no other
pub changes_fail :
    map (λ (c : Change). wrong G 3 (0 ∷ []) (changed c.words (saved_words 8 stopped))) changes ≡ map (λ (c : Change). c.fails ∷ []) changes
unfolding held? conditions saved_words state_of changed failing hit marks_at over_marked carried live runs_sum
changes_fail = refl

-- 2: a start that is not marked; and of one object without references 28: worker 1 has ended before worker 0, and worker 0 without the token
pub others_fail :
    wrong G 3 (3 ∷ []) (saved_words 8 stopped)
    ∷ wrong alone 2 (0 ∷ []) (changed (20 ∷ 3 ∷ []) (saved_words 1 (start alone (0 ∷ []) 2)))
    ∷ wrong alone 2 (0 ∷ []) (changed (16 ∷ 3 ∷ 13 ∷ 1 ∷ []) (saved_words 1 (start alone (0 ∷ []) 2)))
    ∷ []
    ≡ (2 ∷ []) ∷ (27 ∷ []) ∷ (27 ∷ []) ∷ []
unfolding held? conditions saved_words state_of changed failing hit marks_at over_marked carried live runs_sum start start_runs
others_fail = refl

-- and all of these are refused
pub changes_refused : all (λ (c : Change). not (saved? G (0 ∷ []) 3 setting (changed c.words (saved_words 8 stopped)))) changes ≡ true
unfolding all saved? held? conditions saved_words state_of changed failing hit marks_at over_marked carried live runs_sum
changes_refused = refl
