-- SPECIFICATION 8.1: a collection that was stopped, as words of 32 bits. In order: the number of the form; the counts; the token
-- ring; status, cell, since and batch of each worker; the tallies; the marks; each worker's stretch. Counts and tallies take two
-- words each.
use Rattle.std.specs.Prelude.{ℕ, zero, suc, ◌+◌, ◌-◌, ◌*◌, ◌/◌, ◌%◌, ◌^◌, ◌≤◌, List, [], ◌∷◌, ◌++◌, length, get_or, take, drop, ltb}
use Rattle.laws.specs.Blocks.{laid}
use Rattle.laws.specs.Choice.{pick}
use Rattle.laws.specs.Span.{listing}
use Rattle.desk.specs.Lengths.{tally_word_count, stretch_length, saved_form, counts_place, ring_place, workers_place, worker_word_count, tallies_place, marks_place, stretches_place}
use Rattle.machine.specs.declared.Counts.{Counts}
use Rattle.machine.specs.Row.{count_words}
use Rattle.machine.specs.Ring.{Colour, white, black, shade, Ring, black_set}
use Rattle.machine.specs.Run.{Run, run}
use Rattle.machine.specs.Tally.{Tally, tally, tallies_words}
use Rattle.machine.specs.Machine.{State, Worker, idle, asking, denied, ended, given, busy, Cell, empty, from, poll, look, claim, memory, worker, runs_of}
use Rattle.machine.specs.Sound.{batch_of, Sized}
use Rattle.worker.specs.Registers.{status_idle, status_asking, status_denied, status_ended, status_given, status_poll}
use Rattle.worker.specs.Status.{cell_word, phase_word}

-- ---- from a state to words

-- a number as two words, the low one first
abbrev pub two_words : ℕ → List ℕ
two_words x = x % 2 ^ 32 ∷ x / 2 ^ 32 ∷ []

-- the holder, the token's colour, and the black workers as bits
abbrev pub ring_words : Ring → List ℕ
ring_words r = r.holder ∷ shade r.token ∷ black_set r.colours ∷ []

-- status, cell, since and batch of a worker; n is the since of one that is not busy
abbrev pub worker_words : Worker → ℕ → List ℕ
worker_words idle n = status_idle ∷ 0 ∷ n ∷ 0 ∷ []
worker_words asking n = status_asking ∷ 0 ∷ n ∷ 0 ∷ []
worker_words denied n = status_denied ∷ 0 ∷ n ∷ 0 ∷ []
worker_words ended n = status_ended ∷ 0 ∷ n ∷ 0 ∷ []
worker_words (given rs) n = status_given ∷ 0 ∷ n ∷ 0 ∷ []
worker_words (busy c k p rs) n = phase_word p ∷ cell_word c ∷ k ∷ batch_of p ∷ []

-- those of all workers, with the sinces of those that are not busy
unfoldable pub workers_words : List Worker → List ℕ → List ℕ
workers_words [] ns = []
workers_words (w ∷ ws) ns = worker_words w (get_or ns 0 0) ++ workers_words ws (drop 1 ns)

-- the words of a state of a store with n objects
unfoldable pub saved_words : ℕ → State → List ℕ
unfolding laid workers_words tallies_words memory black_set
saved_words n s =
    (saved_form ∷ (laid two_words (count_words s.counts) ++ ring_words s.ring))
    ++ (workers_words s.workers s.rested
    ++ (laid two_words (tallies_words s.tallies)
    ++ (s.marks
    ++ memory n s.workers)))

-- a state of n objects and W workers whose runs have room in the stretches
pub record Shaped (n W : ℕ) (s : State) : Type 0 where
  pub sized : Sized n W s
  pub room : (b : ℕ) → length (runs_of (worker s b)) ≤ suc n

-- ---- from words to a state

-- the number of which the two words from i on are
abbrev pub number_at : List ℕ → ℕ → ℕ
number_at w i = get_or w i 0 + 2 ^ 32 * get_or w (i + 1) 0

-- the runs of a stretch: pairs (first, end) up to the first that is none; the run to be followed last stands first
unfoldable pub runs_in : List ℕ → List Run
runs_in [] = []
runs_in (f ∷ []) = []
runs_in (f ∷ e ∷ l) = pick (ltb f e) (runs_in l ++ (run f (e - suc f) ∷ [])) []

abbrev pub cell_from : ℕ → Cell
cell_from zero = empty
cell_from (suc a) = from a

-- the worker whose status, cell, since, batch and runs are these; another status is none of a worker's
abbrev pub worker_from : ℕ → ℕ → ℕ → ℕ → List Run → Worker
worker_from zero cell since batch rs = idle
worker_from (suc zero) cell since batch rs = asking
worker_from (suc (suc zero)) cell since batch rs = denied
worker_from (suc (suc (suc zero))) cell since batch rs = ended
worker_from (suc (suc (suc (suc zero)))) cell since batch rs = given rs
worker_from (suc (suc (suc (suc (suc zero))))) cell since batch rs = busy (cell_from cell) since poll rs
worker_from (suc (suc (suc (suc (suc (suc zero)))))) cell since batch rs = busy (cell_from cell) since (look (batch - 1)) rs
worker_from (suc (suc (suc (suc (suc (suc (suc zero))))))) cell since batch rs = busy (cell_from cell) since (claim (batch - 1)) rs
worker_from (suc (suc (suc (suc (suc (suc (suc (suc k)))))))) cell since batch rs = ended

-- the since of a worker that is not busy, by its status
abbrev pub rested_from : ℕ → ℕ → ℕ
rested_from status since = pick (ltb status status_poll) since 0

-- word k of worker b
abbrev pub worker_word : List ℕ → ℕ → ℕ → ℕ
worker_word w b k = get_or w (workers_place + worker_word_count * b + k) 0

-- its stretch
abbrev pub stretch_in : ℕ → ℕ → List ℕ → ℕ → List ℕ
stretch_in n W w b = take (stretch_length n) (drop (stretches_place n W + b * stretch_length n) w)

abbrev pub worker_in : ℕ → ℕ → List ℕ → ℕ → Worker
worker_in n W w b =
    worker_from (worker_word w b 0) (worker_word w b 1) (worker_word w b 2) (worker_word w b 3) (runs_in (stretch_in n W w b))

abbrev pub rested_in : List ℕ → ℕ → ℕ
rested_in w b = rested_from (worker_word w b 0) (worker_word w b 2)

-- number k of worker b's tally
abbrev pub tally_number : ℕ → List ℕ → ℕ → ℕ → ℕ
tally_number W w b k = number_at w (tallies_place W + 2 * tally_word_count * b + 2 * k)

abbrev pub tally_in : ℕ → List ℕ → ℕ → Tally
tally_in W w b = tally (tally_number W w b 0) (tally_number W w b 1) (tally_number W w b 2) (tally_number W w b 3)

-- count k
abbrev pub count_in : List ℕ → ℕ → ℕ
count_in w k = number_at w (counts_place + 2 * k)

abbrev pub counts_in : List ℕ → Counts
counts_in w =
    record {
      live = count_in w 0;
      followed = count_in w 1;
      handed = count_in w 2;
      refused = count_in w 3;
      moved = count_in w 4;
      carrying = count_in w 5;
    }

-- a colour by its number
abbrev pub colour_from : ℕ → Colour
colour_from zero = white
colour_from (suc k) = black

-- the colour of worker b, by the bit of the black ones
abbrev pub colour_in : List ℕ → ℕ → Colour
colour_in w b = colour_from (get_or w (ring_place + 2) 0 / 2 ^ b % 2)

abbrev pub ring_in : ℕ → List ℕ → Ring
ring_in W w =
    record { holder = get_or w ring_place 0; token = colour_from (get_or w (ring_place + 1) 0); colours = listing (colour_in w) 0 W }

-- what the words say, whether they hold a state or not
unfoldable pub state_of : ℕ → ℕ → List ℕ → State
unfolding listing runs_in
state_of n W w =
    record {
      marks = take n (drop (marks_place W) w);
      workers = listing (worker_in n W w) 0 W;
      rested = listing (rested_in w) 0 W;
      ring = ring_in W w;
      tallies = listing (tally_in W w) 0 W;
      counts = counts_in w;
    }
