-- SPECIFICATION 2 and 8.1: how long the lent buffers of a collection with n objects and W workers are, and where the parts
-- of the saved words begin.
use Rattle.std.specs.Prelude.{ℕ, ◌+◌, ◌*◌}

-- a worker's stretch of the work words
abbrev pub stretch_length : ℕ → ℕ
stretch_length n = 2 * n + 4

-- the words of a worker's tally
abbrev pub tally_word_count : ℕ
tally_word_count = 4

-- how many counts there are
abbrev pub counts_number : ℕ
counts_number = 6

-- ---- the saved words: the form, the counts, the ring, the workers, the tallies, the marks, the stretches

-- the first word; it was 1 before there was a ring
abbrev pub saved_form : ℕ
saved_form = 2

abbrev pub counts_place : ℕ
counts_place = 1

abbrev pub ring_place : ℕ
ring_place = counts_place + 2 * counts_number

-- the words of the ring
abbrev pub ring_word_count : ℕ
ring_word_count = 3

abbrev pub workers_place : ℕ
workers_place = ring_place + ring_word_count

-- the words of one worker
abbrev pub worker_word_count : ℕ
worker_word_count = 4

abbrev pub tallies_place : ℕ → ℕ
tallies_place W = workers_place + worker_word_count * W

abbrev pub marks_place : ℕ → ℕ
marks_place W = tallies_place W + 2 * tally_word_count * W

abbrev pub stretches_place : ℕ → ℕ → ℕ
stretches_place n W = marks_place W + n

-- how many words there are
abbrev pub saved_length : ℕ → ℕ → ℕ
saved_length n W = stretches_place n W + W * stretch_length n
