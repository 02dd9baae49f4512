-- SPECIFICATION 7: what the program takes, and the room that it has.
use Rattle.std.specs.Prelude.{ℕ, ◌+◌}
use Rattle.lines.specs.Rooms.{dead_room}

-- bytes of `store.cat`
abbrev pub most_store_bytes : ℕ
most_store_bytes = 62064

-- bytes of `order.run`
abbrev pub most_order_bytes : ℕ
most_order_bytes = 65536

-- the settings at the front of `order.run`
abbrev pub order_length : ℕ
order_length = 5

-- objects, references and workers
abbrev pub most_objects : ℕ
most_objects = 1000

abbrev pub most_references : ℕ
most_references = 4000

abbrev pub most_workers : ℕ
most_workers = 4

-- the work words of so many workers on so many objects
abbrev pub work_room : ℕ
work_room = 8016

-- the words of so many workers' tallies
abbrev pub tallies_room : ℕ
tallies_room = 16

-- ---- bytes of the answer

-- the whole answer
abbrev pub text_room : ℕ
text_room = 49152

-- the lines of 1,000 dead objects at most, and one more
abbrev pub swept_room : ℕ
swept_room = dead_room most_objects + 27
