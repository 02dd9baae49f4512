-- What the program prints, computed from the bytes of both files: SPECIFICATION 7's listing, an unfinished collection,
-- the drawings K and L, a signed image, live and dead, and a store whose first object is no start.
use Rattle.std.specs.Prelude.{◌≡◌, refl, ℕ, take}
use mathlib.Core.List.{List, [], ◌∷◌, ◌++◌, map, flat_map}
use Rattle.laws.specs.Words.{le, word}
use Rattle.laws.specs.Sum.{hit}
use Rattle.laws.specs.Grouping.{starts, below, under, grouped, part}
use Rattle.graph.specs.Chain.{marks_at}
use Rattle.records.specs.Examples.{bytes_of_S, bytes_of_leased}
use Rattle.records.specs.Signed.{bytes_of_signed, dropped}
use Rattle.records.specs.Store.{Store}
use Rattle.records.specs.Layout.{layout}
use Rattle.catalogue.specs.Answer.{header_row}
use Rattle.records.specs.Reading.{catalogue_fault, faults, lease_faults, record_fault, store_of, records}
use Rattle.machine.specs.Drawings.{turns_A, naming0}
use Rattle.machine.specs.Run.{carried, keep, rest}
use Rattle.machine.specs.Machine.{turns, start, start_runs, entries, all_ended, live}
use Rattle.desk.specs.Checks.{schedule_fits}
use Rattle.sweep.specs.Sweep.{dead_from, sizes_of}
use Rattle.text.specs.Text.{codes, decimal}
use Rattle.program.specs.declared.Loaded.TheVariants.{Whole}
use Rattle.lines.specs.Lines.{count_lines, tally_line, tally_lines, dead_lines}
use Rattle.program.specs.Program.{Files, files, program_text}

-- both files are read whole
abbrev pub read_whole : List ℕ → List ℕ → Files
read_whole store order = files Whole store Whole order

-- an order with W 2, D 1, K 1 and these turns
abbrev pub ordering : List ℕ → List ℕ
ordering schedule = 2 ∷ 1 ∷ 0 ∷ 1 ∷ 0 ∷ schedule

-- what the texts are computed by unfolds with this: bytes and their grouping, the reader, the marker, the sweep, the lines
computed : List Files → List (List ℕ)
unfolding word hit starts below under grouped part marks_at
    header_row catalogue_fault faults lease_faults record_fault store_of records
    turns_A turns start start_runs entries all_ended live carried keep rest schedule_fits
    dead_from sizes_of decimal count_lines tally_line tally_lines dead_lines
computed = map program_text

-- store S with the turns of A, with its first five, and with an entry for worker 2; an empty catalogue; S with leases for 5
-- and 0, by which all of it lives, and the turns of A twice
pub listings :
    map program_text
    (read_whole bytes_of_S (ordering turns_A)
    ∷ read_whole bytes_of_S (ordering (take 10 turns_A))
    ∷ read_whole bytes_of_S (ordering (naming0 (2 ∷ [])))
    ∷ read_whole [] (ordering turns_A)
    ∷ read_whole bytes_of_leased (ordering (turns_A ++ turns_A))
    ∷ [])
    ≡ codes "finished\nlive 4\nfollowed 5\nhanded 1\nrefused 0\nmoved 18\ncarrying 0\nbox 0 followed 3 won 2 lost 1 handed 1\nbox 1 followed 2 won 1 lost 0 handed 0\ndead 4 500\ndead 5 600\nfreed 1100\n"
    ∷ codes "unfinished\nlive 2\nfollowed 1\nhanded 1\nrefused 0\nmoved 5\ncarrying 2\nbox 0 followed 1 won 1 lost 0 handed 1\nbox 1 followed 0 won 0 lost 0 handed 0\n"
    ∷ codes "refusal 9\n"
    ∷ codes "refusal 1\n"
    ∷ codes "finished\nlive 6\nfollowed 6\nhanded 2\nrefused 0\nmoved 22\ncarrying 0\nbox 0 followed 4 won 3 lost 0 handed 2\nbox 1 followed 2 won 1 lost 0 handed 0\nfreed 0\n"
    ∷ []
unfolding computed
listings = refl

-- an image with a signature and a bill of material, by which all of it lives, and the same where the index no longer refers to
-- the image: both are swept with it
pub signed_listings :
    map program_text
    (read_whole bytes_of_signed (ordering (turns_A ++ turns_A)) ∷ read_whole (layout dropped) (ordering (turns_A ++ turns_A)) ∷ [])
    ≡ codes "finished\nlive 5\nfollowed 4\nhanded 1\nrefused 0\nmoved 16\ncarrying 0\nbox 0 followed 3 won 3 lost 0 handed 1\nbox 1 followed 1 won 1 lost 0 handed 0\nfreed 0\n"
    ∷ codes "finished\nlive 1\nfollowed 0\nhanded 0\nrefused 0\nmoved 2\ncarrying 0\nbox 0 followed 0 won 0 lost 0 handed 0\nbox 1 followed 0 won 0 lost 0 handed 0\ndead 1 20\ndead 2 30\ndead 3 40\ndead 4 50\nfreed 140\n"
    ∷ []
unfolding computed layout le flat_map
signed_listings = refl

-- two objects without references, of which the second is the index: the first is dead, though zeros stand behind the starts
abbrev pub second : Store
second = record { index = 1; sizes = 10 ∷ 20 ∷ []; links = []; leases = [] }

pub second_listings :
    map program_text (read_whole (layout second) (ordering turns_A) ∷ [])
    ≡ codes "finished\nlive 1\nfollowed 0\nhanded 0\nrefused 0\nmoved 2\ncarrying 0\nbox 0 followed 0 won 0 lost 0 handed 0\nbox 1 followed 0 won 0 lost 0 handed 0\ndead 0 10\nfreed 10\n"
    ∷ []
unfolding computed layout le flat_map
second_listings = refl
