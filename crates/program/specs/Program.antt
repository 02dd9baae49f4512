-- SPECIFICATION 7: from the two files to what is printed.
use Rattle.std.specs.Prelude.{ℕ, zero, suc, Bool, true, false, ◌||◌, List, [], ◌++◌, length, drop, ltb}
use Rattle.laws.specs.Words.{word}
use Rattle.refusal.specs.declared.Refusal.TheVariants.{Large, File}
use Rattle.refusal.specs.Number.{number}
use Rattle.refusal.specs.Order.{raise, first}
use Rattle.records.specs.Store.{Store, offsets_of, targets_of, starts_of}
use Rattle.catalogue.specs.Answer.{header_row}
use Rattle.records.specs.Reading.{catalogue_fault, store_of}
use Rattle.desk.specs.declared.Settings.{Settings}
use Rattle.desk.specs.Checks.{setting_fault, schedule_fault}
use Rattle.machine.specs.Row.{Row}
use Rattle.machine.specs.Tally.{Tally}
use Rattle.machine.specs.Machine.{result}
use Rattle.machine.specs.Call.{Call, final}
use Rattle.sweep.specs.Sweep.{dead, sizes_of}
use Rattle.program.specs.declared.Loaded.{Loaded}
use Rattle.program.specs.declared.Loaded.TheVariants.{Whole, TooLong, Unreadable}
use Rattle.program.specs.Limits.{most_store_bytes, most_order_bytes, order_length, most_objects, most_references, most_workers}
use Rattle.lines.specs.Lines.{refusal_line, count_lines, tally_lines, dead_lines, freed_line}

-- ---- what the program takes

-- `store.cat` and `order.run`: how each was got, and its bytes
pub record Files : Type 0 where
  pub store_file : Loaded
  pub store : List ℕ
  pub order_file : Loaded
  pub order : List ℕ

-- the files with these parts
abbrev pub files : Loaded → List ℕ → Loaded → List ℕ → Files
files s store o order = record { store_file = s; store = store; order_file = o; order = order }

-- the settings: one byte is W, the two words of two bytes behind it are D and K
abbrev pub order_of : List ℕ → Settings
order_of order = record { workers = word 1 order; batch = word 2 (drop 1 order); cutoff = word 2 (drop 3 order) }

-- the schedule stands behind the settings
abbrev pub schedule_of : List ℕ → List ℕ
schedule_of order = drop order_length order

-- ---- the checks in their order: reading (12), the files' lengths (11), the header, its n and m (11), the rest of the
-- ---- catalogue, the settings (8), W (11), the schedule (9)

-- a file that was not got at all
abbrev pub unreadable : Loaded → Bool
unreadable Whole = false
unreadable TooLong = false
unreadable Unreadable = true

-- a file with more bytes than the program takes, so many of them at hand
abbrev pub larger : Loaded → ℕ → ℕ → Bool
larger Whole len most = ltb most len
larger TooLong len most = true
larger Unreadable len most = ltb most len

-- the files themselves: one that cannot be read, or an order without its settings; then one too long
abbrev pub files_fault : Files → ℕ
files_fault f =
    first (raise (unreadable f.store_file || unreadable f.order_file || ltb (length f.order) order_length) (number File) 0)
    (raise (larger f.store_file (length f.store) most_store_bytes || larger f.order_file (length f.order) most_order_bytes) (number Large) 0)

-- n or m too large for the program
abbrev pub counts_fault : ℕ → ℕ → ℕ
counts_fault n m = raise (ltb most_objects n || ltb most_references m) (number Large) 0

-- the same of what the header says
abbrev pub header_fault : List ℕ → ℕ
header_fault store = counts_fault (header_row store).n (header_row store).m

-- the settings: outside their ranges, or W too large for the program
abbrev pub order_fault : Settings → ℕ
order_fault o =
    first (setting_fault o.workers o.batch o.cutoff) (raise (ltb most_workers o.workers) (number Large) 0)

-- what the call of the marker is refused for once the store is read
abbrev pub call_fault : Settings → List ℕ → ℕ
call_fault o schedule = first (order_fault o) (schedule_fault o.workers schedule)

-- the number of the first fault behind the header, or 0
abbrev pub later_fault : List ℕ → List ℕ → ℕ
later_fault store order = first (catalogue_fault store) (call_fault (order_of order) (schedule_of order))

-- the number of the first fault, or 0
abbrev pub program_fault : Files → ℕ
program_fault f =
    first (files_fault f)
    (first (header_row f.store).refusal (first (header_fault f.store) (later_fault f.store f.order)))

-- ---- what is printed

-- what the reader leaves of a store
pub record Contents : Type 0 where
  pub offsets : List ℕ
  pub targets : List ℕ
  pub sizes : List ℕ
  pub starts : List ℕ

-- the contents with these parts
abbrev pub contents : List ℕ → List ℕ → List ℕ → List ℕ → Contents
contents offsets targets sizes starts = record { offsets = offsets; targets = targets; sizes = sizes; starts = starts }

-- what is left of this store
abbrev pub contents_of : Store → Contents
contents_of s = contents (offsets_of s) (targets_of s) s.sizes (starts_of s)

-- the marker's call on it
abbrev pub call_of : Contents → Settings → List ℕ → Call
call_of s o schedule =
    record {
      offsets = s.offsets;
      targets = s.targets;
      starts = s.starts;
      workers = o.workers;
      batch = o.batch;
      cutoff = o.cutoff;
      schedule = schedule;
    }

-- an unfinished collection has no lines of dead objects
abbrev pub dead_text : Bool → List ℕ → List ℕ → List ℕ
dead_text true sizes vs = dead_lines sizes vs ++ freed_line (sizes_of sizes vs)
dead_text false sizes vs = []

-- a collection's result, with its tallies, sizes and marks
abbrev pub result_text : Row → List Tally → List ℕ → List ℕ → List ℕ
result_text r ts sizes marks =
    count_lines r.finished r.counts ++ tally_lines 0 ts ++ dead_text r.finished sizes (dead marks)

-- what is printed where the first fault has this number, 0 for none
abbrev pub printed : ℕ → Contents → Settings → List ℕ → List ℕ
printed zero s o schedule =
    result_text (result (final (call_of s o schedule))) (final (call_of s o schedule)).tallies s.sizes (final (call_of s o schedule)).marks
printed (suc k) s o schedule = refusal_line (suc k)

-- what is printed once the store is read
abbrev pub order_text : Contents → List ℕ → List ℕ
order_text s order = printed (call_fault (order_of order) (schedule_of order)) s (order_of order) (schedule_of order)

-- what is printed where no fault lies in front of the rest of the catalogue
abbrev pub later_text : List ℕ → List ℕ → List ℕ
later_text store order =
    printed (later_fault store order) (contents_of (store_of store)) (order_of order) (schedule_of order)

-- all that the program prints
abbrev pub program_text : Files → List ℕ
program_text f =
    printed (program_fault f) (contents_of (store_of f.store)) (order_of f.order) (schedule_of f.order)
