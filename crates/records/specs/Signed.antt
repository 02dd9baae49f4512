-- Worked examples of subjects, computed: an image with a signature and a bill of material.
use Rattle.std.specs.Prelude.{◌≡◌, refl, ℕ, take}
use mathlib.Core.List.{List, [], ◌∷◌, ◌++◌, flat_map}
use Rattle.laws.specs.Grouping.{starts, below, under, grouped, part}
use Rattle.laws.specs.Sum.{sum, hit}
use Rattle.laws.specs.Words.{le, word}
use Rattle.graph.specs.Chain.{reached, rounds, spread, spread_run, marks_at, leaving_reached, over_marked}
use Rattle.records.specs.Store.{Store, Link, refers, names, offsets_of, targets_of, starts_of}
use Rattle.records.specs.Layout.{layout, subject, pair_record, record_of, lease_record}
use Rattle.records.specs.Reading.{reading, refused, accepted, catalogue_fault, faults, lease_faults, record_fault, store_of, records}
use Rattle.records.specs.ReadGraph.{read_graph}

abbrev refer : ℕ → ℕ → Link
refer from to = refers (record { from = from; to = to })

abbrev name : ℕ → ℕ → Link
name from to = names (record { from = from; to = to })

-- an index, an image and its layer; 3 is the image's signature and 4 its bill of material
abbrev pub signed : Store
signed =
    record {
      index = 0;
      sizes = 10 ∷ 20 ∷ 30 ∷ 40 ∷ 50 ∷ [];
      links = refer 0 1 ∷ name 3 1 ∷ refer 1 2 ∷ name 4 1 ∷ [];
      leases = [];
    }

-- its catalogue, a record to a line
abbrev pub bytes_of_signed : List ℕ
bytes_of_signed =
    (16 ∷ 0 ∷ 1 ∷ 0 ∷ 5 ∷ 0 ∷ 0 ∷ 0 ∷ 4 ∷ 0 ∷ 0 ∷ 0 ∷ 0 ∷ 0 ∷ 0 ∷ 0 ∷ [])
    ++ (12 ∷ 0 ∷ 2 ∷ 0 ∷ 10 ∷ 0 ∷ 0 ∷ 0 ∷ 0 ∷ 0 ∷ 0 ∷ 0 ∷ [])
    ++ (12 ∷ 0 ∷ 2 ∷ 0 ∷ 20 ∷ 0 ∷ 0 ∷ 0 ∷ 0 ∷ 0 ∷ 0 ∷ 0 ∷ [])
    ++ (12 ∷ 0 ∷ 2 ∷ 0 ∷ 30 ∷ 0 ∷ 0 ∷ 0 ∷ 0 ∷ 0 ∷ 0 ∷ 0 ∷ [])
    ++ (12 ∷ 0 ∷ 2 ∷ 0 ∷ 40 ∷ 0 ∷ 0 ∷ 0 ∷ 0 ∷ 0 ∷ 0 ∷ 0 ∷ [])
    ++ (12 ∷ 0 ∷ 2 ∷ 0 ∷ 50 ∷ 0 ∷ 0 ∷ 0 ∷ 0 ∷ 0 ∷ 0 ∷ 0 ∷ [])
    ++ (12 ∷ 0 ∷ 3 ∷ 0 ∷ 0 ∷ 0 ∷ 0 ∷ 0 ∷ 1 ∷ 0 ∷ 0 ∷ 0 ∷ [])
    ++ (12 ∷ 0 ∷ 5 ∷ 0 ∷ 3 ∷ 0 ∷ 0 ∷ 0 ∷ 1 ∷ 0 ∷ 0 ∷ 0 ∷ [])
    ++ (12 ∷ 0 ∷ 3 ∷ 0 ∷ 1 ∷ 0 ∷ 0 ∷ 0 ∷ 2 ∷ 0 ∷ 0 ∷ 0 ∷ [])
    ++ (12 ∷ 0 ∷ 5 ∷ 0 ∷ 4 ∷ 0 ∷ 0 ∷ 0 ∷ 1 ∷ 0 ∷ 0 ∷ 0 ∷ [])

-- written, and read again
pub layout_of_signed : layout signed ≡ bytes_of_signed
unfolding layout le flat_map
layout_of_signed = refl

pub reading_of_signed : reading bytes_of_signed ≡ accepted signed
unfolding reading word catalogue_fault faults lease_faults record_fault store_of records
reading_of_signed = refl

-- what is stored: 1 leads to its signature, its layer and its bill of material, in record order
pub offsets_of_signed : offsets_of signed ≡ 0 ∷ 1 ∷ 4 ∷ 4 ∷ 4 ∷ 4 ∷ []
unfolding starts below sum under
offsets_of_signed = refl

pub targets_of_signed : targets_of signed ≡ 1 ∷ 3 ∷ 2 ∷ 4 ∷ []
unfolding grouped part hit
targets_of_signed = refl

-- while the image lives, so do both, and R counts their stored references
pub signed_live : reached (read_graph signed) (starts_of signed) ≡ 1 ∷ 1 ∷ 1 ∷ 1 ∷ 1 ∷ []
unfolding reached rounds spread spread_run marks_at starts below sum under grouped part hit
signed_live = refl

pub signed_R : leaving_reached (read_graph signed) (starts_of signed) ≡ 4
unfolding leaving_reached over_marked reached rounds spread spread_run marks_at starts below sum under grouped part hit
signed_R = refl

-- the same store with an index that no longer refers to the image
abbrev pub dropped : Store
dropped =
    record { index = 0; sizes = signed.sizes; links = name 3 1 ∷ refer 1 2 ∷ name 4 1 ∷ []; leases = [] }

-- all of it is dead
pub dropped_dead : reached (read_graph dropped) (starts_of dropped) ≡ 1 ∷ 0 ∷ 0 ∷ 0 ∷ 0 ∷ []
unfolding reached rounds spread spread_run marks_at starts below sum under grouped part hit
dropped_dead = refl

-- a subject in place of the last record: one that names no object, one of no object, one of another length
abbrev lastly : List ℕ → List ℕ
lastly b = take 112 bytes_of_signed ++ b

abbrev subject_record : ℕ → ℕ → List ℕ
subject_record from to = pair_record subject (record { from = from; to = to })

pub refused_subjects :
    (reading (lastly (subject_record 4 5)) ≡ refused 5)
    × ((reading (lastly (subject_record 5 1)) ≡ refused 5) × (reading (lastly (record_of 8 subject (le 4 4))) ≡ refused 2))
unfolding reading word catalogue_fault faults lease_faults record_fault le
refused_subjects = (refl, (refl, refl))

-- behind the m-th reference, and behind a lease
pub misplaced_subjects :
    (reading (bytes_of_signed ++ subject_record 4 1) ≡ refused 3)
    × (reading (bytes_of_signed ++ lease_record 2 ++ subject_record 4 1) ≡ refused 3)
unfolding reading word catalogue_fault faults lease_faults record_fault le
misplaced_subjects = (refl, refl)
