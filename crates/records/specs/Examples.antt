-- Worked examples of the definitions, computed: store S, the same with leases, and the empty catalogue, drawing K.
use Rattle.std.specs.Prelude.{◌≡◌, refl, ℕ, take, replicate}
use mathlib.Core.List.{List, [], ◌∷◌, ◌++◌, flat_map}
use Rattle.laws.specs.Grouping.{starts, below, under, grouped, part}
use Rattle.laws.specs.Sum.{sum, hit}
use Rattle.laws.specs.Words.{le, word}
use Rattle.records.specs.Store.{Store, Link, refers, offsets_of, targets_of, starts_of, padded}
use Rattle.records.specs.Layout.{layout, lease_record}
use Rattle.records.specs.Reading.{reading, refused, accepted, catalogue_fault, faults, lease_faults, record_fault, store_of, records}

abbrev refer : ℕ → ℕ → Link
refer from to = refers (record { from = from; to = to })

-- store S: six objects, index 0, references 0→1, 0→2, 1→3, 2→3, 3→0, 5→4
abbrev pub S : Store
S =
    record {
      index = 0;
      sizes = 100 ∷ 200 ∷ 300 ∷ 400 ∷ 500 ∷ 600 ∷ [];
      links = refer 0 1 ∷ refer 0 2 ∷ refer 1 3 ∷ refer 2 3 ∷ refer 3 0 ∷ refer 5 4 ∷ [];
      leases = [];
    }

-- its catalogue, a record to a line
abbrev pub bytes_of_S : List ℕ
bytes_of_S =
    (16 ∷ 0 ∷ 1 ∷ 0 ∷ 6 ∷ 0 ∷ 0 ∷ 0 ∷ 6 ∷ 0 ∷ 0 ∷ 0 ∷ 0 ∷ 0 ∷ 0 ∷ 0 ∷ [])
    ++ (12 ∷ 0 ∷ 2 ∷ 0 ∷ 100 ∷ 0 ∷ 0 ∷ 0 ∷ 0 ∷ 0 ∷ 0 ∷ 0 ∷ [])
    ++ (12 ∷ 0 ∷ 2 ∷ 0 ∷ 200 ∷ 0 ∷ 0 ∷ 0 ∷ 0 ∷ 0 ∷ 0 ∷ 0 ∷ [])
    ++ (12 ∷ 0 ∷ 2 ∷ 0 ∷ 44 ∷ 1 ∷ 0 ∷ 0 ∷ 0 ∷ 0 ∷ 0 ∷ 0 ∷ [])
    ++ (12 ∷ 0 ∷ 2 ∷ 0 ∷ 144 ∷ 1 ∷ 0 ∷ 0 ∷ 0 ∷ 0 ∷ 0 ∷ 0 ∷ [])
    ++ (12 ∷ 0 ∷ 2 ∷ 0 ∷ 244 ∷ 1 ∷ 0 ∷ 0 ∷ 0 ∷ 0 ∷ 0 ∷ 0 ∷ [])
    ++ (12 ∷ 0 ∷ 2 ∷ 0 ∷ 88 ∷ 2 ∷ 0 ∷ 0 ∷ 0 ∷ 0 ∷ 0 ∷ 0 ∷ [])
    ++ (12 ∷ 0 ∷ 3 ∷ 0 ∷ 0 ∷ 0 ∷ 0 ∷ 0 ∷ 1 ∷ 0 ∷ 0 ∷ 0 ∷ [])
    ++ (12 ∷ 0 ∷ 3 ∷ 0 ∷ 0 ∷ 0 ∷ 0 ∷ 0 ∷ 2 ∷ 0 ∷ 0 ∷ 0 ∷ [])
    ++ (12 ∷ 0 ∷ 3 ∷ 0 ∷ 1 ∷ 0 ∷ 0 ∷ 0 ∷ 3 ∷ 0 ∷ 0 ∷ 0 ∷ [])
    ++ (12 ∷ 0 ∷ 3 ∷ 0 ∷ 2 ∷ 0 ∷ 0 ∷ 0 ∷ 3 ∷ 0 ∷ 0 ∷ 0 ∷ [])
    ++ (12 ∷ 0 ∷ 3 ∷ 0 ∷ 3 ∷ 0 ∷ 0 ∷ 0 ∷ 0 ∷ 0 ∷ 0 ∷ 0 ∷ [])
    ++ (12 ∷ 0 ∷ 3 ∷ 0 ∷ 5 ∷ 0 ∷ 0 ∷ 0 ∷ 4 ∷ 0 ∷ 0 ∷ 0 ∷ [])

-- S written, and read again
pub layout_of_S : layout S ≡ bytes_of_S
unfolding layout le flat_map
layout_of_S = refl

pub reading_of_S : reading bytes_of_S ≡ accepted S
unfolding reading word catalogue_fault faults lease_faults record_fault store_of records
reading_of_S = refl

-- where each object's references begin, and the targets
pub offsets_of_S : offsets_of S ≡ 0 ∷ 2 ∷ 3 ∷ 4 ∷ 5 ∷ 5 ∷ 6 ∷ []
unfolding starts below sum under
offsets_of_S = refl

pub targets_of_S : targets_of S ≡ 1 ∷ 2 ∷ 3 ∷ 3 ∷ 0 ∷ 4 ∷ []
unfolding grouped part hit
targets_of_S = refl

-- S with two leases: one for object 5, and one for the index, which adds nothing to where a collection starts
abbrev pub S_leased : Store
S_leased = record { index = S.index; sizes = S.sizes; links = S.links; leases = 5 ∷ 0 ∷ [] }

-- its catalogue: that of S, and the two leases
abbrev pub bytes_of_leased : List ℕ
bytes_of_leased = bytes_of_S ++ (8 ∷ 0 ∷ 4 ∷ 0 ∷ 5 ∷ 0 ∷ 0 ∷ 0 ∷ []) ++ (8 ∷ 0 ∷ 4 ∷ 0 ∷ 0 ∷ 0 ∷ 0 ∷ 0 ∷ [])

pub layout_of_leased : layout S_leased ≡ bytes_of_leased
unfolding layout le flat_map
layout_of_leased = refl

pub reading_of_leased : reading bytes_of_leased ≡ accepted S_leased
unfolding reading word catalogue_fault faults lease_faults record_fault store_of records
reading_of_leased = refl

-- the start buffer: three starts, and 254 zeros
pub starts_of_leased : padded (starts_of S_leased) ≡ 0 ∷ 5 ∷ 0 ∷ replicate 254 0
starts_of_leased = refl

-- a lease that names no object, one among the references, and bytes behind the leases that are no record
pub refused_leases :
    (reading (bytes_of_S ++ (8 ∷ 0 ∷ 4 ∷ 0 ∷ 6 ∷ 0 ∷ 0 ∷ 0 ∷ [])) ≡ refused 5)
    × ((reading (take 148 bytes_of_S ++ (8 ∷ 0 ∷ 4 ∷ 0 ∷ 5 ∷ 0 ∷ 0 ∷ 0 ∷ [])) ≡ refused 3) × (reading (bytes_of_leased ++ (8 ∷ 0 ∷ 4 ∷ [])) ≡ refused 1))
unfolding reading word catalogue_fault faults lease_faults record_fault
refused_leases = (refl, (refl, refl))

-- S with as many leases as there may be
pub lease_most :
    reading (bytes_of_S ++ flat_map lease_record (replicate 256 4))
    ≡ accepted (record { index = S.index; sizes = S.sizes; links = S.links; leases = replicate 256 4 })
unfolding reading word catalogue_fault faults lease_faults record_fault store_of records le flat_map
lease_most = refl

-- the 257th lease is 13, and not 3 or 5, whatever it names
pub lease_too_many : reading (bytes_of_S ++ flat_map lease_record (replicate 256 4) ++ lease_record 6) ≡ refused 13
unfolding reading word catalogue_fault faults lease_faults record_fault le flat_map
lease_too_many = refl

-- drawing K: the empty catalogue is refused with 1
pub drawing_K : reading [] ≡ refused 1
unfolding reading word catalogue_fault faults lease_faults record_fault
drawing_K = refl

-- where the header is due, an object of a lease's length is 2, and one of its own length 3
pub kind_before_place :
    (reading (8 ∷ 0 ∷ 2 ∷ 0 ∷ 0 ∷ 0 ∷ 0 ∷ 0 ∷ []) ≡ refused 2) × (reading (12 ∷ 0 ∷ 2 ∷ 0 ∷ 0 ∷ 0 ∷ 0 ∷ 0 ∷ 0 ∷ 0 ∷ 0 ∷ 0 ∷ []) ≡ refused 3)
unfolding reading word catalogue_fault faults lease_faults record_fault
kind_before_place = (refl, refl)
