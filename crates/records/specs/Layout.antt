-- SPECIFICATION 1: a store written as bytes.
use mathlib.Core.List.{List, ◌++◌, flat_map}
use Rattle.std.specs.Prelude.{ℕ}
use Rattle.laws.specs.Words.{le}
use Rattle.records.specs.Store.{Pair, Link, refers, names, Store, objects, references}

-- the kinds of records
abbrev pub header : ℕ
header = 1

abbrev pub object : ℕ
object = 2

abbrev pub reference : ℕ
reference = 3

abbrev pub lease : ℕ
lease = 4

abbrev pub subject : ℕ
subject = 5

-- the length of a header's record, of an object's, a reference's or a subject's, and of a lease's
abbrev pub header_length : ℕ
header_length = 16

abbrev pub record_length : ℕ
record_length = 12

abbrev pub lease_length : ℕ
lease_length = 8

-- a record is a length (2 bytes, the whole record counted), a kind (2 bytes) and contents
abbrev pub record_of : ℕ → ℕ → List ℕ → List ℕ
record_of long kind contents = le 2 long ++ (le 2 kind ++ contents)

-- header: objects n, references m, index object (4 bytes each)
abbrev pub header_record : Store → List ℕ
header_record s = record_of header_length header (le 4 (objects s) ++ (le 4 (references s) ++ le 4 s.index))

-- object: size in bytes (8)
abbrev pub object_record : ℕ → List ℕ
object_record size = record_of record_length object (le 8 size)

-- reference: from, to (4 bytes each); subject: from, the naming object, and to, its subject
abbrev pub pair_record : ℕ → Pair → List ℕ
pair_record kind p = record_of record_length kind (le 4 p.from ++ le 4 p.to)

abbrev pub link_record : Link → List ℕ
link_record (refers p) = pair_record reference p
link_record (names p) = pair_record subject p

-- lease: the object (4)
abbrev pub lease_record : ℕ → List ℕ
lease_record v = record_of lease_length lease (le 4 v)

-- one header stands first, then n objects, numbered from 0, then m references and subjects, then the leases, and there it ends
unfoldable pub layout : Store → List ℕ
layout s =
    header_record s
    ++ (flat_map object_record s.sizes ++ (flat_map link_record s.links ++ flat_map lease_record s.leases))
