-- SPECIFICATION 1 and 2: what the reader makes of any bytes, and the faults 1 to 6 and 13.
use Rattle.std.specs.Prelude.{List, [], ◌∷◌, ◌++◌, ◌≡◌, Bool, true, false, not, ◌||◌, ℕ, zero, suc, ◌+◌, ◌*◌, ◌-◌, ◌/◌, ◌≤◌, ◌<◌, length, drop, replicate, ltb, eqb}
use Rattle.laws.specs.Choice.{pick}
use Rattle.laws.specs.Words.{word}
use Rattle.refusal.specs.Order.{raise, first}
use Rattle.graph.specs.Limits.{most_objects, most_references, largest_size}
use Rattle.records.specs.Store.{Pair, Link, refers, names, stored, Store, most_leases}
use Rattle.records.specs.Layout.{header, object, reference, lease, subject, header_length, record_length, lease_length}

-- the little-endian number of so many bytes at a place
abbrev pub number : ℕ → ℕ → List ℕ → ℕ
number width place b = word width (drop place b)

-- of a record: its length and its kind; of a header: n, m and the index; of an object: its size; of a reference or a
-- subject: its two numbers; of a lease: its object
abbrev pub length_field : List ℕ → ℕ
length_field b = number 2 0 b

abbrev pub kind_field : List ℕ → ℕ
kind_field b = number 2 2 b

abbrev pub n_field : List ℕ → ℕ
n_field b = number 4 4 b

abbrev pub m_field : List ℕ → ℕ
m_field b = number 4 8 b

abbrev pub index_field : List ℕ → ℕ
index_field b = number 4 12 b

-- what a header says: n, m and the index
pub record Heads (b : List ℕ) (n m index : ℕ) : Type 0 where
  pub n_is : n ≡ n_field b
  pub m_is : m ≡ m_field b
  pub index_is : index ≡ index_field b

abbrev pub size_field : List ℕ → ℕ
size_field b = number 8 4 b

abbrev pub pair_field : List ℕ → Pair
pair_field b = record { from = number 4 4 b; to = number 4 8 b }

abbrev pub lease_field : List ℕ → ℕ
lease_field b = number 4 4 b

-- a reference or a subject, by its kind
abbrev pub link_field : List ℕ → Link
link_field b = pick (eqb (kind_field b) subject) (names (pair_field b)) (refers (pair_field b))

-- the reference that is stored for it
abbrev pub stored_field : List ℕ → Pair
stored_field b = stored (link_field b)

-- what a record is
pub data Kind : Type 0 where
  header_kind object_kind reference_kind lease_kind subject_kind unknown : Kind

-- by the number of its kind
abbrev pub kind_of : ℕ → Kind
kind_of zero = unknown
kind_of (suc zero) = header_kind
kind_of (suc (suc zero)) = object_kind
kind_of (suc (suc (suc zero))) = reference_kind
kind_of (suc (suc (suc (suc zero)))) = lease_kind
kind_of (suc (suc (suc (suc (suc zero))))) = subject_kind
kind_of (suc (suc (suc (suc (suc (suc k)))))) = unknown

-- 1: fewer than 4 bytes left for a record, or fewer than its length says
abbrev pub short : List ℕ → Bool
short b = ltb (length b) 4 || ltb (length b) (length_field b)

-- 2: kind unknown, or length not that of the kind
abbrev pub misfit : Kind → List ℕ → Bool
misfit header_kind b = not (eqb (length_field b) header_length)
misfit object_kind b = not (eqb (length_field b) record_length)
misfit reference_kind b = not (eqb (length_field b) record_length)
misfit lease_kind b = not (eqb (length_field b) lease_length)
misfit subject_kind b = not (eqb (length_field b) record_length)
misfit unknown b = true

-- what is due behind the most leases: no kind
abbrev pub nothing : ℕ
nothing = 0

-- 3: record of a known kind out of its place, or one too many; a subject may stand where a reference is due
abbrev pub misplaced : ℕ → Kind → Bool
misplaced due header_kind = not (eqb due header)
misplaced due object_kind = not (eqb due object)
misplaced due reference_kind = not (eqb due reference)
misplaced due lease_kind = not (eqb due nothing || eqb due lease)
misplaced due subject_kind = not (eqb due reference)
misplaced due unknown = false

-- 13: a lease behind the most leases
abbrev pub overfull : ℕ → Kind → Bool
overfull due header_kind = false
overfull due object_kind = false
overfull due reference_kind = false
overfull due lease_kind = eqb due nothing
overfull due subject_kind = false
overfull due unknown = false

-- 4: n or m outside its range
abbrev pub miscounted : Kind → List ℕ → Bool
miscounted header_kind b = ltb (n_field b) 1 || ltb most_objects (n_field b) || ltb most_references (m_field b)
miscounted object_kind b = false
miscounted reference_kind b = false
miscounted lease_kind b = false
miscounted subject_kind b = false
miscounted unknown b = false

-- 5: index, from, to or a lease's object not below n
abbrev pub misnamed : Kind → ℕ → List ℕ → Bool
misnamed header_kind n b = not (ltb (index_field b) (n_field b))
misnamed object_kind n b = false
misnamed reference_kind n b = not (ltb (pair_field b).from n) || not (ltb (pair_field b).to n)
misnamed lease_kind n b = not (ltb (lease_field b) n)
misnamed subject_kind n b = not (ltb (pair_field b).from n) || not (ltb (pair_field b).to n)
misnamed unknown n b = false

-- 6: a size above the largest
abbrev pub oversized : Kind → List ℕ → Bool
oversized header_kind b = false
oversized object_kind b = ltb largest_size (size_field b)
oversized reference_kind b = false
oversized lease_kind b = false
oversized subject_kind b = false
oversized unknown b = false

-- within one record the order is 1, 2, 3, 13, 4, 5, 6
abbrev pub contents_fault : Kind → ℕ → ℕ → List ℕ → ℕ
contents_fault k due n b =
    raise (misfit k b) 2
    (raise (misplaced due k) 3
    (raise (overfull due k) 13 (raise (miscounted k b) 4 (raise (misnamed k n b) 5 (raise (oversized k b) 6 0)))))

-- the fault of the record with which the bytes begin, where a kind is due and there are n objects; 0 for none
unfoldable pub record_fault : ℕ → ℕ → List ℕ → ℕ
record_fault due n b = raise (short b) 1 (contents_fault (kind_of (kind_field b)) due n b)

-- then nothing: what still stands behind the most leases is one too many, or no record at all
abbrev pub surplus_fault : ℕ → List ℕ → ℕ
surplus_fault n [] = 0
surplus_fault n (x ∷ b) = record_fault nothing n (x ∷ b)

-- how long a record of each kind is
abbrev pub length_of : Kind → ℕ
length_of header_kind = header_length
length_of object_kind = record_length
length_of reference_kind = record_length
length_of lease_kind = lease_length
length_of subject_kind = record_length
length_of unknown = 0

-- leases up to a number of them, to the end of the bytes
unfoldable pub lease_faults : ℕ → ℕ → List ℕ → ℕ
lease_faults n zero b = surplus_fault n b
lease_faults n (suc k) [] = 0
lease_faults n (suc k) (x ∷ b) = first (record_fault lease n (x ∷ b)) (lease_faults n k (drop lease_length (x ∷ b)))

-- the reader goes record by record, by the kinds that are due, and then come the leases
unfoldable pub faults : ℕ → List ℕ → List ℕ → ℕ
faults n [] b = lease_faults n most_leases b
faults n (due ∷ later) b = first (record_fault due n b) (faults n later (drop (length_of (kind_of due)) b))

-- after the header n objects are due, then m references, each of which may be a subject
abbrev pub dues : ℕ → ℕ → List ℕ
dues n m = replicate n object ++ replicate m reference

-- the kind that is due with so many records between it and the header
abbrev pub due_at : ℕ → ℕ → ℕ
due_at n i = pick (ltb i n) object reference

-- the records behind the header from one number up to another have no fault
abbrev pub Clear : ℕ → ℕ → ℕ → List ℕ → Type 0
Clear n from to b = (i : ℕ) → from ≤ i → i < to → record_fault (due_at n i) n (drop (header_length + record_length * i) b) ≡ 0

-- one header stands first
unfoldable pub catalogue_fault : List ℕ → ℕ
catalogue_fault b = faults (n_field b) (header ∷ dues (n_field b) (m_field b)) b

-- what so many records of a length say, one after the other
unfoldable pub records : {A : Type 0} → ℕ → (List ℕ → A) → ℕ → List ℕ → List A
records width f zero b = []
records width f (suc k) b = f b ∷ records width f k (drop width b)

-- where the leases begin
abbrev pub leases_at : ℕ → ℕ → ℕ
leases_at n m = header_length + record_length * n + record_length * m

-- how many leases stand from a place on, and which: the catalogue ends where its bytes end
abbrev pub lease_count : ℕ → List ℕ → ℕ
lease_count at b = (length b - at) / lease_length

abbrev pub leases_from : ℕ → List ℕ → List ℕ
leases_from at b = records lease_length lease_field (lease_count at b) (drop at b)

-- the store that the bytes tell, where they have no fault
unfoldable pub store_of : List ℕ → Store
store_of b =
    record {
      index = index_field b;
      sizes = records record_length size_field (n_field b) (drop header_length b);
      links = records record_length link_field (m_field b) (drop (header_length + record_length * n_field b) b);
      leases = leases_from (leases_at (n_field b) (m_field b)) b;
    }

-- a number of a refusal, or the store
pub data Reading : Type 0 where
  refused : ℕ → Reading
  accepted : Store → Reading

-- by the number of the first fault
abbrev pub judged : ℕ → Store → Reading
judged zero s = accepted s
judged (suc k) s = refused (suc k)

-- what the reader makes of bytes: the number of the first fault, or the store
unfoldable pub reading : List ℕ → Reading
reading b = judged (catalogue_fault b) (store_of b)
