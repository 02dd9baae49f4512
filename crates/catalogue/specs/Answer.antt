-- SPECIFICATION 1 and 2: the answers of the header call and of the reader, and the buffers afterwards.
use Rattle.std.specs.Prelude.{List, Bool, true, false, not, ◌||◌, ℕ, zero, suc, ◌+◌, ◌≡◌, length, eqb, Result, Ok, Err}
use Rattle.refusal.specs.Number.{number}
use Rattle.refusal.specs.declared.Refusal.{Refusal}
use Rattle.faults.specs.declared.Header.{Header}
use Rattle.catalogue.specs.declared.Found.{Found}
use Rattle.records.specs.Store.{Store, objects, references, offsets_of, targets_of, starts_of, start_words, padded}
use Rattle.records.specs.Layout.{header}
use Rattle.records.specs.Reading.{Reading, refused, accepted, reading, record_fault, n_field, m_field, index_field}

-- what the header call returns: a number, n, m and the index
pub record Row : Type 0 where
  pub refusal : ℕ
  pub n : ℕ
  pub m : ℕ
  pub index : ℕ

-- beside a refusal all other result fields are 0
abbrev pub refusal_row : ℕ → Row
refusal_row k = record { refusal = k; n = 0; m = 0; index = 0 }

-- the number and the values of each answer
abbrev pub row : Result Header Refusal → Row
row (Ok h) = record { refusal = 0; n = h.n; m = h.m; index = h.index }
row (Err r) = refusal_row (number r)

-- what a header says, by the number of its fault
abbrev pub header_values : ℕ → List ℕ → Row
header_values zero b = record { refusal = 0; n = n_field b; m = m_field b; index = index_field b }
header_values (suc k) b = refusal_row (suc k)

-- a header call reads only the header record and returns n, m and the index
unfoldable pub header_row : List ℕ → Row
header_row b = header_values (record_fault header (n_field b) b) b

-- what the reader returns: also how many starts there are
pub record ReadRow : Type 0 where
  pub refusal : ℕ
  pub n : ℕ
  pub m : ℕ
  pub index : ℕ
  pub starts : ℕ

-- beside a refusal all other result fields are 0
abbrev pub unread : ℕ → ReadRow
unread k = record { refusal = k; n = 0; m = 0; index = 0; starts = 0 }

-- the number and the values of each answer of the reader
abbrev pub found_row : Result Found Refusal → ReadRow
found_row (Ok f) = record { refusal = 0; n = f.n; m = f.m; index = f.index; starts = f.starts }
found_row (Err r) = unread (number r)

-- lengths are exact: n + 1 offsets, m targets, n sizes, and the words of the starts
abbrev pub misfits : ℕ → ℕ → ℕ → ℕ → ℕ → ℕ → Bool
misfits n m offsets targets sizes starts =
    not (eqb offsets (n + 1)) || not (eqb targets m) || not (eqb sizes n) || not (eqb starts start_words)

-- the same of a store's n and m
abbrev pub misfitting : Store → ℕ → ℕ → ℕ → ℕ → Bool
misfitting s offsets targets sizes starts = misfits (objects s) (references s) offsets targets sizes starts

-- 7: a buffer of another length
abbrev pub lent_to : Bool → Store → Reading
lent_to true s = refused 7
lent_to false s = accepted s

-- 7 comes after the whole catalogue
abbrev pub lent : Reading → ℕ → ℕ → ℕ → ℕ → Reading
lent (refused k) offsets targets sizes starts = refused k
lent (accepted s) offsets targets sizes starts = lent_to (misfitting s offsets targets sizes starts) s

-- the answer to what was made of the bytes
abbrev pub read_row : Reading → ReadRow
read_row (refused k) = unread k
read_row (accepted s) =
    record { refusal = 0; n = objects s; m = references s; index = s.index; starts = length (starts_of s) }

-- every lent word afterwards: unchanged beside a refusal
abbrev pub offsets_after : Reading → List ℕ → List ℕ
offsets_after (refused k) before = before
offsets_after (accepted s) before = offsets_of s

abbrev pub targets_after : Reading → List ℕ → List ℕ
targets_after (refused k) before = before
targets_after (accepted s) before = targets_of s

abbrev pub sizes_after : Reading → List ℕ → List ℕ
sizes_after (refused k) before = before
sizes_after (accepted s) before = s.sizes

abbrev pub starts_after : Reading → List ℕ → List ℕ
starts_after (refused k) before = before
starts_after (accepted s) before = padded (starts_of s)

-- what the reader makes of the bytes and the lent lengths
abbrev pub taken : List ℕ → List ℕ → List ℕ → List ℕ → List ℕ → Reading
taken b offsets targets sizes starts = lent (reading b) (length offsets) (length targets) (length sizes) (length starts)

-- what the reader returns, and every lent word afterwards
pub record Reads (b o t s w : List ℕ) (r : ReadRow) (o' t' s' w' : List ℕ) : Type 0 where
  pub returned : r ≡ read_row (taken b o t s w)
  pub offsets_are : o' ≡ offsets_after (taken b o t s w) o
  pub targets_are : t' ≡ targets_after (taken b o t s w) t
  pub sizes_are : s' ≡ sizes_after (taken b o t s w) s
  pub starts_are : w' ≡ starts_after (taken b o t s w) w
