-- The fault of one record, case by case.
use mathlib.Core.Path.{◌≡◌, refl, sym, ◌∙◌}
use mathlib.Core.List.{List}
use Prim.Native.Nat.{ℕ, zero, suc, ◌≤◌}
use native.Mathlib.Omega.{arith}
use borrow.Author.Tests.{le-ltb, eq-eqb}
use lib.ListN.{length}
use lib.Dec.{eqb}
use mathlib.Core.Bool.{false, not}
use Rattle.refusal.specs.Order.{raise}
use Rattle.records.specs.Layout.{header, object, reference, lease, subject}
use Rattle.records.specs.Reading.{Kind, header_kind, object_kind, reference_kind, lease_kind, subject_kind, unknown, kind_of, length_of}
use Rattle.records.specs.Reading.{length_field, kind_field}
use Rattle.records.specs.Reading.{misfit, misplaced, overfull, miscounted, misnamed, oversized, contents_fault, record_fault}

-- the faults 4 to 6 of a record
abbrev pub contents : Kind → ℕ → List ℕ → ℕ
contents k n b = raise (miscounted k b) 4 (raise (misnamed k n b) 5 (raise (oversized k b) 6 0))

-- the faults from 3 on, by where it stands and what it says
abbrev pub placed : Kind → ℕ → ℕ → List ℕ → ℕ
placed k due n b = raise (misplaced due k) 3 (raise (overfull due k) 13 (contents k n b))

-- the number of a kind, and d for an unknown one
abbrev pub number_for : Kind → ℕ → ℕ
number_for header_kind d = header
number_for object_kind d = object
number_for reference_kind d = reference
number_for lease_kind d = lease
number_for subject_kind d = subject
number_for unknown d = d

pub kind_number : (x : ℕ) → number_for (kind_of x) x ≡ x
kind_number zero = refl
kind_number (suc zero) = refl
kind_number (suc (suc zero)) = refl
kind_number (suc (suc (suc zero))) = refl
kind_number (suc (suc (suc (suc zero)))) = refl
kind_number (suc (suc (suc (suc (suc zero))))) = refl
kind_number (suc (suc (suc (suc (suc (suc x)))))) = refl

-- the record is there as far as its length says
pub whole : (due n : ℕ) (b : List ℕ) → 4 ≤ length b → length_field b ≤ length b
    → record_fault due n b ≡ contents_fault (kind_of (kind_field b)) due n b
unfolding record_fault
whole due n b h g = rw (le-ltb (length b) 4 h, le-ltb (length b) (length_field b) g)

-- a kind by its number: the length of its record, and what is due where it stands
pub record Known (x place : ℕ) (k : Kind) : Type 0 where
  pub kind_known : kind_of x ≡ k
  pub number_is : (d : ℕ) → number_for k d ≡ x
  pub four : 4 ≤ length_of k
  pub by_length : (b : List ℕ) → misfit k b ≡ not (eqb (length_field b) (length_of k))
  pub in_place : (misplaced place k ≡ false) × (overfull place k ≡ false)

pub as_header : Known header header header_kind
as_header = record { kind_known = refl; number_is = λ d. refl; four = omega arith; by_length = λ b. refl; in_place = (refl, refl) }

pub as_object : Known object object object_kind
as_object = record { kind_known = refl; number_is = λ d. refl; four = omega arith; by_length = λ b. refl; in_place = (refl, refl) }

pub as_reference : Known reference reference reference_kind
as_reference = record { kind_known = refl; number_is = λ d. refl; four = omega arith; by_length = λ b. refl; in_place = (refl, refl) }

pub as_lease : Known lease lease lease_kind
as_lease = record { kind_known = refl; number_is = λ d. refl; four = omega arith; by_length = λ b. refl; in_place = (refl, refl) }

pub as_subject : Known subject reference subject_kind
as_subject = record { kind_known = refl; number_is = λ d. refl; four = omega arith; by_length = λ b. refl; in_place = (refl, refl) }

-- a record whose kind is that one
pub record Sort (x place : ℕ) (k : Kind) (kind long : ℕ) (b : List ℕ) : Type 0 where
  pub known : Known x place k
  pub is : kind ≡ x
  pub length_is : long ≡ length_field b

-- from the kind on
module _ {x place : ℕ} {k : Kind} {kind long : ℕ} {b : List ℕ} (w : Sort x place k kind long b) (due n : ℕ) where
  module _ (h : long ≡ length_of k) where
    fits : misfit k b ≡ false
    fits = rw (w.known.by_length b, eq-eqb (length_field b) (length_of k) (sym w.length_is ∙ h))

    pub right_length : placed k due n b ≡ contents_fault (kind_of kind) due n b
    right_length = rw (w.is, w.known.kind_known, fits)

    pub right_frame : due ≡ place → contents k n b ≡ contents_fault (kind_of kind) due n b
    right_frame g =
        let e : placed k due n b ≡ contents k n b = rw (g, w.known.in_place.0, w.known.in_place.1) in
        sym e ∙ right_length
