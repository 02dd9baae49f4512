-- SPECIFICATION 1 and 2: the kinds of records in the code, and their numbers.
use Rattle.std.specs.Prelude.{ℕ, zero, suc, Result, Ok, Err}
use Rattle.refusal.specs.declared.Refusal.{Refusal}
use Rattle.refusal.specs.declared.Refusal.TheVariants.{Kind as kind_refusal}
use Rattle.records.specs.declared.Kind.{Kind}
use Rattle.records.specs.declared.Kind.TheVariants.{Header, Object, Reference, Lease, Subject}
use Rattle.records.specs.Layout.{header, object, reference, lease, subject}

-- the number of a kind
abbrev pub kind_number : Kind → ℕ
kind_number Header = header
kind_number Object = object
kind_number Reference = reference
kind_number Lease = lease
kind_number Subject = subject

-- the kind with a number; where there is none, that is 2
abbrev pub decoded : ℕ → Result Kind Refusal
decoded zero = Err kind_refusal
decoded (suc zero) = Ok Header
decoded (suc (suc zero)) = Ok Object
decoded (suc (suc (suc zero))) = Ok Reference
decoded (suc (suc (suc (suc zero)))) = Ok Lease
decoded (suc (suc (suc (suc (suc zero))))) = Ok Subject
decoded (suc (suc (suc (suc (suc (suc k)))))) = Err kind_refusal
