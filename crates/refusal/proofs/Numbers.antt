-- A refusal's number is never 0; what a verdict's number says when the verdict is known.
use mathlib.Core.Path.{◌≡◌, ap, sym, ◌∙◌}
use Prim.Native.Nat.{ℕ, zero, suc, ◌<◌}
use native.Mathlib.Omega.{arith}
use Rattle.refusal.specs.declared.Refusal.{Refusal}
use Rattle.std.specs.Prelude.{Result, Ok, Err, IsErrAnd}
use Rattle.refusal.specs.declared.Refusal.TheVariants.{Short, Kind, Place, Count, Object, Size, Buffer, Setting, Schedule, Graph, Large, File, Starts, Saved, Cards, Seed, Marks, Text, Names}
use Rattle.refusal.specs.Number.{number, number_of}
use Rattle.refusal.specs.Order.{first}

-- no refusal has the number 0
pub numbered : (r : Refusal) → 0 < number r
numbered Short = omega arith
numbered Kind = omega arith
numbered Place = omega arith
numbered Count = omega arith
numbered Object = omega arith
numbered Size = omega arith
numbered Buffer = omega arith
numbered Setting = omega arith
numbered Schedule = omega arith
numbered Graph = omega arith
numbered Large = omega arith
numbered File = omega arith
numbered Starts = omega arith
numbered Saved = omega arith
numbered Cards = omega arith
numbered Seed = omega arith
numbered Marks = omega arith
numbered Text = omega arith
numbered Names = omega arith

-- a check that found no fault, and one that found one
module _ {A : Type 0} {v : Result A Refusal} {k : ℕ} (h : number_of v ≡ k) where
  pub when_fine : {x : A} → v ≡ Ok x → k ≡ 0
  when_fine e = sym h ∙ ap number_of e

  pub when_faulty : {r : Refusal} → v ≡ Err r → number r ≡ k
  when_faulty e = sym (ap number_of e) ∙ h

-- a refusal found first is the first of all
pub first_found : (r : Refusal) (k later : ℕ) → number r ≡ k → number r ≡ first k later
first_found r zero later h = absurd (omega (arith, h, numbered r))
first_found r (suc k) later h = h

-- an error that `?` passes on
pub passed_on : {A : Type 0} (x : Result A Refusal) (r : Refusal) → IsErrAnd x (λ e. e ≡ r) → x ≡ Err r
passed_on (Ok a) r h = absurd h
passed_on (Err e) r h = ap Err h
