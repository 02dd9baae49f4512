-- Adding and taking out answer the number of what the checks find.
use mathlib.Core.Path.{◌≡◌, sym, ◌∙◌}
use mathlib.Core.List.{List}
use Prim.Native.Nat.{ℕ}
use Rattle.std.specs.Prelude.{Result}
use Rattle.refusal.specs.declared.Refusal.{Refusal}
use Rattle.refusal.specs.Number.{number_of}
use Rattle.updates.specs.Call.{Adds, Removes}
use Rattle.kullneyra.specs.Calls.{AddsIn, RemovesIn}

module _ {os ts a b B P M W B' P' M' W' : List ℕ} {v : Result (Unit {0}) Refusal} {r : ℕ} where
  pub adds_in : Adds os ts a b B P M W v B' P' M' W' → r ≡ number_of v → AddsIn os ts a b B P M W B' P' M' W' r
  adds_in x e =
      let n = e ∙ x.number_is in
      record {
        answers = n;
        store_is = λ z. x.store_is (sym n ∙ z);
        marks_are = λ z. x.marks_are (sym n ∙ z);
        promise = λ z. x.promise (sym n ∙ z);
        work_left = λ z. x.work_left (sym n ∙ z);
        unchanged = λ k z. x.unchanged k (sym n ∙ z);
      }

  pub removes_in : Removes os ts a b B P M W v B' P' M' W' → r ≡ number_of v → RemovesIn os ts a b B P M W B' P' M' W' r
  removes_in x e =
      let n = e ∙ x.number_is in
      record {
        answers = n;
        store_is = λ z. x.store_is (sym n ∙ z);
        marks_are = λ z. x.marks_are (sym n ∙ z);
        promise = λ z. x.promise (sym n ∙ z);
        work_left = λ z. x.work_left (sym n ∙ z);
        unchanged = λ k z. x.unchanged k (sym n ∙ z);
      }
