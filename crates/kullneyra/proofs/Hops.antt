-- The hop counts' call answers the number of what the checks find.
use mathlib.Core.Path.{◌≡◌, sym, ◌∙◌}
use mathlib.Core.List.{List}
use Prim.Native.Nat.{ℕ}
use Rattle.std.specs.Prelude.{Result}
use Rattle.refusal.specs.declared.Refusal.{Refusal}
use Rattle.refusal.specs.Number.{number_of}
use Rattle.hops.specs.Call.{Answered}
use Rattle.kullneyra.specs.Calls.{HopsIn}

pub hops_in : {os ts ss H W H' W' : List ℕ} {v : Result (Unit {0}) Refusal} {r : ℕ} → Answered os ts ss H W v H' W' → r ≡ number_of v → HopsIn os ts ss H W H' W' r
hops_in a e =
    let n = e ∙ a.number_is in
    record {
      answers = n;
      counted = λ z. a.counted (sym n ∙ z);
      work_left = λ z. a.work_left (sym n ∙ z);
      unchanged = λ k z. a.unchanged k (sym n ∙ z);
    }
