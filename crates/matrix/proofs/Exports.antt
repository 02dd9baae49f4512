-- What the two export calls answer at each exit.
use mathlib.Core.Path.{◌≡◌, ap, sym, ◌∙◌}
use mathlib.Core.Bool.{Bool, true, false, not}
use mathlib.Core.List.{List}
use Prim.Native.Nat.{ℕ, ◌≤◌}
use native.Mathlib.Omega.{arith}
use lib.Dec.{eqb}
use lib.ListN.{length}
use borrow.Author.Tests.{eq-eqb, ne_eqb, not-false}
use Rattle.refusal.specs.declared.Refusal.{Refusal}
use Rattle.refusal.specs.Number.{number}
use Rattle.refusal.specs.Order.{raise}
use Rattle.refusal.proofs.None.{raise_none, first_none}
use Rattle.refusal.proofs.Numbers.{first_found}
use Rattle.graph.specs.Graph.{graph, well_formed}
use Rattle.graph.proofs.Formed.{formed}
use Rattle.desk.specs.Checks.{count_fault, graph_faults}
use Rattle.desk.specs.Kept.{unless_refused}
use Rattle.desk.proofs.Kept.{kept}
use Rattle.desk.proofs.Passed.{counted}
use Rattle.matrix.specs.Export.{exported, export_fault, bytes_after}
use Rattle.matrix.specs.Steps.{Exportable}

module _ (os ts : List ℕ) where
  pub exportable : graph_faults os ts ≡ 0 → Exportable (graph os ts)
  exportable z =
      let f = first_none (count_fault os ts) _ z in
      let n = counted os ts f.0 in
      record {
        formed = formed (graph os ts) (not-false _ (raise_none (not (well_formed (graph os ts))) 9 0 f.1).0);
        few = n.1;
        few_references = n.2;
      }

  pub some_object : graph_faults os ts ≡ 0 → 2 ≤ length os
  some_object z = omega (arith, counted os ts (first_none (count_fault os ts) _ z).0)

  -- ---- the text

  module _ (out : List ℕ) where
    refused : (r : Refusal) → number r ≡ export_fault os ts (length out) → (number r ≡ export_fault os ts (length out)) × (out ≡ bytes_after os ts out)
    refused r e = (e, kept r (exported (graph os ts)) out ∙ ap (λ (k : ℕ). unless_refused k (exported (graph os ts)) out) e)

    pub export_refused : (r : Refusal) → number r ≡ graph_faults os ts → (number r ≡ export_fault os ts (length out)) × (out ≡ bytes_after os ts out)
    unfolding export_fault
    export_refused r e = refused r (first_found r (graph_faults os ts) _ e)

    module _ (none : graph_faults os ts ≡ 0) where
      fault_is : (t : Bool) → eqb (length out) (length (exported (graph os ts))) ≡ t → export_fault os ts (length out) ≡ raise (not t) 7 0
      unfolding export_fault
      fault_is t e = rw (none, e)

      pub export_unfit : {k : ℕ} → k ≡ length (exported (graph os ts)) → (length out ≡ k → ⊥) → (7 ≡ export_fault os ts (length out)) × (out ≡ bytes_after os ts out)
      export_unfit e h =
          let f = fault_is false (ne_eqb (length out) (length (exported (graph os ts))) (λ z. h (z ∙ sym e))) in
          (sym f, sym (ap (λ (k : ℕ). unless_refused k (exported (graph os ts)) out) f))

      pub export_written : length out ≡ length (exported (graph os ts)) → {out' : List ℕ} → out' ≡ exported (graph os ts)
          → (0 ≡ export_fault os ts (length out)) × (out' ≡ bytes_after os ts out)
      export_written l e =
          let f = fault_is true (eq-eqb (length out) (length (exported (graph os ts))) l) in
          (sym f, e ∙ sym (ap (λ (k : ℕ). unless_refused k (exported (graph os ts)) out) f))
