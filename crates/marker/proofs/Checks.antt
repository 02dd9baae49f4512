-- The number of the first fault, by what the checks answer.
use mathlib.Core.Path.{◌≡◌}
use mathlib.Core.Bool.{true, false}
use lib.ListN.{length}
use Rattle.refusal.specs.declared.Refusal.{Refusal}
use Rattle.refusal.specs.declared.Refusal.TheVariants.{Setting, Count, Buffer, Schedule}
use Rattle.std.specs.Prelude.{Ok, Err}
use Rattle.refusal.specs.Number.{number}
use Rattle.refusal.proofs.Numbers.{first_found}
use Rattle.graph.specs.Graph.{objects}
use Rattle.desk.specs.declared.Lengths.{Lengths}
use Rattle.desk.specs.Checks.{settings_outside, counts_outside, lengths_wrong, store_fault, schedule_fits}
use Rattle.machine.specs.Call.{Call, graph_of, first_fault}
use Rattle.marker.specs.Answer.{Finds}

module _ {A : Type 0} {c : Call} {l : Lengths} where
  pub finds_8 : settings_outside c.workers c.batch c.cutoff ≡ true → Finds {A = A} (Err Setting) c l
  unfolding first_fault
  finds_8 e = record { number_is = rw e }

  module _ (e₈ : settings_outside c.workers c.batch c.cutoff ≡ false) where
    pub finds_4 : counts_outside (objects (graph_of c)) (length c.targets) ≡ true → Finds {A = A} (Err Count) c l
    unfolding first_fault
    finds_4 e = record { number_is = rw (e₈, e) }

    module _ (e₄ : counts_outside (objects (graph_of c)) (length c.targets) ≡ false) where
      pub finds_7 : lengths_wrong (objects (graph_of c)) c.workers l ≡ true → Finds {A = A} (Err Buffer) c l
      unfolding first_fault
      finds_7 e = record { number_is = rw (e₈, e₄, e) }

      module _ (e₇ : lengths_wrong (objects (graph_of c)) c.workers l ≡ false) where
        -- 10, 13 or 5
        pub finds_store : (r : Refusal) → number r ≡ store_fault c.offsets c.targets c.starts → Finds {A = A} (Err r) c l
        unfolding first_fault
        finds_store r e = record { number_is = rw (e₈, e₄, e₇) (first_found r _ _ e) }

        module _ (e₁₀ : store_fault c.offsets c.targets c.starts ≡ 0) where
          pub finds_9 : schedule_fits c.workers c.schedule ≡ false → Finds {A = A} (Err Schedule) c l
          unfolding first_fault
          finds_9 e = record { number_is = rw (e₈, e₄, e₇, e₁₀, e) }

          pub finds_none : schedule_fits c.workers c.schedule ≡ true → {x : A} → Finds (Ok x) c l
          unfolding first_fault
          finds_none e {x} = record { number_is = rw (e₈, e₄, e₇, e₁₀, e) }
