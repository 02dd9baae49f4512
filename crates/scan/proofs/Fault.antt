-- The checks in their order: which number each gives.
use Rattle.std.proofs.Common.{◌≡◌, ℕ, Bool, true, false, length, eq-eqb, ne_eqb}
use Rattle.graph.specs.Graph.{all_below}
use Rattle.graph.specs.Limits.{most_objects}
use Rattle.desk.specs.Checks.{outside}
use Rattle.names.specs.Names.{Names, count, ascending, digital}
use Rattle.names.specs.Call.{Texts, names_misfit, ends_right, fault}

module _ (n : ℕ) (N : Names) (T : Texts) (ready : Bool) where
  pub fault_count : outside most_objects n ≡ true → fault n N T ready ≡ 4
  unfolding fault
  fault_count e = rw e

  module _ (c : outside most_objects n ≡ false) where
    pub fault_names : names_misfit (length N.bytes) N.width (count N) ≡ true → fault n N T ready ≡ 7
    unfolding fault
    fault_names e = rw (c, e)

    module _ (m : names_misfit (length N.bytes) N.width (count N) ≡ false) where
      pub fault_owners : (length T.owners ≡ length T.ends → ⊥) → fault n N T ready ≡ 7
      unfolding fault
      fault_owners e = rw (c, m, ne_eqb (length T.owners) (length T.ends) e)

      module _ (o : length T.owners ≡ length T.ends) where
        pub fault_work : ready ≡ false → fault n N T ready ≡ 7
        unfolding fault
        fault_work e = rw (c, m, eq-eqb (length T.owners) (length T.ends) o, e)

        module _ (k : ready ≡ true) where
          pub fault_ends : ends_right 0 T.ends (length T.bytes) ≡ false → fault n N T ready ≡ 10
          unfolding fault
          fault_ends e = rw (c, m, eq-eqb (length T.owners) (length T.ends) o, k, e)

          module _ (r : ends_right 0 T.ends (length T.bytes) ≡ true) where
            pub fault_named : all_below n N.objects ≡ false → fault n N T ready ≡ 5
            unfolding fault
            fault_named e = rw (c, m, eq-eqb (length T.owners) (length T.ends) o, k, r, e)

            module _ (a : all_below n N.objects ≡ true) where
              pub fault_owned : all_below n T.owners ≡ false → fault n N T ready ≡ 5
              unfolding fault
              fault_owned e = rw (c, m, eq-eqb (length T.owners) (length T.ends) o, k, r, a, e)

              module _ (b : all_below n T.owners ≡ true) where
                pub fault_width : N.width ≡ 0 → fault n N T ready ≡ 19
                unfolding fault
                fault_width e = rw (c, m, eq-eqb (length T.owners) (length T.ends) o, k, r, a, b, eq-eqb N.width 0 e)

                module _ (w : N.width ≡ 0 → ⊥) where
                  pub fault_digits : digital N ≡ false → fault n N T ready ≡ 19
                  unfolding fault
                  fault_digits e = rw (c, m, eq-eqb (length T.owners) (length T.ends) o, k, r, a, b, ne_eqb N.width 0 w, e)

                  module _ (d : digital N ≡ true) where
                    pub fault_order : ascending N ≡ false → fault n N T ready ≡ 19
                    unfolding fault
                    fault_order e = rw (c, m, eq-eqb (length T.owners) (length T.ends) o, k, r, a, b, ne_eqb N.width 0 w, d, e)

                    pub fault_free : ascending N ≡ true → fault n N T ready ≡ 0
                    unfolding fault
                    fault_free e = rw (c, m, eq-eqb (length T.owners) (length T.ends) o, k, r, a, b, ne_eqb N.width 0 w, d, e)
