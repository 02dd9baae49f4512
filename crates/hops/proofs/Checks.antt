-- The checks of the call in their order, and what it promises at each exit.
use mathlib.Core.Path.{◌≡◌, refl, sym}
use mathlib.Core.Bool.{Bool, true, false, not, ◌||◌}
use mathlib.Core.List.{List}
use Prim.Native.Nat.{ℕ, ◌-◌}
use native.Mathlib.Omega.{arith}
use lib.Dec.{eqb}
use lib.ListN.{length}
use borrow.Author.Tests.{eqb-true, not-false}
use Rattle.refusal.specs.declared.Refusal.{Refusal}
use Rattle.refusal.specs.declared.Refusal.TheVariants.{Count, Buffer}
use Rattle.std.specs.Prelude.{Result, Ok, Err}
use Rattle.refusal.specs.Number.{number_of}
use Rattle.refusal.specs.Order.{raise}
use Rattle.refusal.proofs.None.{raise_none, first_none, or_none}
use Rattle.refusal.proofs.Numbers.{numbered}
use Rattle.graph.specs.Graph.{graph, objects}
use Rattle.desk.specs.Checks.{counts_outside, count_fault, store_fault}
use Rattle.desk.proofs.Passed.{counted, stored}
use Rattle.layers.specs.Hops.{HopsOf, LinksLeft}
use Rattle.layers.specs.Search.{Searchable}
use Rattle.hops.specs.Call.{work_words, fault, Finds, Answered}

abbrev pub Buffer? : ℕ → ℕ → ℕ → Bool
Buffer? n hops work = not (eqb hops n) || not (eqb work (work_words n))

module _ {os ts ss : List ℕ} {h w : ℕ} where
  pub finds_4 : counts_outside (objects (graph os ts)) (length ts) ≡ true → Finds (Err Count) os ts ss h w
  unfolding fault
  finds_4 e = record { number_is = rw e }

  module _ (e₄ : counts_outside (objects (graph os ts)) (length ts) ≡ false) where
    pub finds_7 : Buffer? (length os - 1) h w ≡ true → Finds (Err Buffer) os ts ss h w
    unfolding fault
    finds_7 e = record { number_is = rw (e₄, e) }

    -- 10, 13, 5 or none
    pub finds_store : Buffer? (length os - 1) h w ≡ false → {v : Result (Unit {0}) Refusal} → number_of v ≡ store_fault os ts ss → Finds v os ts ss h w
    unfolding fault
    finds_store e₇ e = record { number_is = rw (e₄, e₇) e }

-- ---- a call without a fault can be searched

module _ (os ts ss H W : List ℕ) where
  searchable : fault os ts ss (length H) (length W) ≡ 0 → Searchable (graph os ts) ss H W
  unfolding fault
  searchable z =
      let a = first_none (count_fault os ts) _ z in
      let b = first_none (raise (Buffer? (length os - 1) (length H) (length W)) 7 0) _ a.1 in
      let s = stored os ts ss b.1 in
      let buffers = or_none (not (eqb (length H) (length os - 1))) (not (eqb (length W) (work_words (length os - 1))))
      (raise_none (Buffer? (length os - 1) (length H) (length W)) 6 0 b.0).0 in
      record {
        formed = s.formed;
        few = (counted os ts a.0).1;
        sizes = eqb-true _ _ (not-false _ buffers.0);
        linked = eqb-true _ _ (not-false _ buffers.1);
        inside = s.inside;
      }

-- by what the checks find
module _ {os ts ss : List ℕ} (H W : List ℕ) where
  pub answered_refused : {cause : Refusal} → Finds (Err cause) os ts ss (length H) (length W) → Answered os ts ss H W (Err cause) H W
  answered_refused {cause} found =
      record {
        number_is = found.number_is;
        counted = λ z. absurd (omega (arith, numbered cause, found.number_is));
        work_left = λ z. absurd (omega (arith, numbered cause, found.number_is));
        unchanged = λ k z. (refl, refl);
      }

  module _ {x : Unit {0}} (found : Finds (Ok x) os ts ss (length H) (length W)) where
    pub found_searchable : Searchable (graph os ts) ss H W
    found_searchable = searchable os ts ss H W (sym found.number_is)

    pub answered_fine : {y : Unit {0}} {H' W' : List ℕ} → HopsOf (graph os ts) ss H' × LinksLeft H' W W' → Answered os ts ss H W (Ok y) H' W'
    answered_fine h =
        record {
          number_is = found.number_is;
          counted = λ z. h.0;
          work_left = λ z. h.1;
          unchanged = λ k z. absurd (omega (arith, found.number_is));
        }
