-- What is known of names and texts once no check finds a fault.
use mathlib.Core.Path.{◌≡◌, refl}
use mathlib.Core.Bool.{Bool, true, not, ◌||◌}
use Prim.Native.Nat.{ℕ, zero, suc, ◌*◌, ◌<◌}
use native.Mathlib.Omega.{arith}
use lib.Dec.{eqb}
use lib.ListN.{length}
use borrow.Author.Tests.{eqb-true, eqb-false, not-false}
use Rattle.refusal.specs.Order.{raise}
use Rattle.refusal.proofs.None.{raise_none, first_none, or_none}
use Rattle.desk.specs.Checks.{objects_fault}
use Rattle.names.specs.Names.{Names, count, ascending, digital}
use Rattle.names.specs.Call.{Texts, names_misfit, misfit, ends_right, strange, unnamed, fault}

pub record Sound (N : Names) (T : Texts) : Type 0 where
  pub long : length N.bytes ≡ N.width * count N
  pub owned : length T.owners ≡ length T.ends
  pub right : ends_right 0 T.ends (length T.bytes) ≡ true
  pub some : 0 < N.width
  pub digits : digital N ≡ true
  pub ascends : ascending N ≡ true

positive : (w : ℕ) → (w ≡ 0 → ⊥) → 0 < w
positive zero h = absurd (h refl)
positive (suc w) h = omega arith

pub sound : (n : ℕ) (N : Names) (T : Texts) (ready : Bool) → fault n N T ready ≡ 0 → Sound N T × (ready ≡ true)
unfolding fault
sound n N T ready z =
    let a = first_none (objects_fault n) _ z in
    let b = first_none (raise (misfit N T ready) 7 0) _ a.1 in
    let c = first_none (raise (not (ends_right 0 T.ends (length T.bytes))) 10 0) _ b.1 in
    let d = first_none (raise (strange n N T) 5 0) _ c.1 in
    let r = or_none (names_misfit (length N.bytes) N.width (count N) || not (eqb (length T.owners) (length T.ends))) (not ready)
    (raise_none (misfit N T ready) 6 0 b.0).0
    in
    let m = or_none (names_misfit (length N.bytes) N.width (count N)) (not (eqb (length T.owners) (length T.ends))) r.0 in
    let u = or_none (eqb N.width 0 || not (digital N)) (not (ascending N)) (raise_none (unnamed N) 18 0 d.1).0 in
    let v = or_none (eqb N.width 0) (not (digital N)) u.0 in (
      record {
        long = eqb-true (length N.bytes) (N.width * count N) (not-false _ m.0);
        owned = eqb-true (length T.owners) (length T.ends) (not-false _ m.1);
        right = not-false _ (raise_none (not (ends_right 0 T.ends (length T.bytes))) 9 0 c.0).0;
        some = positive N.width (eqb-false N.width 0 v.0);
        digits = not-false _ v.1;
        ascends = not-false _ u.1;
      },
      not-false _ r.1,
    )
