-- The order of names: names of no order are the same, what is below is above the other way round, and a pass over two names decides it.
use Rattle.std.proofs.Common.{◌≡◌, ℕ, ◌+◌, ◌<◌, List, length, get_or, drop, arith, add-one, drop-cons}
use Rattle.std.specs.declared.cmp.Ordering.TheVariants.{Less, Equal, Greater}
use Rattle.std.specs.FinMap.{nat_cmp-IsAntisymmetric, slice_cmp-IsAntisymmetric}
use Rattle.std.proofs.lemmas.Cmp.{nat_list_cmp_total, tied_itself}
use Rattle.std.proofs.lemmas.Bool.Decides.{nat_tests}
use Rattle.names.specs.Names.{order}

-- nothing is below itself
pub below_other : (l m : List ℕ) → order l m ≡ Less → l ≡ m → ⊥
below_other l m h e = let s = tied_itself nat_list_cmp_total l in let g : order l m ≡ order l l = cc in cc

-- names of the same order are the same
pub order_same : (l m : List ℕ) → order l m ≡ Equal → l ≡ m
order_same = slice_cmp-IsAntisymmetric nat_cmp-IsAntisymmetric

-- what is above is below the other way round, and back
pub order_flip : (l m : List ℕ) → order l m ≡ Greater → order m l ≡ Less
order_flip l m h = rw (nat_list_cmp_total.antisymm m l, h)

pub order_back : (l m : List ℕ) → order m l ≡ Less → order l m ≡ Greater
order_back l m h = rw (nat_list_cmp_total.antisymm l m, h)

-- ---- a pass over two names: what is left decides

module _ (l m : List ℕ) (i : ℕ) where
  pub order_step : i < length l → i < length m → get_or l i 0 ≡ get_or m i 0 → order (drop (i + 1) l) (drop (i + 1) m) ≡ order (drop i l) (drop i m)
  order_step h g e = rw (add-one, drop-cons l i 0, drop-cons m i 0, e) (grind (arith, nat_tests))

  pub order_below : i < length l → i < length m → get_or l i 0 < get_or m i 0 → order (drop i l) (drop i m) ≡ Less
  order_below h g e = rw (drop-cons l i 0, drop-cons m i 0) (grind (arith, nat_tests))
