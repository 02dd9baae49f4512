-- A bag computed: 23 objects, added from 0 to 22, as the code leaves it. 23 is 10111 in binary, so the slots 0, 1, 2 and 4 have a
-- pennant. And what the full adder does with slots of one size.
use Rattle.std.specs.Prelude.{◌≡◌, refl, List, [], ◌∷◌, map, ℕ, Option, None, Some}
use Rattle.bag.specs.Bag.{slot_count, tree_of, pennant_of, contents_from, contents, filled, digits}
use Rattle.bag.specs.declared.Bag.{Bag}
use Rattle.bag.specs.Adder.{sum_of, carry_of}

abbrev pub links : List ℕ
links = 8 ∷ 0 ∷ 0 ∷ 0 ∷ 3 ∷ 1 ∷ 0 ∷ 0 ∷ 6 ∷ 2 ∷ 0 ∷ 0 ∷ 7 ∷ 5 ∷ 0 ∷ 0 ∷ 12 ∷ 4 ∷ 0 ∷ 0 ∷ 11 ∷ 9 ∷ 0 ∷ 0 ∷ 14 ∷ 10 ∷ 0 ∷ 0 ∷ 15 ∷ 13 ∷ 0 ∷ 0 ∷ 18 ∷ 0 ∷ 0 ∷ 0 ∷ 19 ∷ 17 ∷ 0 ∷ 0 ∷ 21 ∷ 0 ∷ 0 ∷ 0 ∷ 0 ∷ 0 ∷ []

abbrev pub bag : Bag
bag =
    record {
      slots = Some 22 ∷ Some 20 ∷ Some 16 ∷ None ∷ Some 0 ∷ None ∷ None ∷ None ∷ None ∷ None ∷ None ∷ None ∷ None ∷ None ∷ None ∷ None ∷ None ∷ [];
      size = 23;
    }

pub contents_hold : contents links bag
    ≡ 22 ∷ 20 ∷ 21 ∷ 16 ∷ 18 ∷ 19 ∷ 17 ∷ 0 ∷ 8 ∷ 12 ∷ 14 ∷ 15 ∷ 13 ∷ 10 ∷ 11 ∷ 9 ∷ 4 ∷ 6 ∷ 7 ∷ 5 ∷ 2 ∷ 3 ∷ 1 ∷ []
unfolding contents_from pennant_of tree_of
contents_hold = refl

pub slots_hold : map filled bag.slots ≡ digits slot_count bag.size
unfolding digits
slots_hold = refl

-- the pennant of size 4 in slot 2: a root, and below its left link the tree of the other three
pub pennant_holds : pennant_of 2 links 16 ≡ 16 ∷ 18 ∷ 19 ∷ 17 ∷ []
unfolding pennant_of tree_of
pennant_holds = refl

-- three slots
pub record Added : Type 0 where
  pub first : Option ℕ
  pub second : Option ℕ
  pub third : Option ℕ
  pub here : Option ℕ
  pub carry : Option ℕ

abbrev pub added : Option ℕ → Option ℕ → Option ℕ → Option ℕ → Option ℕ → Added
added x y z here carry = record { first = x; second = y; third = z; here = here; carry = carry }

-- the table of the full adder
abbrev pub table : List Added
table =
    added None None None None None
    ∷ added (Some 4) None None (Some 4) None
    ∷ added None (Some 5) None (Some 5) None
    ∷ added None None (Some 6) (Some 6) None
    ∷ added (Some 4) (Some 5) None None (Some 4)
    ∷ added (Some 4) None (Some 6) None (Some 4)
    ∷ added None (Some 5) (Some 6) None (Some 5)
    ∷ added (Some 4) (Some 5) (Some 6) (Some 4) (Some 5)
    ∷ []

pub table_holds : map (λ (a : Added). added a.first a.second a.third (sum_of a.first a.second a.third) (carry_of a.first a.second a.third)) table ≡ table
unfolding sum_of carry_of
table_holds = refl
