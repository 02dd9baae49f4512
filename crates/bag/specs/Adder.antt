-- SPECIFICATION 11.1: the full adder on three slots of one size: what stays in the slot, what is carried, and the links.
use Rattle.std.specs.Prelude.{◌≡◌, ℕ, List, Option, None, Some}
use Rattle.bag.specs.Bag.{HasLinks, united}

-- a slot is empty, or its root has links
abbrev pub Rooted : List ℕ → Option ℕ → Type 0
Rooted links None = Unit {0}
Rooted links (Some x) = HasLinks links x

-- what the adder asks of three slots
pub record Unitable (links : List ℕ) (x y z : Option ℕ) : Type 0 where
  pub first : Rooted links x
  pub second : Rooted links y
  pub third : Rooted links z

-- what stays in the slot
unfoldable pub sum_of : Option ℕ → Option ℕ → Option ℕ → Option ℕ
sum_of None None z = z
sum_of None (Some y) None = Some y
sum_of None (Some y) (Some z) = None
sum_of (Some x) None None = Some x
sum_of (Some x) None (Some z) = None
sum_of (Some x) (Some y) None = None
sum_of (Some x) (Some y) (Some z) = Some x

-- what goes to the next slot
unfoldable pub carry_of : Option ℕ → Option ℕ → Option ℕ → Option ℕ
carry_of None None z = None
carry_of None (Some y) None = None
carry_of None (Some y) (Some z) = Some y
carry_of (Some x) None None = None
carry_of (Some x) None (Some z) = Some x
carry_of (Some x) (Some y) None = Some x
carry_of (Some x) (Some y) (Some z) = Some y

-- the links: of three pennants the last two are united
unfoldable pub links_of : List ℕ → Option ℕ → Option ℕ → Option ℕ → List ℕ
links_of links None None z = links
links_of links None (Some y) None = links
links_of links None (Some y) (Some z) = united links y z
links_of links (Some x) None None = links
links_of links (Some x) None (Some z) = united links x z
links_of links (Some x) (Some y) None = united links x y
links_of links (Some x) (Some y) (Some z) = united links y z

-- what the adder answers, and the links afterwards
pub record Sums (links : List ℕ) (x y z here carry : Option ℕ) (links' : List ℕ) : Type 0 where
  pub here_is : here ≡ sum_of x y z
  pub carry_is : carry ≡ carry_of x y z
  pub links_are : links' ≡ links_of links x y z
