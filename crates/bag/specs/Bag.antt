-- SPECIFICATION 11.1: the bag. Each object has two links among the lent words. A pennant of size 2^k is a root, whose left link leads to a
-- complete tree of the other objects; the root has no right child. Slot k of a bag has the root of a pennant of size 2^k, or none.
use Rattle.std.specs.Prelude.{◌≡◌, List, [], ◌∷◌, ◌++◌, map, ℕ, zero, suc, ◌+◌, ◌*◌, ◌/◌, ◌%◌, ◌≤◌, ◌<◌, length, get_or, set, replicate, Option, None, Some}
use Rattle.laws.specs.Sum.{sum, hit}
use Rattle.bag.specs.declared.Bag.{Bag}

-- how many slots a bag has: 2^17 is above the number of objects of any store
abbrev pub slot_count : ℕ
slot_count = 17

-- one more than the most objects that 17 slots hold
abbrev pub bag_limit : ℕ
bag_limit = 131072

-- the most link words: two for each of 65,536 objects
abbrev pub most_links : ℕ
most_links = 131072

-- how often an object stands in a list
abbrev pub times : ℕ → List ℕ → ℕ
times v l = sum (hit v) l

-- an object's two links
abbrev pub left_of : List ℕ → ℕ → ℕ
left_of links v = get_or links (2 * v) 0

abbrev pub right_of : List ℕ → ℕ → ℕ
right_of links v = get_or links (2 * v + 1) 0

-- the objects of a complete tree of height h
unfoldable pub tree_of : ℕ → List ℕ → ℕ → List ℕ
tree_of zero links x = []
tree_of (suc h) links x = x ∷ (tree_of h links (left_of links x) ++ tree_of h links (right_of links x))

-- the objects of a pennant of size 2^k
unfoldable pub pennant_of : ℕ → List ℕ → ℕ → List ℕ
unfolding tree_of
pennant_of k links x = x ∷ tree_of k links (left_of links x)

-- the objects of slot k
abbrev pub slot_of : ℕ → List ℕ → Option ℕ → List ℕ
slot_of k links None = []
slot_of k links (Some x) = pennant_of k links x

-- the objects of the slots from number k on
unfoldable pub contents_from : ℕ → List ℕ → List (Option ℕ) → List ℕ
unfolding pennant_of
contents_from k links [] = []
contents_from k links (s ∷ slots) = slot_of k links s ++ contents_from (suc k) links slots

-- the contents of a bag
abbrev pub contents : List ℕ → Bag → List ℕ
contents links bag = contents_from 0 links bag.slots

-- 1 for a slot that has a pennant
abbrev pub filled : Option ℕ → ℕ
filled None = 0
filled (Some x) = 1

-- the k lowest binary digits of a number, the lowest first
unfoldable pub digits : ℕ → ℕ → List ℕ
digits zero n = []
digits (suc k) n = n % 2 ∷ digits k (n / 2)

-- a bag without objects
abbrev pub empty : Bag
empty = record { slots = replicate slot_count None; size = 0 }

-- ---- what is promised

-- the object has its two links among the words
abbrev pub HasLinks : List ℕ → ℕ → Type 0
HasLinks links v = 2 * v + 1 < length links

-- a bag as it should be: each object is in it once at most, and has links; its size is how many there are
pub record IsBag (links : List ℕ) (bag : Bag) : Type 0 where
  pub once : (v : ℕ) → times v (contents links bag) ≤ 1
  pub linked : (v : ℕ) → 0 < times v (contents links bag) → HasLinks links v
  pub few : length links ≤ most_links
  pub slots_are : length bag.slots ≡ slot_count
  pub counted : bag.size ≡ length (contents links bag)

-- an object has the same links in other words
abbrev pub Same : List ℕ → List ℕ → ℕ → Type 0
Same links links' v = (left_of links' v ≡ left_of links v) × (right_of links' v ≡ right_of links v)

-- an object can be added: it is not in the bag, and there is room
pub record Addable (links : List ℕ) (bag : Bag) (x : ℕ) : Type 0 where
  pub sound : IsBag links bag
  pub new : times x (contents links bag) ≡ 0
  pub linked : HasLinks links x
  pub room : length (contents links bag) + 1 < bag_limit

-- a bag afterwards: its contents by how often each object was in what went into it, and how many those were
pub record Becomes (links : List ℕ) (was : ℕ → ℕ) (size : ℕ) (links' : List ℕ) (bag' : Bag) : Type 0 where
  pub sound : IsBag links' bag'
  pub holds : (v : ℕ) → times v (contents links' bag') ≡ was v
  pub sized : length (contents links' bag') ≡ size
  -- the slots with a pennant are the binary digits of the size
  pub binary : map filled bag'.slots ≡ digits slot_count size
  pub long : length links' ≡ length links
  -- the links of every other object are left alone
  pub others : (v : ℕ) → times v (contents links' bag') ≡ 0 → Same links links' v

-- after adding: the object and what was there; like adding one
abbrev pub Adds : List ℕ → Bag → ℕ → List ℕ → Bag → Type 0
Adds links bag x links' bag' =
    Becomes links (λ (v : ℕ). hit v x + times v (contents links bag)) (length (contents links bag) + 1) links' bag'

-- two bags can be joined: no object is in both, and there is room
pub record Joinable (links : List ℕ) (bag other : Bag) : Type 0 where
  pub first : IsBag links bag
  pub second : IsBag links other
  pub apart : (v : ℕ) → times v (contents links bag) + times v (contents links other) ≤ 1
  pub room : length (contents links bag) + length (contents links other) < bag_limit

-- after joining: the first has the objects of both, like adding the two numbers, and the second has none
pub record Joins (links : List ℕ) (bag other : Bag) (links' : List ℕ) (bag' other' : Bag) : Type 0 where
  pub joined : Becomes links (λ (v : ℕ). times v (contents links bag) + times v (contents links other))
      (length (contents links bag) + length (contents links other)) links' bag'
  pub emptied : other' ≡ empty

-- ---- uniting two pennants

-- y's right link is x's left one, and x's left link is y: x is the root of both pennants' objects
abbrev pub united : List ℕ → ℕ → ℕ → List ℕ
united links x y = set (set links (2 * y + 1) (left_of links x)) (2 * x) y
