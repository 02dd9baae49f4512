-- SPECIFICATION 11.2: the search by layers. Layer d is a bag of exactly the objects with d hops; from each object that its references lead to
-- and that has no count yet, the next layer is made.
use Rattle.std.specs.Prelude.{◌≡◌, true, List, ◌≢◌, ℕ, suc, ◌+◌, ◌*◌, ◌≤◌, ◌<◌, length}
use Rattle.laws.specs.Sum.{sum, hit}
use Rattle.bag.specs.declared.Bag.{Bag}
use Rattle.bag.specs.Bag.{IsBag, Same, times, contents}
use Rattle.graph.specs.Graph.{Graph, Leaves, objects, target, all_below}
use Rattle.graph.specs.Formed.{Formed}
use Rattle.graph.specs.Leaving.{leaving_sum}
use Rattle.graph.specs.Limits.{most_objects}
use Rattle.layers.specs.Hops.{none, hop_of, Chain}

-- how many references of u lead to v
abbrev pub leads_to : Graph → ℕ → ℕ → ℕ
leads_to G v u = leaving_sum G (λ (e : ℕ). hit v (target G e)) u

-- how many objects have no count yet
abbrev pub unknown : List ℕ → ℕ
unknown hops = sum (hit none) hops

-- a bag can be filled: no object in it is one without a count, and there is room for all of these
pub record Growable (hop : ℕ) (hops links : List ℕ) (bag : Bag) : Type 0 where
  pub sound : IsBag links bag
  pub linked : length links ≡ 2 * length hops
  pub few : length hops ≤ most_objects
  pub apart : (v : ℕ) → times v (contents links bag) + hit none (hop_of hops v) ≤ 1
  pub room : length (contents links bag) + unknown hops ≤ length hops
  pub low : hop < none

-- after looking at objects, each so often: those without a count got this one, and are in the bag
pub record Grown (hop : ℕ) (seen : ℕ → ℕ) (hops links : List ℕ) (bag : Bag) (hops' links' : List ℕ) (bag' : Bag) : Type 0 where
  pub sound : IsBag links' bag'
  pub hops_long : length hops' ≡ length hops
  pub links_long : length links' ≡ length links
  -- a count stays
  pub kept : (v : ℕ) → hop_of hops v ≢ none → hop_of hops' v ≡ hop_of hops v
  -- a new count is this one, and of an object that was looked at
  pub found : (v : ℕ) → hop_of hops v ≡ none → hop_of hops' v ≢ none → (hop_of hops' v ≡ hop) × (0 < seen v)
  -- every object that was looked at has a count
  pub looked : (v : ℕ) → 0 < seen v → hop_of hops' v ≢ none
  -- the bag gets exactly the objects with a new count
  pub holds : (v : ℕ) → times v (contents links' bag') + hit none (hop_of hops' v) ≡ times v (contents links bag) + hit none (hop_of hops v)
  pub sized : length (contents links' bag') + unknown hops' ≡ length (contents links bag) + unknown hops
  -- the links of objects outside the bag are left alone
  pub same : (v : ℕ) → times v (contents links' bag') ≡ 0 → Same links links' v

-- the same with a graph, along whose references objects are looked at
pub record Walkable (G : Graph) (hop : ℕ) (hops links : List ℕ) (bag : Bag) : Type 0 where
  pub growable : Growable hop hops links bag
  pub formed : Formed G
  pub sizes : length hops ≡ objects G

-- objects that have a count and are not in the bag, so that filling it leaves their links alone
pub record Apart (hops links : List ℕ) (bag : Bag) (objects : List ℕ) : Type 0 where
  pub inside : (v : ℕ) → 0 < times v objects → v < length hops
  pub counted : (v : ℕ) → 0 < times v objects → hop_of hops v ≢ none
  pub outside : (v : ℕ) → 0 < times v objects → times v (contents links bag) ≡ 0

-- what the search asks: a graph, starts that are objects, and words of the right number
pub record Searchable (G : Graph) (starts hops links : List ℕ) : Type 0 where
  pub formed : Formed G
  pub few : objects G ≤ most_objects
  pub sizes : length hops ≡ objects G
  pub linked : length links ≡ 2 * objects G
  pub inside : all_below (objects G) starts ≡ true

-- layer d and what is known when it is reached
pub record Layer (G : Graph) (starts : List ℕ) (d : ℕ) (hops links : List ℕ) (bag : Bag) : Type 0 where
  pub sound : IsBag links bag
  pub sizes : length hops ≡ objects G
  pub linked : length links ≡ 2 * length hops
  -- its bag is exactly the objects with d hops
  pub exactly : (v : ℕ) → v < objects G → times v (contents links bag) ≡ hit d (hop_of hops v)
  -- counts go up to d, and each is the length of a chain
  pub below : (v : ℕ) → hop_of hops v ≢ none → hop_of hops v ≤ d
  pub chains : (v : ℕ) → v < objects G → hop_of hops v ≢ none → Chain G starts (hop_of hops v) v
  -- starts have 0 hops
  pub starts_zero : (v : ℕ) → 0 < times v starts → hop_of hops v ≡ 0
  -- a reference of an earlier layer leads to an object with a count that is at most one more
  pub closed : (u e : ℕ) → Leaves G e u → hop_of hops u < d
      → (hop_of hops (target G e) ≢ none) × (hop_of hops (target G e) ≤ suc (hop_of hops u))
  -- layers and objects that are left are no more than the objects
  pub budget : d + (length (contents links bag) + unknown hops) ≤ objects G
