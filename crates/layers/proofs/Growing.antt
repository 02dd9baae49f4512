-- Filling a bag with objects that had no count. What carries the argument: an object without a count becomes one in the bag, so the two
-- together are always the same, and steps of this kind in a row are one.
use mathlib.Core.Path.{◌≡◌, refl, sym, ap, ◌∙◌}
use mathlib.Core.Bool.{true}
use mathlib.Core.List.{List}
use mathlib.Core.Logic.{◌≢◌, ◌⊎◌, inl, inr, ⊎_elim, by_cases}
use Prim.Native.Nat.{ℕ, suc, ◌+◌, ◌≤◌, ◌<◌}
use native.Mathlib.Omega.{arith}
use native.Mathlib.Numerals.{add-one}
use native.Mathlib.Decide.{dec_le}
use lib.ListN.{length, get_or, set, take, length-set}
use lib.Seq.{get_or-set_same, get_or-set_other, take-suc, take_all}
use Rattle.laws.specs.Sum.{sum, hit}
use Rattle.laws.proofs.Sum.{hit_same, hit_other, hit_equal, hit_swap, either_positive, hit_at_most_one, sum_share, sum_snoc, sum_set, at_set}
use Rattle.graph.specs.Graph.{all_below}
use Rattle.graph.proofs.Formed.{below_all}
use Rattle.bag.specs.declared.Bag.{Bag}
use Rattle.bag.specs.Bag.{Addable, Adds, times, contents}
use Rattle.bag.proofs.Trees.{same_then}
use Rattle.layers.specs.Hops.{none, hop_of}
use Rattle.layers.specs.Search.{Growable, Grown}

-- two numbers are the same or not
pub alike : (v w : ℕ) → (v ≡ w) ⊎ (v ≢ w)
alike v w =
    by_cases (dec_le 1 (hit v w))
    (λ (p : 1 ≤ hit v w). inl (hit_equal v w p))
    (λ (p : 1 ≤ hit v w → ⊥). inr (λ e. p (omega (arith, hit_same v, ap (hit v) (sym e)))))

-- a count that is none
pub none_hit : (x : ℕ) → x ≡ none → hit none x ≡ 1
none_hit x e = rw e (hit_same none)

pub some_hit : (x : ℕ) → x ≢ none → hit none x ≡ 0
some_hit x h = hit_other none x (λ e. h (sym e))

module _ {hop : ℕ} {H L : List ℕ} {S : Bag} (ok : Growable hop H L S) where
  pub grown_none : Grown hop (λ (v : ℕ). 0) H L S H L S
  grown_none =
      record {
        sound = ok.sound;
        hops_long = refl;
        links_long = refl;
        kept = λ v h. refl;
        found = λ v e h. absurd (h e);
        looked = λ v h. absurd (omega arith);
        holds = λ v. refl;
        sized = refl;
        same = λ v h. (refl, refl);
      }

  -- it can be filled further
  pub growable_after : {seen : ℕ → ℕ} {H' L' : List ℕ} {S' : Bag} → Grown hop seen H L S H' L' S' → Growable hop H' L' S'
  growable_after g =
      record {
        sound = g.sound;
        linked = omega (arith, g.links_long, g.hops_long, ok.linked);
        few = omega (arith, g.hops_long, ok.few);
        apart = λ v. omega (arith, g.holds v, ok.apart v);
        room = omega (arith, g.sized, g.hops_long, ok.room);
        low = ok.low;
      }

module _ {hop : ℕ} {a b : ℕ → ℕ} {H L : List ℕ} {S : Bag} {H' L' : List ℕ} {S' : Bag} {H'' L'' : List ℕ} {S'' : Bag} (f : Grown hop a H L S H' L' S') (g : Grown hop b H' L' S' H'' L'' S'') where
  -- what has a count keeps it
  stays : (v : ℕ) → hop_of H' v ≢ none → hop_of H'' v ≢ none
  stays v h e = h (sym (g.kept v h) ∙ e)

  -- the bag does not lose an object
  grows : (v : ℕ) → times v (contents L'' S'') ≡ 0 → times v (contents L' S') ≡ 0
  grows v z =
      ⊎_elim
      (λ (p : hop_of H' v ≡ none). omega (arith, g.holds v, hit_at_most_one none (hop_of H'' v), none_hit (hop_of H' v) p))
      (λ (p : hop_of H' v ≢ none). omega (arith, g.holds v, some_hit (hop_of H' v) p, some_hit (hop_of H'' v) (stays v p)))
      (alike (hop_of H' v) none)

  pub grown_then : Grown hop (λ (v : ℕ). a v + b v) H L S H'' L'' S''
  grown_then =
      record {
        sound = g.sound;
        hops_long = g.hops_long ∙ f.hops_long;
        links_long = g.links_long ∙ f.links_long;
        kept = λ v h. let e = f.kept v h in g.kept v (λ z. h (sym e ∙ z)) ∙ e;
        found = λ v e h.
            ⊎_elim
            (λ (p : hop_of H' v ≡ none). let r = g.found v p h in (r.0, omega (arith, r.1)))
            (λ (p : hop_of H' v ≢ none). let r = f.found v e p in (g.kept v p ∙ r.0, omega (arith, r.1)))
            (alike (hop_of H' v) none);
        looked = λ v h.
            ⊎_elim
            (λ (p : 0 < a v). stays v (f.looked v p))
            (λ (p : 0 < b v). g.looked v p)
            (either_positive (a v) (b v) h);
        holds = λ v. g.holds v ∙ f.holds v;
        sized = g.sized ∙ f.sized;
        same = λ v h. same_then L L' L'' v (f.same v (grows v h)) (g.same v h);
      }

-- looked at as often
pub grown_as : {hop : ℕ} {a : ℕ → ℕ} (b : ℕ → ℕ) {H L : List ℕ} {S : Bag} {H' L' : List ℕ} {S' : Bag} → Grown hop a H L S H' L' S' → ((v : ℕ) → b v ≡ a v) → Grown hop b H L S H' L' S'
grown_as b g e =
    record {
      sound = g.sound;
      hops_long = g.hops_long;
      links_long = g.links_long;
      kept = g.kept;
      found = λ v z h. let r = g.found v z h in (r.0, omega (arith, r.1, e v));
      looked = λ v h. g.looked v (omega (arith, e v));
      holds = g.holds;
      sized = g.sized;
      same = g.same;
    }

-- ---- one object

module _ {hop : ℕ} {H L : List ℕ} {S : Bag} (ok : Growable hop H L S) (v : ℕ) (low : v < length H) where
  pub find_known : hop_of H v ≢ none → Grown hop (λ (w : ℕ). hit w v) H L S H L S
  find_known h =
      let g = grown_none ok in
      record {
        sound = g.sound;
        hops_long = refl;
        links_long = refl;
        kept = g.kept;
        found = λ w z p. absurd (p z);
        looked = λ w p. rw (hit_equal w v p) h;
        holds = g.holds;
        sized = refl;
        same = g.same;
      }

  module _ (z : hop_of H v ≡ none) where
    pub find_addable : Addable L S v
    find_addable =
        record {
          sound = ok.sound;
          new = omega (arith, ok.apart v, none_hit (hop_of H v) z);
          linked = omega (arith, ok.linked);
          room = omega (arith, ok.room, ok.few, sum_share (hit none) 0 (hit_other none 0 (λ e. omega arith)) H v, none_hit (hop_of H v) z);
        }

    pub find_new : {L' : List ℕ} {S' : Bag} → Adds L S v L' S' → Grown hop (λ (w : ℕ). hit w v) H L S (set H v hop) L' S'
    find_new d =
        let here : hop_of (set H v hop) v ≡ hop = get_or-set_same H v hop 0 low in
        let other : (w : ℕ) → w ≢ v → hop_of (set H v hop) w ≡ hop_of H w = λ w n. get_or-set_other H v w hop 0 n in
        let fresh : hop ≢ none = λ e. omega (arith, ok.low) in
        record {
          sound = d.sound;
          hops_long = length-set H v hop;
          links_long = d.long;
          kept = λ w h. other w (λ e. h (ap (hop_of H) e ∙ z));
          found = λ w y h.
              ⊎_elim
              (λ (e : w ≡ v). (ap (hop_of (set H v hop)) e ∙ here, omega (arith, hit_same v, ap (λ (k : ℕ). hit k v) e)))
              (λ (n : w ≢ v). absurd (h (other w n ∙ y)))
              (alike w v);
          looked = λ w p e. fresh (sym here ∙ (ap (hop_of (set H v hop)) (sym (hit_equal w v p)) ∙ e));
          holds = λ w.
              omega (arith, d.holds w, rw (hit_same none, some_hit hop fresh) at (at_set (hit none) 0 H v none hop w z low), hit_swap w v);
          sized = omega (arith, d.sized, sum_set (hit none) 0 H v none hop z low, hit_same none, some_hit hop fresh);
          same = d.others;
        }

-- ---- the objects of a list

module _ (hop : ℕ) (xs H₀ L₀ : List ℕ) (S₀ : Bag) where
  -- the first i were looked at
  pub record Listing (H L : List ℕ) (S : Bag) (i : ℕ) : Type 0 where
    pub low : i ≤ length xs
    pub grown : Grown hop (λ (w : ℕ). times w (take i xs)) H₀ L₀ S₀ H L S

module _ {hop : ℕ} {xs H₀ L₀ : List ℕ} {S₀ : Bag} (ok : Growable hop H₀ L₀ S₀) (inside : all_below (length H₀) xs ≡ true) where
  pub listing_start : Listing hop xs H₀ L₀ S₀ H₀ L₀ S₀ 0
  unfolding sum
  listing_start = record { low = omega arith; grown = grown_none ok }

  module _ {H L : List ℕ} {S : Bag} {i : ℕ} (l : Listing hop xs H₀ L₀ S₀ H L S i) where
    pub listing_ready : i < length xs → Growable hop H L S × (get_or xs i 0 < length H)
    listing_ready h = (growable_after ok l.grown, omega (arith, below_all (length H₀) xs inside i h, l.grown.hops_long))

    pub listing_next : i < length xs → {H' L' : List ℕ} {S' : Bag} → Grown hop (λ (w : ℕ). hit w (get_or xs i 0)) H L S H' L' S' → Listing hop xs H₀ L₀ S₀ H' L' S' (i + 1)
    listing_next h g =
        rw (add-one i)
        (record {
          low = omega arith;
          grown = grown_as (λ (w : ℕ). times w (take (suc i) xs)) (grown_then l.grown g)
              (λ w. ap (times w) (take-suc xs i 0 h) ∙ sum_snoc (hit w) (take i xs) (get_or xs i 0));
        })

    pub listing_end : length xs ≤ i → Grown hop (λ (w : ℕ). times w xs) H₀ L₀ S₀ H L S
    listing_end h = rw (take_all i xs h) at l.grown
