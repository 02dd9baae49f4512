-- One pennant of a layer, and all of them. What carries the argument: a pennant's own bag holds only objects that had no count, so it shares
-- nothing with the next layer so far, nor with the layer that is walked.
use mathlib.Core.Path.{◌≡◌, refl, sym, ap, ◌∙◌}
use mathlib.Core.List.{List, map, append-nil}
use Prim.Native.Nat.{ℕ, suc, ◌+◌, ◌*◌, ◌/◌, ◌≤◌, ◌<◌}
use native.Mathlib.Omega.{arith}
use native.Mathlib.Numerals.{add-one}
use lib.ListN.{length, get_or, take, drop}
use Rattle.laws.specs.Sum.{sum, hit}
use Rattle.laws.proofs.Sum.{hit_at_most_one, sum_append}
use Rattle.graph.specs.Graph.{Graph}
use Rattle.std.specs.Prelude.{None, Some}
use Rattle.bag.specs.declared.Bag.{Bag}
use Rattle.bag.specs.Bag.{slot_count, IsBag, Joinable, Joins, times, left_of, tree_of, pennant_of, slot_of, contents_from, contents, filled, empty}
use Rattle.bag.proofs.Trees.{times_pennant, root_there, tree_frame, pennant_frame, same_then}
use Rattle.bag.proofs.Contents.{contents_none, contents_frame, contents_split, contents_take, contents_length, times_at, value, value_at, value_end, none_left, filled_low}
use Rattle.layers.specs.Hops.{none, hop_of}
use Rattle.layers.specs.Search.{leads_to, Grown, Walkable, Apart}
use Rattle.layers.proofs.Growing.{grown_none, grown_then, grown_as}
use Rattle.layers.proofs.Visiting.{apart_same, apart_after, apart_part, walkable_after}

-- ---- a bag of its own

pub none_in : (v : ℕ) (L : List ℕ) → times v (contents L empty) ≡ 0
unfolding sum
none_in v L = ap (times v) (contents_none 0 slot_count L)

pub empty_length : (L : List ℕ) → length (contents L empty) ≡ 0
empty_length L = ap length (contents_none 0 slot_count L)

pub empty_bag : {L : List ℕ} {S : Bag} → IsBag L S → IsBag L empty
empty_bag {L} b =
    record {
      once = λ v. omega (arith, none_in v L);
      linked = λ v h. absurd (omega (arith, none_in v L));
      few = b.few;
      slots_are = refl;
      counted = sym (empty_length L);
    }

pub empty_walkable : {G : Graph} {hop : ℕ} {H L : List ℕ} {S : Bag} → Walkable G hop H L S → Walkable G hop H L empty
empty_walkable {H = H} {L} ok =
    let w = ok.growable in
    record {
      growable = record {
        sound = empty_bag w.sound;
        linked = w.linked;
        few = w.few;
        apart = λ v. omega (arith, none_in v L, hit_at_most_one none (hop_of H v));
        room = omega (arith, empty_length L, w.room);
        low = w.low;
      };
      formed = ok.formed;
      sizes = ok.sizes;
    }

empty_apart : {H L : List ℕ} {S : Bag} {xs : List ℕ} → Apart H L S xs → Apart H L empty xs
empty_apart {L = L} a = record { inside = a.inside; counted = a.counted; outside = λ v p. none_in v L }

seen_pennant : (G : Graph) (w k : ℕ) (L : List ℕ) (x : ℕ) → sum (leads_to G w) (pennant_of k L x) ≡ leads_to G w x + sum (leads_to G w) (tree_of k L (left_of L x))
unfolding pennant_of sum
seen_pennant G w k L x = refl

-- ---- one pennant

module _ {G : Graph} {hop : ℕ} {H L : List ℕ} {S : Bag} (h root : ℕ) (ok : Walkable G hop H L S) (a : Apart H L S (pennant_of h L root)) where
  pub top_inside : root < length H
  top_inside = a.inside root (root_there h L root)

  pub top_links : 2 * root < length L
  top_links = omega (arith, top_inside, ok.growable.linked)

  apart_below : Apart H L S (tree_of h L (left_of L root))
  apart_below = apart_part (tree_of h L (left_of L root)) a (λ v. omega (arith, times_pennant v h L root))

  module _ {H₁ L₁ : List ℕ} {S₁ : Bag} (f : Grown hop (λ (w : ℕ). leads_to G w root) H L S H₁ L₁ S₁) where
    below_is : tree_of h L₁ (left_of L root) ≡ tree_of h L (left_of L root)
    below_is = tree_frame h L L₁ (left_of L root) (apart_same f apart_below)

    pub fill_walk : Walkable G hop H₁ L₁ S₁ × Apart H₁ L₁ S₁ (tree_of h L₁ (left_of L root))
    fill_walk = (walkable_after ok f, rw below_is (apart_after f apart_below))

    pub fill_all : {H₂ L₂ : List ℕ} {S₂ : Bag} → Grown hop (λ (w : ℕ). sum (leads_to G w) (tree_of h L₁ (left_of L root))) H₁ L₁ S₁ H₂ L₂ S₂
        → Grown hop (λ (w : ℕ). sum (leads_to G w) (pennant_of h L root)) H L S H₂ L₂ S₂
    fill_all g =
        grown_as (λ (w : ℕ). sum (leads_to G w) (pennant_of h L root)) (grown_then f g)
        (λ w. omega (arith, seen_pennant G w h L root, ap (sum (leads_to G w)) below_is))

-- ---- a bag of its own, joined to the next layer

module _ {G : Graph} {hop : ℕ} {H L : List ℕ} {N : Bag} {xs : List ℕ} (ok : Walkable G hop H L N) (a : Apart H L N xs) where
  pub own_ready : Walkable G hop H L empty × Apart H L empty xs
  own_ready = (empty_walkable ok, empty_apart a)

module _ {G : Graph} {hop : ℕ} {seen : ℕ → ℕ} {H L : List ℕ} {N : Bag} {H₂ L₂ : List ℕ} {O₂ : Bag} (ok : Walkable G hop H L N) (own : Grown hop seen H L empty H₂ L₂ O₂) where
  -- what the own bag got had no count
  was_unknown : (v : ℕ) → times v (contents L₂ O₂) + hit none (hop_of H₂ v) ≡ hit none (hop_of H v)
  was_unknown v = omega (arith, own.holds v, none_in v L)

  next_is : contents L₂ N ≡ contents L N
  next_is = contents_frame 0 L L₂ N.slots (λ v p. own.same v (omega (arith, was_unknown v, ok.growable.apart v)))

  pub own_join : Joinable L₂ N O₂
  own_join =
      let w = ok.growable in
      record {
        first = record {
          once = λ v. rw next_is (w.sound.once v);
          linked = λ v p. omega (arith, own.links_long, w.sound.linked v (rw next_is at p));
          few = omega (arith, own.links_long, w.sound.few);
          slots_are = w.sound.slots_are;
          counted = w.sound.counted ∙ ap length (sym next_is);
        };
        second = own.sound;
        apart = λ v. rw next_is (omega (arith, was_unknown v, w.apart v));
        room = rw next_is (omega (arith, own.sized, empty_length L, w.room, w.few));
      }

  pub own_all : {L₃ : List ℕ} {N₃ O₃ : Bag} → Joins L₂ N O₂ L₃ N₃ O₃ → Grown hop seen H L N H₂ L₃ N₃
  own_all {L₃} {N₃} j =
      let b = j.joined in
      let held : (v : ℕ) → times v (contents L₃ N₃) ≡ times v (contents L N) + times v (contents L₂ O₂) = λ v. b.holds v ∙ rw next_is in
      record {
        sound = b.sound;
        hops_long = own.hops_long;
        links_long = b.long ∙ own.links_long;
        kept = own.kept;
        found = own.found;
        looked = own.looked;
        holds = λ v. omega (arith, held v, was_unknown v);
        sized = omega (arith, b.sized, ap length next_is, own.sized, empty_length L);
        same = λ v z. same_then L L₂ L₃ v (own.same v (omega (arith, held v))) (b.others v z);
      }

-- ---- the pennants of a layer

module _ (G : Graph) (hop : ℕ) (H₀ L₀ : List ℕ) (N₀ layer : Bag) where
  -- those in the slots before number k were spread, and the digits of the size that are left are these
  pub record Passing (H L : List ℕ) (N : Bag) (k rest : ℕ) : Type 0 where
    pub low : k ≤ slot_count
    pub rest_is : rest ≡ value (map filled (drop k layer.slots))
    pub grown : Grown hop (λ (w : ℕ). sum (leads_to G w) (contents_from 0 L₀ (take k layer.slots))) H₀ L₀ N₀ H L N

module _ {G : Graph} {hop : ℕ} {H₀ L₀ : List ℕ} {N₀ layer : Bag} (ok : Walkable G hop H₀ L₀ N₀) (a : Apart H₀ L₀ N₀ (contents L₀ layer)) (b : IsBag L₀ layer) where
  long : length layer.slots ≡ slot_count
  long = b.slots_are

  pub passing_start : Passing G hop H₀ L₀ N₀ layer H₀ L₀ N₀ 0 layer.size
  unfolding sum contents_from
  passing_start =
      record {
        low = omega arith;
        rest_is = omega (arith, b.counted, contents_length 0 L₀ layer.slots);
        grown = grown_none ok.growable;
      }

  module _ {H L : List ℕ} {N : Bag} {k rest : ℕ} (p : Passing G hop H₀ L₀ N₀ layer H L N k rest) where
    -- behind the last slot no digit is left
    pub passing_through : slot_count ≤ k → rest ≡ 0
    passing_through h = p.rest_is ∙ value_end k layer.slots (omega (arith, long))

    pub passing_end : rest ≡ 0 → Grown hop (λ (w : ℕ). sum (leads_to G w) (contents L₀ layer)) H₀ L₀ N₀ H L N
    passing_end z =
        let e : contents L₀ layer ≡ contents_from 0 L₀ (take k layer.slots) =
        contents_split k L₀ layer.slots (omega (arith, long, p.low))
        ∙ rw (none_left k L₀ (drop k layer.slots) (sym p.rest_is ∙ z)) (append-nil (contents_from 0 L₀ (take k layer.slots))) in
        grown_as (λ (w : ℕ). sum (leads_to G w) (contents L₀ layer)) p.grown (λ w. ap (sum (leads_to G w)) e)

    module _ (h : k < slot_count) where
      pub digit_next : rest / 2 ≡ value (map filled (drop (suc k) layer.slots))
      digit_next = omega (arith, p.rest_is, value_at k layer.slots (omega (arith, long)), filled_low (get_or layer.slots k None))

      slot_part : Apart H₀ L₀ N₀ (slot_of k L₀ (get_or layer.slots k None))
      slot_part =
          apart_part (slot_of k L₀ (get_or layer.slots k None)) a
          (λ v.
          omega (
            arith,
            long,
            ap (times v) (contents_split k L₀ layer.slots (omega (arith, long))),
            sum_append (hit v) (contents_from 0 L₀ (take k layer.slots)) (contents_from k L₀ (drop k layer.slots)),
            times_at v k L₀ layer.slots (omega (arith, long)),
          ))

      seen_slot : (w : ℕ) → sum (leads_to G w) (contents_from 0 L₀ (take (suc k) layer.slots))
          ≡ sum (leads_to G w) (contents_from 0 L₀ (take k layer.slots)) + sum (leads_to G w) (slot_of k L₀ (get_or layer.slots k None))
      seen_slot w =
          ap (sum (leads_to G w)) (contents_take k L₀ layer.slots (omega (arith, long)))
          ∙ sum_append (leads_to G w) (contents_from 0 L₀ (take k layer.slots)) (slot_of k L₀ (get_or layer.slots k None))

      module _ (root : ℕ) (is : get_or layer.slots k None ≡ Some root) where
        pennant_is : pennant_of k L root ≡ pennant_of k L₀ root
        pennant_is = pennant_frame k L₀ L root (apart_same p.grown (rw is at slot_part))

        pub passing_ready : Walkable G hop H L N × Apart H L N (pennant_of k L root)
        passing_ready = (walkable_after ok p.grown, rw pennant_is (apart_after p.grown (rw is at slot_part)))

        pub passing_next : {H' L' : List ℕ} {N' : Bag} → Grown hop (λ (w : ℕ). sum (leads_to G w) (pennant_of k L root)) H L N H' L' N'
            → Passing G hop H₀ L₀ N₀ layer H' L' N' (k + 1) (rest / 2)
        passing_next g =
            rw (add-one k)
            (record {
              low = omega arith;
              rest_is = digit_next;
              grown = grown_as (λ (w : ℕ). sum (leads_to G w) (contents_from 0 L₀ (take (suc k) layer.slots))) (grown_then p.grown g)
                  (λ w. omega (arith, rw is at (seen_slot w), ap (sum (leads_to G w)) pennant_is));
            })

      pub passing_over : get_or layer.slots k None ≡ None → Passing G hop H₀ L₀ N₀ layer H L N (k + 1) (rest / 2)
      unfolding sum
      passing_over e =
          rw (add-one k)
          (record {
            low = omega arith;
            rest_is = digit_next;
            grown = grown_as (λ (w : ℕ). sum (leads_to G w) (contents_from 0 L₀ (take (suc k) layer.slots))) p.grown (λ w. omega (arith, rw e at (seen_slot w)));
          })
