-- Adding an object. What carries the argument: before turn k of the loop the slots below k are empty, and the pennant in hand, of size 2^k, and
-- the slots from k on hold together what was in the bag and the new object. So 2^k is at most the new size, and there is a slot k.
use mathlib.Core.Path.{◌≡◌, refl, sym, ap, ◌∙◌}
use mathlib.Core.List.{List, ◌∷◌, ◌++◌}
use mathlib.Core.Logic.{by_cases}
use Prim.Native.Nat.{ℕ, suc, ◌+◌, ◌^◌, ◌≤◌, ◌<◌}
use native.Mathlib.Omega.{arith}
use native.Mathlib.Decide.{dec_le}
use native.Mathlib.Nat.{pow-le-pow_right}
use native.Mathlib.Numerals.{add-one}
use lib.ListN.{length, get_or, set, take, drop, replicate, length-set, length-replicate, replicate-append-replicate}
use lib.Seq.{take-suc-set, drop-set-lt, set_split}
use Rattle.std.specs.Prelude.{Option, None, Some}
use Rattle.laws.specs.Sum.{sum, hit}
use Rattle.laws.proofs.Sum.{hit_equal, hit_at_most_one}
use Rattle.bag.specs.declared.Bag.{Bag}
use Rattle.bag.specs.Bag.{slot_count, bag_limit, most_links, times, pennant_of, slot_of, contents_from, contents, HasLinks, Same, united, Addable, Becomes, Adds}
use Rattle.bag.proofs.Trees.{root_there, pennant_length, united_holds, united_same, same_then}
use Rattle.bag.proofs.Contents.{times_slots, length_slots, times_at, length_at, contents_append, contents_none, contents_frame, binary_slots}
use Rattle.bag.proofs.Adder.{united_sized}

-- slots that are empty in front add nothing
contents_skip : (k : ℕ) (L : List ℕ) (slots : List (Option ℕ)) → contents_from 0 L (replicate k None ++ slots) ≡ contents_from k L slots
contents_skip k L slots =
    let z : k + 0 ≡ k = omega arith in
    contents_append 0 L (replicate k None) slots ∙ rw (contents_none 0 k L, length-replicate {A = Option ℕ} k None, z)

-- a bag that holds what it should
pub becomes : (L L' : List ℕ) (S' : Bag) (was : ℕ → ℕ) (size : ℕ) → ((v : ℕ) → was v ≤ 1) → ((v : ℕ) → 0 < was v → HasLinks L v) → length L ≤ most_links
    → length L' ≡ length L → length S'.slots ≡ slot_count → ((v : ℕ) → times v (contents L' S') ≡ was v) → length (contents L' S') ≡ size → S'.size ≡ size
    → ((v : ℕ) → was v ≡ 0 → Same L L' v) → Becomes L was size L' S'
becomes L L' S' was size once linked few long slots holds sized counted same =
    record {
      sound = record {
        once = λ v. omega (arith, holds v, once v);
        linked = λ v h. omega (arith, linked v (omega (arith, holds v)));
        few = omega arith;
        slots_are = slots;
        counted = counted ∙ sym sized;
      };
      holds = holds;
      sized = sized;
      binary = binary_slots L' S'.slots ∙ rw (slots, sized);
      long = long;
      others = λ v h. same v (sym (holds v) ∙ h);
    }

-- 2^17 and above is too much
pub slot_low : (k : ℕ) → 2 ^ k < bag_limit → k < slot_count
slot_low k h =
    by_cases (dec_le slot_count k)
    (λ (p : slot_count ≤ k). let q : 2 ^ 17 ≤ 2 ^ k = pow-le-pow_right (omega arith) p in absurd (omega arith))
    (λ (p : slot_count ≤ k → ⊥). omega arith)

module _ (L₀ : List ℕ) (S₀ : Bag) (x : ℕ) where
  pub record Adding (L : List ℕ) (S : List (Option ℕ)) (root k : ℕ) : Type 0 where
    pub front : take k S ≡ replicate k None
    pub slots_are : length S ≡ slot_count
    pub holds : (v : ℕ) → times v (pennant_of k L root) + times v (contents_from k L (drop k S)) ≡ hit v x + times v (contents L₀ S₀)
    pub sized : length (pennant_of k L root) + length (contents_from k L (drop k S)) ≡ length (contents L₀ S₀) + 1
    pub same : (v : ℕ) → hit v x + times v (contents L₀ S₀) ≡ 0 → Same L₀ L v
    pub long : length L ≡ length L₀

module _ {L₀ : List ℕ} {S₀ : Bag} {x : ℕ} (ok : Addable L₀ S₀ x) where
  -- the object and those in the bag: each once, each with links
  once : (v : ℕ) → hit v x + times v (contents L₀ S₀) ≤ 1
  once v =
      by_cases (dec_le 1 (hit v x))
      (λ (p : 1 ≤ hit v x).
      let e : v ≡ x = hit_equal v x p in
      omega (arith, hit_at_most_one v x, rw (sym e) at ok.new))
      (λ (p : 1 ≤ hit v x → ⊥). omega (arith, ok.sound.once v))

  linked : (v : ℕ) → 0 < hit v x + times v (contents L₀ S₀) → HasLinks L₀ v
  linked v h =
      by_cases (dec_le 1 (hit v x))
      (λ (p : 1 ≤ hit v x). let e : v ≡ x = hit_equal v x p in rw e ok.linked)
      (λ (p : 1 ≤ hit v x → ⊥). ok.sound.linked v (omega arith))

  pub adding_start : Adding L₀ S₀ x L₀ S₀.slots x 0
  unfolding pennant_of sum
  adding_start =
      record {
        front = refl;
        slots_are = ok.sound.slots_are;
        holds = λ v. omega arith;
        sized = omega arith;
        same = λ v h. (refl, refl);
        long = refl;
      }

module _ {L₀ : List ℕ} {S₀ : Bag} {x : ℕ} (ok : Addable L₀ S₀ x) {L : List ℕ} {S : List (Option ℕ)} {root k : ℕ} (a : Adding L₀ S₀ x L S root k) where
  -- there is a slot k
  pub adding_low : k < slot_count
  adding_low = slot_low k (omega (arith, pennant_length k L root, a.sized, ok.room))

  pub root_linked : HasLinks L root
  root_linked = omega (arith, a.long, linked ok root (omega (arith, a.holds root, root_there k L root)))

  -- what stands in slot k and behind it
  slots : (v : ℕ) → times v (contents_from k L (drop k S)) ≡ times v (slot_of k L (get_or S k None)) + times v (contents_from (suc k) L (drop (suc k) S))
  slots v = times_at v k L S (omega (arith, adding_low, a.slots_are))

  slots_behind : length (contents_from k L (drop k S)) ≡ length (slot_of k L (get_or S k None)) + length (contents_from (suc k) L (drop (suc k) S))
  slots_behind = length_at k L S (omega (arith, adding_low, a.slots_are))

  module _ (q : ℕ) (is : get_or S k None ≡ Some q) where
    -- the pennants in slot k and in hand, and the slots behind: each object once
    all_once : (v : ℕ) → times v (pennant_of k L q) + times v (pennant_of k L root) + times v (contents_from (suc k) L (drop (suc k) S)) ≤ 1
    all_once v = omega (arith, rw is at (slots v), a.holds v, once ok v)

    pub other_linked : HasLinks L q
    other_linked =
        omega (arith, a.long, linked ok q (omega (arith, a.holds q, rw is at (slots q), root_there k L q)))

    pub adding_next : {L' : List ℕ} → L' ≡ united L q root → Adding L₀ S₀ x L' (set S k None) q (k + 1)
    adding_next {L'} e =
        let low : k < length S = omega (arith, adding_low, a.slots_are) in
        let one : (v : ℕ) → times v (pennant_of k L q) + times v (pennant_of k L root) ≤ 1 = λ v. omega (arith, all_once v) in
        let behind : drop (suc k) (set S k None) ≡ drop (suc k) S = drop-set-lt (suc k) S k None (omega arith) in
        let stays : contents_from (suc k) L' (drop (suc k) S) ≡ contents_from (suc k) L (drop (suc k) S) =
        contents_frame (suc k) L L' (drop (suc k) S) (λ v p. rw e (united_same k L q root v (omega (arith, all_once v)))) in
        let both : (v : ℕ) → times v (pennant_of (suc k) L' q) ≡ times v (pennant_of k L q) + times v (pennant_of k L root) =
        λ v. rw e (united_holds k L q root one other_linked root_linked v) in
        rw (add-one k)
        (record {
          front = take-suc-set S k None low ∙ rw a.front (replicate-append-replicate k 1 None ∙ rw (add-one k));
          slots_are = simp length-set a.slots_are;
          holds = λ v. rw (behind, stays) (omega (arith, both v, a.holds v, rw is at (slots v)));
          sized = rw (behind, stays) (rw e (omega (arith, united_sized k L q root, a.sized, rw is at slots_behind)));
          same = λ v h. same_then L₀ L L' v (a.same v h) (rw e (united_same k L q root v (omega (arith, a.holds v, rw is at (slots v)))));
          long = rw e (simp length-set a.long);
        })

  -- what the slots hold then
  module _ (h : get_or S k None ≡ None) where
    end_is : contents_from 0 L (set S k (Some root)) ≡ contents_from k L (Some root ∷ drop (suc k) S)
    end_is =
        let low : k < length S = omega (arith, adding_low, a.slots_are) in
        rw (set_split S k (Some root) low, a.front) (contents_skip k L (Some root ∷ drop (suc k) S))

    pub end_holds : (v : ℕ) → times v (contents_from 0 L (set S k (Some root))) ≡ hit v x + times v (contents L₀ S₀)
    unfolding sum
    end_holds v = ap (times v) end_is ∙ (times_slots v k L (Some root) (drop (suc k) S) ∙ omega (arith, a.holds v, rw h at (slots v)))

    pub end_sized : length (contents_from 0 L (set S k (Some root))) ≡ length (contents L₀ S₀) + 1
    end_sized = ap length end_is ∙ (length_slots k L (Some root) (drop (suc k) S) ∙ omega (arith, a.sized, rw h at slots_behind))

    pub adding_end : Adds L₀ S₀ x L (record { slots = set S k (Some root); size = S₀.size + 1 })
    adding_end =
        becomes L₀ L (record { slots = set S k (Some root); size = S₀.size + 1 }) (λ (v : ℕ). hit v x + times v (contents L₀ S₀)) (length (contents L₀ S₀) + 1)
        (once ok) (linked ok) ok.sound.few a.long (simp length-set a.slots_are) end_holds end_sized (omega (arith, ok.sound.counted)) a.same
