-- Joining two bags. What carries the argument: before turn k of the loop the slots below k, the carry, of size 2^k, and the slots of both bags
-- from k on hold together the objects of both. A carry behind the last slot would have 2^17 objects, which are too many.
use mathlib.Core.Path.{◌≡◌, refl, ap, ◌∙◌}
use mathlib.Core.List.{List, [], ◌∷◌, ◌++◌, map}
use mathlib.Core.Logic.{◌≢◌, ⊎_elim}
use Prim.Native.Nat.{ℕ, suc, ◌+◌, ◌^◌, ◌/◌, ◌≤◌, ◌<◌}
use native.Mathlib.Omega.{arith}
use native.Mathlib.Numerals.{add-one}
use lib.ListN.{length, get_or, set, take, drop, length-append, length-set}
use lib.Seq.{take-suc-set, drop-set-lt, length-take-le}
use Rattle.std.specs.Prelude.{Option, None, Some}
use Rattle.laws.specs.Sum.{sum, hit}
use Rattle.laws.proofs.Sum.{either_positive, sum_append}
use Rattle.bag.specs.declared.Bag.{Bag}
use Rattle.bag.specs.Bag.{slot_count, times, slot_of, contents_from, contents, filled, HasLinks, Same, Joinable, Joins, empty}
use Rattle.bag.specs.Adder.{Rooted, Unitable, Sums}
use Rattle.bag.proofs.Trees.{root_there, pennant_length, same_then}
use Rattle.bag.proofs.Contents.{times_at, length_at, times_slots, length_slots, contents_append, contents_split, contents_length, contents_frame, value, value_at, value_end, none_left, filled_low}
use Rattle.bag.proofs.Adder.{Keeps, keeps}
use Rattle.bag.proofs.Adding.{becomes}

-- a slot whose objects have links is empty or has a root with links
slot_rooted : (k : ℕ) (L : List ℕ) (s : Option ℕ) → ((v : ℕ) → 0 < times v (slot_of k L s) → HasLinks L v) → Rooted L s
slot_rooted k L None f = tt
slot_rooted k L (Some x) f = f x (root_there k L x)

-- a carry has as many objects as its size says
carry_length : (k : ℕ) (L : List ℕ) (s : Option ℕ) → s ≢ None → length (slot_of k L s) ≡ 2 ^ k
carry_length k L None h = absurd (h refl)
carry_length k L (Some x) h = pennant_length k L x

-- one slot more in front
module _ (k : ℕ) (L : List ℕ) (A : List (Option ℕ)) (s : Option ℕ) (low : k < length A) where
  more : contents_from 0 L (take (suc k) (set A k s)) ≡ contents_from 0 L (take k A) ++ contents_from k L (s ∷ [])
  more =
      let n : length (take k A) + 0 ≡ k = omega (arith, length-take-le k A (omega arith)) in
      rw (take-suc-set A k s low) (contents_append 0 L (take k A) (s ∷ []) ∙ rw n)

  times_more : (v : ℕ) → times v (contents_from 0 L (take (suc k) (set A k s))) ≡ times v (contents_from 0 L (take k A)) + times v (slot_of k L s)
  unfolding sum contents_from
  times_more v =
      ap (times v) more ∙ (sum_append (hit v) (contents_from 0 L (take k A)) (contents_from k L (s ∷ [])) ∙ omega (arith, times_slots v k L s []))

  length_more : length (contents_from 0 L (take (suc k) (set A k s))) ≡ length (contents_from 0 L (take k A)) + length (slot_of k L s)
  unfolding contents_from
  length_more = ap length more ∙ (length-append (contents_from 0 L (take k A)) (contents_from k L (s ∷ [])) ∙ omega (arith, length_slots k L s []))

module _ (L₀ : List ℕ) (A₀ B₀ : Bag) where
  pub record Joining (L : List ℕ) (A : List (Option ℕ)) (carry : Option ℕ) (k rest : ℕ) : Type 0 where
    pub low : k ≤ slot_count
    pub slots_are : length A ≡ slot_count
    pub holds : (v : ℕ)
        → times v (contents_from 0 L (take k A)) + times v (slot_of k L carry) + times v (contents_from k L (drop k A)) + times v (contents_from k L (drop k B₀.slots))
        ≡ times v (contents L₀ A₀) + times v (contents L₀ B₀)
    pub sized : length (contents_from 0 L (take k A)) + length (slot_of k L carry) + length (contents_from k L (drop k A)) + length (contents_from k L (drop k B₀.slots))
        ≡ length (contents L₀ A₀) + length (contents L₀ B₀)
    pub same : (v : ℕ) → times v (contents L₀ A₀) + times v (contents L₀ B₀) ≡ 0 → Same L₀ L v
    pub long : length L ≡ length L₀
    -- the binary digits of the second bag that are left
    pub rest_is : rest ≡ value (map filled (drop k B₀.slots))

module _ {L₀ : List ℕ} {A₀ B₀ : Bag} (ok : Joinable L₀ A₀ B₀) where
  linked : (v : ℕ) → 0 < times v (contents L₀ A₀) + times v (contents L₀ B₀) → HasLinks L₀ v
  linked v h =
      ⊎_elim (λ (p : 0 < times v (contents L₀ A₀)). ok.first.linked v p) (λ (p : 0 < times v (contents L₀ B₀)). ok.second.linked v p)
      (either_positive (times v (contents L₀ A₀)) (times v (contents L₀ B₀)) h)

  pub joining_start : Joining L₀ A₀ B₀ L₀ A₀.slots None 0 B₀.size
  unfolding sum contents_from
  joining_start =
      record {
        low = omega arith;
        slots_are = ok.first.slots_are;
        holds = λ v. omega arith;
        sized = omega arith;
        same = λ v h. (refl, refl);
        long = refl;
        rest_is = omega (arith, ok.second.counted, contents_length 0 L₀ B₀.slots);
      }

  module _ {L : List ℕ} {A : List (Option ℕ)} {carry : Option ℕ} {k rest : ℕ} (j : Joining L₀ A₀ B₀ L A carry k rest) where
    -- without a slot k nothing is left, and nothing is carried
    pub joining_low : slot_count ≤ k → (rest ≡ 0) × (carry ≡ None)
    joining_low p =
        let n : k ≡ slot_count = omega (arith, j.low) in
        (j.rest_is ∙ value_end k B₀.slots (omega (arith, ok.second.slots_are)), small carry (λ h. let c : length (slot_of k L carry) ≡ 2 ^ slot_count = carry_length k L carry h ∙ rw n in omega (arith, j.sized, ok.room)))
      where
        small : (s : Option ℕ) → (s ≢ None → ⊥) → s ≡ None
        small None f = refl
        small (Some x) f = absurd (f (λ e. cc))

    -- the three slots of number k, and what stands before and behind them
    parts : (v : ℕ) → k < slot_count
        → times v (contents_from 0 L (take k A)) + (times v (slot_of k L (get_or A k None)) + times v (slot_of k L (get_or B₀.slots k None)) + times v (slot_of k L carry))
        + (times v (contents_from (suc k) L (drop (suc k) A)) + times v (contents_from (suc k) L (drop (suc k) B₀.slots)))
        ≡ times v (contents L₀ A₀) + times v (contents L₀ B₀)
    parts v h =
        omega
        (arith, j.holds v, times_at v k L A (omega (arith, j.slots_are)), times_at v k L B₀.slots (omega (arith, ok.second.slots_are)))

    pub joining_ready : k < slot_count → Unitable L (get_or A k None) (get_or B₀.slots k None) carry
    joining_ready h =
        let all : (v : ℕ) → 0 < times v (slot_of k L (get_or A k None)) + times v (slot_of k L (get_or B₀.slots k None)) + times v (slot_of k L carry) → HasLinks L v =
        λ v p. omega (arith, j.long, linked v (omega (arith, parts v h))) in
        record {
          first = slot_rooted k L (get_or A k None) (λ v p. all v (omega arith));
          second = slot_rooted k L (get_or B₀.slots k None) (λ v p. all v (omega arith));
          third = slot_rooted k L carry (λ v p. all v (omega arith));
        }

    module _ (h : k < slot_count) {here next : Option ℕ} {L' : List ℕ} (kept : Keeps k L (get_or A k None) (get_or B₀.slots k None) carry here next L') where
      -- what no slot of number k holds keeps its links
      elsewhere : (xs : List ℕ) → ((v : ℕ) → times v xs
          ≤ times v (contents_from 0 L (take k A)) + (times v (contents_from (suc k) L (drop (suc k) A)) + times v (contents_from (suc k) L (drop (suc k) B₀.slots))))
          → (v : ℕ) → 0 < times v xs → Same L L' v
      elsewhere xs f v p = kept.same v (omega (arith, f v, parts v h, ok.apart v))

      next_joining : Joining L₀ A₀ B₀ L' (set A k here) next (suc k) (rest / 2)
      next_joining =
          let a_low : k < length A = omega (arith, j.slots_are) in
          let b_low : k < length B₀.slots = omega (arith, ok.second.slots_are) in
          let behind_a : drop (suc k) (set A k here) ≡ drop (suc k) A = drop-set-lt (suc k) A k here (omega arith) in
          let fa : contents_from 0 L' (take k A) ≡ contents_from 0 L (take k A) =
          contents_frame 0 L L' (take k A) (elsewhere (contents_from 0 L (take k A)) (λ v. omega arith)) in
          let fb : contents_from (suc k) L' (drop (suc k) A) ≡ contents_from (suc k) L (drop (suc k) A) =
          contents_frame (suc k) L L' (drop (suc k) A) (elsewhere (contents_from (suc k) L (drop (suc k) A)) (λ v. omega arith)) in
          let fc : contents_from (suc k) L' (drop (suc k) B₀.slots) ≡ contents_from (suc k) L (drop (suc k) B₀.slots) =
          contents_frame (suc k) L L' (drop (suc k) B₀.slots) (elsewhere (contents_from (suc k) L (drop (suc k) B₀.slots)) (λ v. omega arith)) in
          record {
            low = omega arith;
            slots_are = simp length-set j.slots_are;
            holds = λ v. rw (behind_a, fb, fc)
                (omega (arith, times_more k L' A here a_low v, ap (times v) fa, kept.holds v, parts v h));
            sized = rw (behind_a, fb, fc)
                (omega (arith, length_more k L' A here a_low, ap length fa, kept.sized, j.sized, length_at k L A a_low, length_at k L B₀.slots b_low));
            same = λ v p. same_then L₀ L L' v (j.same v p) (kept.same v (omega (arith, parts v h)));
            long = kept.long ∙ j.long;
            rest_is = omega (arith, j.rest_is, value_at k B₀.slots b_low, filled_low (get_or B₀.slots k None));
          }

    pub joining_next : k < slot_count → {here next : Option ℕ} {L' : List ℕ} → Sums L (get_or A k None) (get_or B₀.slots k None) carry here next L'
        → Joining L₀ A₀ B₀ L' (set A k here) next (k + 1) (rest / 2)
    joining_next h s =
        let kept = keeps k L (get_or A k None) (get_or B₀.slots k None) carry (joining_ready h) (λ v. omega (arith, parts v h, ok.apart v)) in
        rw (add-one k, s.here_is, s.carry_is, s.links_are) (next_joining h kept)

    module _ (h : rest ≡ 0) (z : carry ≡ None) where
      second_none : contents_from k L (drop k B₀.slots) ≡ []
      second_none = none_left k L (drop k B₀.slots) (omega (arith, j.rest_is))

      first_is : contents_from 0 L A ≡ contents_from 0 L (take k A) ++ contents_from k L (drop k A)
      first_is = contents_split k L A (omega (arith, j.low, j.slots_are))

      end_holds : (v : ℕ) → times v (contents_from 0 L A) ≡ times v (contents L₀ A₀) + times v (contents L₀ B₀)
      unfolding sum
      end_holds v =
          omega (
            arith,
            ap (times v) first_is,
            sum_append (hit v) (contents_from 0 L (take k A)) (contents_from k L (drop k A)),
            rw (z, second_none) at (j.holds v),
          )

      end_sized : length (contents_from 0 L A) ≡ length (contents L₀ A₀) + length (contents L₀ B₀)
      end_sized =
          omega
          (arith, ap length first_is, length-append (contents_from 0 L (take k A)) (contents_from k L (drop k A)), rw (z, second_none) at j.sized)

      pub joining_end : Joins L₀ A₀ B₀ L (record { slots = A; size = A₀.size + B₀.size }) empty
      joining_end =
          record {
            joined = becomes L₀ L (record { slots = A; size = A₀.size + B₀.size }) (λ (v : ℕ). times v (contents L₀ A₀) + times v (contents L₀ B₀))
                (length (contents L₀ A₀) + length (contents L₀ B₀)) ok.apart linked ok.first.few j.long j.slots_are end_holds end_sized
                (omega (arith, ok.first.counted, ok.second.counted)) j.same;
            emptied = refl;
          }
