-- Runs as words: the pairs of runs, and a pair pushed onto them or taken off.
use mathlib.Core.Path.{◌≡◌, refl, sym, ap, ◌∙◌}
use mathlib.Core.List.{List, [], ◌∷◌, ◌++◌, append_assoc, append-nil}
use Prim.Native.Nat.{ℕ, suc, ◌+◌, ◌-◌, ◌*◌, ◌≤◌}
use native.Mathlib.Numerals.{add-one}
use native.Mathlib.Omega.{arith}
use lib.ListN.{length, get_or, set, take, length-set, length-append}
use lib.Seq.{get_or_at, get_or-take, take_at, take-suc-set, take-take}
use Rattle.laws.proofs.Stores.{get_or_past}
use Rattle.machine.specs.Run.{Run, run, pairs}
use Rattle.worker.specs.Stretch.{Holds}

pub length_pairs : (rs : List Run) → length (pairs rs) ≡ 2 * length rs
unfolding pairs
length_pairs [] = refl
length_pairs (run f k ∷ rs) = rw length-append (omega (arith, length_pairs rs))

pub pairs_append : (xs ys : List Run) → pairs (xs ++ ys) ≡ pairs ys ++ pairs xs
unfolding pairs
pairs_append [] ys = rw append-nil
pairs_append (run f k ∷ xs) ys = rw (pairs_append xs ys, append_assoc)

-- no runs are no words
pub holds_none : (s : List ℕ) → Holds s 0 []
unfolding pairs
holds_none s = record { words = refl; count = refl; room = omega arith }

-- the same words in another stretch
pub holds_same : {s : List ℕ} {used : ℕ} {rs : List Run} → Holds s used rs → (s' : List ℕ) → take used s' ≡ take used s → used ≤ length s'
    → Holds s' used rs
holds_same h s' e room = record { words = e ∙ h.words; count = h.count; room = room }

module _ (s : List ℕ) (used : ℕ) (rs : List Run) (h : Holds s used rs) where
  -- a pair pushed
  pub holds_push : (f d g : ℕ) → g ≡ f + suc d → used + 2 ≤ length s → Holds (set (set s used f) (used + 1) g) (used + 2) (run f d ∷ rs)
  unfolding pairs
  holds_push f d g e room =
      let two : used + 2 ≡ suc (used + 1) = omega arith in
      record {
        words =
            rw (two, take-suc-set (set s used f) (used + 1) g (simp length-set (omega arith)), add-one used, take-suc-set s used f (omega arith), h.words, e, append_assoc);
        count = omega (arith, h.count);
        room = simp length-set (omega arith);
      }

module _ (s : List ℕ) (used f j : ℕ) (rs : List Run) (h : Holds s used (run f j ∷ rs)) where
  pair_words : take used s ≡ pairs rs ++ (f ∷ (f + suc j) ∷ [])
  unfolding pairs
  pair_words = h.words

  place : length (pairs rs) ≡ used - 2
  place = length_pairs rs ∙ omega (arith, h.count)

  -- the uppermost pair taken off
  pub holds_pop : Holds s (used - 2) rs
  holds_pop =
      record {
        words =
            sym (take-take (used - 2) used s (omega arith)) ∙ ap (λ (l : List ℕ). take (used - 2) l) pair_words ∙ take_at (pairs rs) _ (used - 2) place;
        count = omega (arith, h.count);
        room = omega (arith, h.room);
      }

  -- its two words
  pub pop_first : get_or s (used - 2) 0 ≡ f
  pop_first =
      sym (get_or-take used s (used - 2) 0 (omega (arith, h.count)))
      ∙ ap (λ (l : List ℕ). get_or l (used - 2) 0) pair_words
      ∙ get_or_at (pairs rs) f _ 0 (used - 2) place

  pub pop_end : get_or s (used - 2 + 1) 0 ≡ f + suc j
  pop_end =
      sym (get_or-take used s (used - 2 + 1) 0 (omega (arith, h.count)))
      ∙ ap (λ (l : List ℕ). get_or l (used - 2 + 1) 0) pair_words
      ∙ get_or_past (pairs rs) _ (used - 2) 1 0 place
