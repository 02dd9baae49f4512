-- Runs whose pairs stand at the end of a stretch: one more, and all of them brought to its beginning.
use mathlib.Core.Path.{◌≡◌, refl, sym, ap, ◌∙◌}
use mathlib.Core.List.{List, [], ◌∷◌, ◌++◌}
use Prim.Native.Nat.{ℕ, zero, suc, ◌+◌, ◌-◌, ◌*◌, ◌≤◌, ◌<◌}
use native.Mathlib.Numerals.{add-one}
use native.Mathlib.Omega.{arith}
use lib.ListN.{length, get_or, set, take, drop, length-set, length-append, length-drop}
use lib.Seq.{get_or_at, get_or-drop, take_at, paste, length-paste, length-take-le}
use Rattle.laws.proofs.Stores.{get_or_past}
use Rattle.machine.specs.Run.{Run, run, pairs}
use Rattle.worker.specs.Stretch.{Told, top_with, EndsWith}
use Rattle.worker.proofs.Pairs.{length_pairs, pairs_append}

-- no runs
pub ends_none : (s : List ℕ) → EndsWith s (length s) []
unfolding pairs
ends_none s = record { words = drop_all s; place = omega arith }
  where
    drop_all : (l : List ℕ) → drop (length l) l ≡ []
    drop_all [] = refl
    drop_all (x ∷ l) = drop_all l

-- two words written, and what stands from there on
drop_two : (k : ℕ) (s : List ℕ) (f e : ℕ) → suc k < length s → drop k (set (set s k f) (suc k) e) ≡ f ∷ e ∷ drop (suc (suc k)) s
drop_two k [] f e h = absurd (omega arith)
drop_two zero (x ∷ []) f e h = absurd (omega arith)
drop_two zero (x ∷ y ∷ s) f e h = refl
drop_two (suc k) (x ∷ s) f e h = drop_two k s f e (omega arith)

-- a run to be followed after these
pub ends_more : {s : List ℕ} {at : ℕ} {rs : List Run} → EndsWith s at rs → (f d e : ℕ) → e ≡ f + suc d → 2 ≤ at
    → EndsWith (set (set s (at - 2) f) (at - 2 + 1) e) (at - 2) (rs ++ (run f d ∷ []))
unfolding pairs
ends_more {s} {at} {rs} x f d e is room =
    let one : at - 2 + 1 ≡ suc (at - 2) = add-one (at - 2) in
    let two : suc (suc (at - 2)) ≡ at = omega arith in
    record {
      words =
          rw (one, drop_two (at - 2) s f e (omega (arith, x.place)), two, x.words, is, pairs_append rs (run f d ∷ []));
      place = rw (length-append, length-set, length-set) (omega (arith, x.place));
    }

-- the first of them is the run that is followed, the others come to the beginning
module _ (s : List ℕ) (at f j : ℕ) (rs : List Run) (x : EndsWith s at (run f j ∷ rs)) where
  count : length s - 2 - at ≡ 2 * length rs
  count = omega (arith, x.place)

  pair_words : drop at s ≡ pairs rs ++ (f ∷ (f + suc j) ∷ [])
  unfolding pairs
  pair_words = x.words

  place : length (pairs rs) ≡ length s - 2 - at
  place = length_pairs rs ∙ sym count

  word : (i : ℕ) → get_or s (length s - 2 + i) 0 ≡ get_or (pairs rs ++ (f ∷ (f + suc j) ∷ [])) (length s - 2 - at + i) 0
  word i =
      let n : length s - 2 + i ≡ at + (length s - 2 - at + i) = omega (arith, x.place) in
      ap (λ (k : ℕ). get_or s k 0) n
      ∙ sym (get_or-drop at s (length s - 2 - at + i) 0)
      ∙ ap (λ (l : List ℕ). get_or l (length s - 2 - at + i) 0) pair_words

  pub lower_first : get_or s (length s - 2) 0 ≡ f
  lower_first =
      let n : length s - 2 ≡ length s - 2 + 0 = omega arith in
      let m : length s - 2 - at + 0 ≡ length s - 2 - at = omega arith in
      ap (λ (k : ℕ). get_or s k 0) n
      ∙ word 0
      ∙ ap (λ (k : ℕ). get_or (pairs rs ++ (f ∷ (f + suc j) ∷ [])) k 0) m
      ∙ get_or_at (pairs rs) f _ 0 (length s - 2 - at) place

  pub lower_end : get_or s (length s - 2 + 1) 0 ≡ f + suc j
  lower_end = word 1 ∙ get_or_past (pairs rs) _ (length s - 2 - at) 1 0 place

  source : length s - 2 - at ≤ length (drop at s)
  source = rw length-drop (omega arith)

  lower_words : take (length s - 2 - at) (paste s 0 (drop at s) (length s - 2 - at)) ≡ pairs rs
  lower_words =
      take_at (take (length s - 2 - at) (drop at s)) _ (length s - 2 - at) (length-take-le (length s - 2 - at) (drop at s) source)
      ∙ ap (λ (l : List ℕ). take (length s - 2 - at) l) pair_words
      ∙ take_at (pairs rs) _ (length s - 2 - at) place

  pub lowered_run : Told (run f j ∷ rs) (top_with (length s - 2 - at) (get_or s (length s - 2) 0) (get_or s (length s - 2 + 1) 0))
      (paste s 0 (drop at s) (length s - 2 - at))
  lowered_run =
      record {
        top = rw (count, lower_first, lower_end) refl;
        holds =
            record {
              words = ap (λ (k : ℕ). take k (paste s 0 (drop at s) (length s - 2 - at))) (sym count) ∙ lower_words;
              count = refl;
              room = omega (arith, length-paste s 0 (drop at s) (length s - 2 - at) (omega arith) source, x.place);
            };
      }

pub lowered : (s : List ℕ) (at : ℕ) (rs : List Run) → EndsWith s at rs → 0 < length rs
    → Told rs (top_with (length s - 2 - at) (get_or s (length s - 2) 0) (get_or s (length s - 2 + 1) 0)) (paste s 0 (drop at s) (length s - 2 - at))
lowered s at [] x h = absurd (omega arith)
lowered s at (run f j ∷ rs) x h = lowered_run s at f j rs x
