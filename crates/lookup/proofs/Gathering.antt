-- The tails of names are gathered one after the other.
use Rattle.std.proofs.Common.{◌≡◌, ℕ, ◌+◌, ◌-◌, ◌*◌, ◌/◌, ◌<◌, ◌≤◌, Bool, true, false, List, length, set, ◌∙◌, ⊎_elim, arith, length-set, get_or, get_or-set_other, rules}
use Rattle.std.proofs.lemmas.List.{places}
use borrow.Rule.Slice.PartMut.{put_mid}
use mathlib.Core.Logic.{by_cases}
use native.Mathlib.Decide.{dec_lt}
use Rattle.laws.proofs.Sum.{hit_same}
use Rattle.laws.proofs.Test.{tested}
use Rattle.slices.specs.Bits.{bit, Inserts, word_bits}
use Rattle.names.specs.Call.{work_word_count}
use Rattle.lookup.specs.Index.{tail_bytes, tail_values, tail_at, Indexed, KeepsSet}
use Rattle.lookup.proofs.Tails.{tail_low}

bit_low : (ws : List ℕ) (i : ℕ) → bit ws i < 2
unfolding bit
bit_low ws i = omega arith

-- what was put in is there, and what was there stays
module _ {ws : List ℕ} {i : ℕ} {r : Bool} {ws' : List ℕ} (x : Inserts ws i r ws') where
  inserted : bit ws' i ≡ 1
  inserted =
      ⊎_elim
      (λ (p : r ≡ true). omega (arith, x.fresh p i, hit_same i, bit_low ws' i))
      (λ (p : r ≡ false). omega (arith, x.same p i, x.there p))
      (tested r)

  stays : (j : ℕ) → bit ws j ≡ 1 → bit ws' j ≡ 1
  stays j e =
      ⊎_elim
      (λ (p : r ≡ true). omega (arith, x.fresh p j, bit_low ws' j))
      (λ (p : r ≡ false). omega (arith, x.same p j))
      (tested r)

-- ---- what is written behind the set

-- a word behind it
keeps_set : (index : List ℕ) (i x : ℕ) → tail_values ≤ word_bits * i → KeepsSet index (set index i x)
unfolding bit
keeps_set index i x h =
    record {
      long = length-set index i x;
      same = λ (v : ℕ) (l : v < tail_values). rw (get_or-set_other index i (v / word_bits) x 0 (λ (e : v / word_bits ≡ i). omega arith));
    }

-- all that is behind it
module _ (a n : ℕ) (index hints : List ℕ) (l : length index ≡ a + n) (h : length hints ≡ n) where
  part_long : length (put_mid a n index hints) ≡ length index
  part_long = search (rules, places)

  part_kept : (i : ℕ) → i < a → get_or (put_mid a n index hints) i 0 ≡ get_or index i 0
  part_kept i g = search (rules, places)

pub keeps_part : (index hints : List ℕ) (n : ℕ) → length index ≡ 131072 + n → length hints ≡ n → KeepsSet index (put_mid 131072 n index hints)
unfolding bit
keeps_part index hints n e l =
    record {
      long = part_long 131072 n index hints e l;
      same = λ (v : ℕ) (h : v < tail_values). rw (part_kept 131072 n index hints e l (v / word_bits) (omega arith));
    }

-- ---- the tails

-- those of the first k names
pub record IndexedTo (names : List ℕ) (w k : ℕ) (index : List ℕ) : Type 0 where
  pub long : length index ≡ work_word_count
  pub kept : (j : ℕ) → j < k → bit index (tail_at names (j * w + w - tail_bytes)) ≡ 1

pub indexed_next : {names : List ℕ} {w k : ℕ} {index : List ℕ} → IndexedTo names w k index → {v : ℕ} {r : Bool} {index' : List ℕ}
    → v ≡ tail_at names (k * w + w - tail_bytes) → Inserts index v r index' → length index' ≡ length index → IndexedTo names w (k + 1) index'
indexed_next {names} {w} {k} g {v} e x l =
    record {
      long = omega (arith, l, g.long);
      kept = λ (j : ℕ) (h : j < k + 1).
          by_cases (dec_lt j k)
          (λ (q : j < k). stays x (tail_at names (j * w + w - tail_bytes)) (g.kept j q))
          (λ (q : ¬ (j < k)). let s : j ≡ k = omega arith in rw (s, ← e) (inserted x));
    }

-- what is behind the set may change
pub indexed_kept : {names : List ℕ} {w k : ℕ} {index : List ℕ} → IndexedTo names w k index → {index' : List ℕ} → KeepsSet index index'
    → IndexedTo names w k index'
indexed_kept {names} {w} g s =
    record {
      long = s.long ∙ g.long;
      kept = λ j h. let p = j * w + w - tail_bytes in s.same (tail_at names p) (tail_low names p) ∙ g.kept j h;
    }

pub hinted : {names : List ℕ} {w k : ℕ} {index : List ℕ} → IndexedTo names w k index → (i x : ℕ) → tail_values ≤ word_bits * i
    → IndexedTo names w k (set index i x)
hinted {index = index} g i x h = indexed_kept g (keeps_set index i x h)

-- so is an index once the hints are filled in
pub filled : {names : List ℕ} {w count : ℕ} {index index' : List ℕ} → Indexed names w count index → KeepsSet index index' → Indexed names w count index'
filled {names} {w} g s =
    record {
      long = s.long ∙ g.long;
      kept = λ f j h. let p = j * w + w - tail_bytes in s.same (tail_at names p) (tail_low names p) ∙ g.kept f j h;
    }
