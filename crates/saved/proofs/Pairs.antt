-- The pairs of a list, and the words that they are.
use Rattle.std.proofs.Common.{◌≡◌, ℕ, zero, suc, ◌+◌, ◌*◌, ◌/◌, ◌<◌, List, [], length, get_or, drop, ap, ◌∙◌, arith}
use Rattle.std.specs.Simd.{first_chunks}
use lib.Seq.{get_or-take, get_or-drop}

-- word k of pair i
pair_word : (l : List ℕ) (c i k : ℕ) → i < c → k < 2 → get_or (get_or (first_chunks 2 c l) i []) k 0 ≡ get_or l (2 * i + k) 0
pair_word l zero i k h q = absurd (omega arith)
pair_word l (suc c) zero k h q = get_or-take 2 l k 0 q ∙ ap (λ (j : ℕ). get_or l j 0) (omega arith)
pair_word l (suc c) (suc i) k h q =
    pair_word (drop 2 l) c i k (omega arith) q ∙ get_or-drop 2 l (2 * i + k) 0 ∙ ap (λ (j : ℕ). get_or l j 0) (omega arith)

-- pair i of those of the list
pub record PairAt (l : List ℕ) (ps : List (List ℕ)) (i : ℕ) : Type 0 where
  pub inside : 2 * i + 1 < length l
  pub first : get_or (get_or ps i []) 0 0 ≡ get_or l (2 * i) 0
  pub second : get_or (get_or ps i []) 1 0 ≡ get_or l (2 * i + 1) 0

pub pair_at : (l : List ℕ) {ps : List (List ℕ)} {i : ℕ} → ps ≡ first_chunks 2 (length l / 2) l → length ps ≡ length l / 2 → i < length ps → PairAt l ps i
pair_at l {i = i} front count h =
    record {
      inside = omega arith;
      first = rw front (pair_word l (length l / 2) i 0 (omega arith) (omega arith) ∙ ap (λ (j : ℕ). get_or l j 0) (omega arith));
      second = rw front (pair_word l (length l / 2) i 1 (omega arith) (omega arith));
    }
