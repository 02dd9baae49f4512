-- A list that stands in the order of its keys already: grouping leaves it as it is.
use mathlib.Core.Path.{◌≡◌, refl, ap, sym, ◌∙◌}
use mathlib.Core.List.{List, [], ◌∷◌, ◌++◌, append-nil}
use mathlib.Core.Logic.{by_cases, ◌≢◌}
use Prim.Native.Nat.{ℕ, zero, suc, ◌≤◌, ◌<◌}
use native.Mathlib.Decide.{ℕ_discrete}
use native.Mathlib.Omega.{arith}
use lib.ListN.{length}
use Rattle.laws.specs.Every.{Every}
use Rattle.laws.specs.Grouping.{part, grouped, below}
use Rattle.laws.proofs.Every.{every_append, every_map}
use Rattle.laws.proofs.Grouping.{part_same, part_other, length_grouped}
use Rattle.laws.proofs.Laying.{part_append}

module _ {A : Type 0} (key : A → ℕ) where
  part_none : (v : ℕ) (s : List A) → Every (λ (x : A). key x ≢ v) s → part key v s ≡ []
  unfolding part
  part_none v [] h = refl
  part_none v (x ∷ s) h = part_other key v x s (λ e. h.0 (sym e)) ∙ part_none v s h.1

  part_all : (v : ℕ) (s : List A) → Every (λ (x : A). key x ≡ v) s → part key v s ≡ s
  unfolding part
  part_all v [] h = refl
  part_all v (x ∷ s) h = part_same key v x s (sym h.0) ∙ ap (λ (l : List A). x ∷ l) (part_all v s h.1)

  -- blocks f 0, f 1, .., each of one key, and the first v of them laid end to end
  module _ (f upto : ℕ → List A) (none : upto 0 ≡ []) (next : (v : ℕ) → upto (suc v) ≡ upto v ++ f v)
      (keys : (v : ℕ) → Every (λ (x : A). key x ≡ v) (f v)) where
    pub keys_below : (v : ℕ) → Every (λ (x : A). key x < v) (upto v)
    keys_below zero = rw none tt
    keys_below (suc v) =
        rw (next v)
        (every_append (λ (x : A). key x < suc v) (upto v) (f v)
        (every_map (λ (x : A). key x < v) (λ (x : A). key x < suc v) (upto v) (λ x h. omega arith) (keys_below v))
        (every_map (λ (x : A). key x ≡ v) (λ (x : A). key x < suc v) (f v) (λ x h. omega arith) (keys v)))

    -- each part is its block
    part_is : (n v : ℕ) → v < n → part key v (upto n) ≡ f v
    part_is zero v h = absurd (omega arith)
    part_is (suc n) v h =
        rw (next n, part_append key v (upto n) (f n))
        (by_cases (ℕ_discrete v n)
        (λ (e : v ≡ n).
        rw (e, part_none n (upto n) (every_map (λ (x : A). key x < n) (λ (x : A). key x ≢ n) (upto n) (λ x g z. omega (arith, g, z)) (keys_below n)))
        (part_all n (f n) (keys n)))
        (λ e.
        rw (part_is n v (omega (arith, e)), part_none v (f n) (every_map (λ (x : A). key x ≡ n) (λ (x : A). key x ≢ v) (f n) (λ x g z. e (sym z ∙ g)) (keys n)))
        (append-nil (f v))))

    grouped_upto : (n v : ℕ) → v ≤ n → grouped key v (upto n) ≡ upto v
    unfolding grouped
    grouped_upto n zero h = sym none
    grouped_upto n (suc v) h = rw (grouped_upto n v (omega arith), part_is n v h) (sym (next v))

    pub grouped_is : (n : ℕ) → grouped key n (upto n) ≡ upto n
    grouped_is n = grouped_upto n n (omega arith)

    pub below_is : (n v : ℕ) → v ≤ n → below key v (upto n) ≡ length (upto v)
    below_is n v h = sym (length_grouped key v (upto n)) ∙ ap length (grouped_upto n v h)
