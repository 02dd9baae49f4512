-- The leases, which go to the end of the bytes: their faults, and what they are where they have none.
use mathlib.Core.Path.{◌≡◌, refl, ap, sym, ◌∙◌}
use mathlib.Core.List.{List, [], ◌∷◌, ◌++◌, flat_map}
use Prim.Native.Nat.{ℕ, zero, suc, ◌+◌, ◌*◌, ◌-◌, ◌≤◌, ◌<◌}
use native.Mathlib.Omega.{arith}
use lib.ListN.{length, drop, length-drop, drop_of_length-le}
use lib.Seq.{drop-drop, drop-cons}
use Rattle.laws.specs.Every.{Every}
use Rattle.laws.specs.Words.{le}
use Rattle.refusal.specs.declared.Refusal.{Refusal}
use Rattle.refusal.specs.Number.{number}
use Rattle.refusal.specs.Order.{first}
use Rattle.refusal.proofs.Numbers.{first_found}
use Rattle.refusal.proofs.None.{first_none}
use Rattle.graph.specs.Limits.{most_objects}
use Rattle.records.specs.Store.{most_leases}
use Rattle.records.specs.Layout.{lease, lease_record}
use Rattle.records.specs.Reading.{nothing, record_fault, surplus_fault, lease_faults}
use Rattle.catalogue.proofs.Faults.{GoodLease, good_lease_record, never_good}
use Rattle.catalogue.proofs.Forms.{EachRecord, lease_form}

-- ---- at a place

pub surplus_some : (n at : ℕ) (b : List ℕ) → at < length b → record_fault nothing n (drop at b) ≡ surplus_fault n (drop at b)
surplus_some n at b h = rw (drop-cons b at 0 h)

-- at the end of the bytes, and before it
leases_none : (n k : ℕ) → lease_faults n k [] ≡ 0
unfolding lease_faults
leases_none n zero = refl
leases_none n (suc k) = refl

leases_some : (n k : ℕ) (b : List ℕ) → 0 < length b
    → lease_faults n (suc k) b ≡ first (record_fault lease n b) (lease_faults n k (drop 8 b))
unfolding lease_faults
leases_some n k [] h = absurd (omega arith)
leases_some n k (x ∷ b) h = refl

-- the loop over the leases: so many may still come, and what is left to check is the answer
pub record Leases (n : ℕ) (b : List ℕ) (from at left : ℕ) : Type 0 where
  pub there : at ≤ length b
  pub few : left ≤ most_leases
  pub rest : lease_faults n left (drop at b) ≡ lease_faults n most_leases (drop from b)

pub leases_begin : (n : ℕ) (b : List ℕ) (from : ℕ) → from ≤ length b → Leases n b from from most_leases
leases_begin n b from h = record { there = h; few = omega arith; rest = refl }

module _ {n : ℕ} {b : List ℕ} {from at left : ℕ} (a : Leases n b from at left) where
  pub leases_done : at ≡ length b → 0 ≡ lease_faults n most_leases (drop from b)
  leases_done h =
      sym (leases_none n left) ∙ ap (lease_faults n left) (sym (drop_of_length-le b {i = at} (omega (arith, h)))) ∙ a.rest

  pub leases_over : left ≤ 0 → surplus_fault n (drop at b) ≡ lease_faults n most_leases (drop from b)
  unfolding lease_faults
  leases_over h = let e : left ≡ 0 = omega arith in rw e at a.rest

  module _ (some : 0 < left) (h : (at ≡ length b → ⊥)) where
    before_end : 0 < length (drop at b)
    before_end = rw length-drop (omega (arith, a.there, h))

    step : first (record_fault lease n (drop at b)) (lease_faults n (left - 1) (drop (at + 8) b)) ≡ lease_faults n most_leases (drop from b)
    step =
        let e : left ≡ suc (left - 1) = omega arith in
        sym (rw drop-drop at (leases_some n (left - 1) (drop at b) before_end)) ∙ ap (λ (k : ℕ). lease_faults n k (drop at b)) (sym e) ∙ a.rest

    pub leases_fault : (f : Refusal) → number f ≡ record_fault lease n (drop at b) → number f ≡ lease_faults n most_leases (drop from b)
    leases_fault f e = first_found f (record_fault lease n (drop at b)) (lease_faults n (left - 1) (drop (at + 8) b)) e ∙ step

    pub leases_next : record_fault lease n (drop at b) ≡ 0 → Leases n b from (at + 8) (left - 1)
    leases_next e =
        record {
          there = omega (arith, a.there, rw length-drop at (good_lease_record n (drop at b) e).frame.long);
          few = omega (arith, a.few);
          rest = rw e at step;
        }

-- ---- without a fault

pub no_more : (n : ℕ) (b : List ℕ) → surplus_fault n b ≡ 0 → b ≡ []
no_more n [] h = refl
no_more n (x ∷ b) h = absurd (never_good n (x ∷ b) h)

-- so many leases, and nothing more
pub record Leased (n most : ℕ) (b : List ℕ) : Type 0 where
  pub count : ℕ
  pub few : count ≤ most
  pub length_is : length b ≡ 8 * count
  pub each : EachRecord 8 (GoodLease n) count b

leased_more : {n most : ℕ} {b : List ℕ} → GoodLease n b → Leased n most (drop 8 b) → Leased n (suc most) b
leased_more g l =
    record {
      count = suc l.count;
      few = omega (arith, l.few);
      length_is = omega (arith, g.frame.long, rw length-drop at l.length_is);
      each = (g, l.each);
    }

pub leased : (n most : ℕ) (b : List ℕ) → lease_faults n most b ≡ 0 → Leased n most b
unfolding lease_faults
leased n zero b h = record { count = 0; few = omega arith; length_is = ap length (no_more n b h); each = tt }
leased n (suc most) [] h = record { count = 0; few = omega arith; length_is = refl; each = tt }
leased n (suc most) (x ∷ b) h =
    let p = first_none (record_fault lease n (x ∷ b)) (lease_faults n most (drop 8 (x ∷ b))) h in
    leased_more (good_lease_record n (x ∷ b) p.0) (leased n most (drop 8 (x ∷ b)) p.1)

-- ---- written

some_bytes : (x : ℕ) (rest : List ℕ) → 0 < length (lease_record x ++ rest)
unfolding le
some_bytes x rest = omega arith

pub written_leases : {n : ℕ} → n ≤ most_objects → (most : ℕ) (xs : List ℕ) → length xs ≤ most → Every (λ (x : ℕ). x < n) xs
    → lease_faults n most (flat_map lease_record xs) ≡ 0
unfolding flat_map
written_leases {n} few most [] h e = leases_none n most
written_leases {n} few zero (x ∷ xs) h e = absurd (omega arith)
written_leases {n} few (suc most) (x ∷ xs) h e =
    let rest = flat_map lease_record xs in
    let F = lease_form few in
    leases_some n most (lease_record x ++ rest) (some_bytes x rest)
    ∙ rw (F.clear x rest e.0, F.behind x rest) (written_leases few most xs (omega arith) e.1)
