-- Where the marks are the live set, the dead objects are those to which no chain leads.
use mathlib.Core.Path.{◌≡◌, refl, sym, subst}
use mathlib.Core.List.{List, [], ◌∷◌}
use mathlib.Core.Logic.{by_cases, ◌↔◌}
use native.Mathlib.Decide.{dec_le}
use native.Mathlib.Nat.{zero-add}
use native.Mathlib.Omega.{arith}
use Prim.Native.Nat.{ℕ, zero, suc, ◌+◌, ◌≤◌, ◌<◌}
use lib.ListN.{length, get_or}
use lib.Seq.{take_at}
use Rattle.laws.specs.Sum.{sum, hit}
use Rattle.laws.proofs.Sum.{hit_same, hit_equal}
use Rattle.graph.specs.Graph.{Graph, objects}
use Rattle.graph.specs.Chain.{Reach}
use Rattle.machine.specs.Demand2.{LiveMarks}
use Rattle.sweep.specs.Sweep.{dead_from, dead, Row, refused_row, fault, sweeping, list_after}
use Rattle.sweep.specs.Collection.{UpwardsFrom, listed, Collection}

-- where a listed number stands among the marks
record Place (b v : ℕ) (ms : List ℕ) : Type 0 where
  pub place : ℕ
  pub is : v ≡ b + place
  pub inside : place < length ms
  pub unmarked : get_or ms place 0 ≡ 0

later : (b v x : ℕ) (ms : List ℕ) → Place (suc b) v ms → Place b v (x ∷ ms)
later b v x ms p =
    let e = p.is in
    let i = p.inside in
    record { place = suc p.place; is = omega arith; inside = omega arith; unmarked = p.unmarked }

-- a listed number is that of an unmarked object
dead_place : (b : ℕ) (ms : List ℕ) (v : ℕ) → 0 < sum (hit v) (dead_from b ms) → Place b v ms
unfolding dead_from sum
dead_place b [] v h = absurd (omega arith)
dead_place b (zero ∷ ms) v h =
    by_cases (dec_le 1 (hit v b))
    (λ (p : 1 ≤ hit v b). let e = hit_equal v b p in record { place = 0; is = omega arith; inside = omega arith; unmarked = refl })
    (λ (p : 1 ≤ hit v b → ⊥). later b v 0 ms (dead_place (suc b) ms v (omega arith)))
dead_place b (suc x ∷ ms) v h = later b v (suc x) ms (dead_place (suc b) ms v h)

-- and every unmarked object is listed
place_dead : (b : ℕ) (ms : List ℕ) (i : ℕ) → i < length ms → get_or ms i 0 ≡ 0 → 0 < sum (hit (b + i)) (dead_from b ms)
unfolding dead_from sum
place_dead b [] i h z = absurd (omega arith)
place_dead b (zero ∷ ms) zero h z =
    let e : b + 0 ≡ b = omega arith in
    rw e (omega (arith, hit_same b))
place_dead b (zero ∷ ms) (suc i) h z =
    let e : b + suc i ≡ suc b + i = omega arith in
    subst (λ (k : ℕ). 0 < hit k b + sum (hit k) (dead_from (suc b) ms)) (sym e) (omega (arith, place_dead (suc b) ms i (omega arith) z))
place_dead b (suc x ∷ ms) zero h z = absurd (omega arith)
place_dead b (suc x ∷ ms) (suc i) h z =
    let e : b + suc i ≡ suc b + i = omega arith in
    rw e (place_dead (suc b) ms i (omega arith) z)

-- the numbers go upwards
lower : (b : ℕ) (vs : List ℕ) → UpwardsFrom (suc b) vs → UpwardsFrom b vs
lower b [] u = tt
lower b (v ∷ vs) u = let h = u.0 in (omega arith, u.1)

pub dead_upwards : (b : ℕ) (ms : List ℕ) → UpwardsFrom b (dead_from b ms)
unfolding dead_from
dead_upwards b [] = tt
dead_upwards b (zero ∷ ms) = (omega arith, dead_upwards (suc b) ms)
dead_upwards b (suc x ∷ ms) = lower b (dead_from (suc b) ms) (dead_upwards (suc b) ms)

zero_or : (x : ℕ) → (0 < x → ⊥) → x ≡ 0
zero_or zero h = refl
zero_or (suc x) h = absurd (h (omega arith))

-- listed are the unmarked objects, and no others
listed_is : (ms : List ℕ) (v : ℕ) → 0 < sum (hit v) (dead ms) → (v < length ms) × (get_or ms v 0 ≡ 0)
listed_is ms v h =
    let p = dead_place 0 ms v h in
    let e : v ≡ p.place = omega (arith, p.is) in
    rw e (p.inside, p.unmarked)

is_listed : (ms : List ℕ) (v : ℕ) → v < length ms → (0 < get_or ms v 0 → ⊥) → 0 < sum (hit v) (dead ms)
is_listed ms v h z = rw zero-add at (place_dead 0 ms v h (zero_or (get_or ms v 0) z))

-- the dead, where the marks are the live set
module _ {G : Graph} {starts marks : List ℕ} (m : LiveMarks G starts marks) where
  pub dead_exactly : (v : ℕ) → (0 < sum (hit v) (dead marks)) ↔ ((v < objects G) × (Reach G starts v → ⊥))
  dead_exactly v = (
    λ h. (omega (arith, m.long, (listed_is marks v h).0), λ r. omega (arith, (m.exactly v).1 r, (listed_is marks v h).1)),
    λ p. is_listed marks v (omega (arith, m.long, p.0)) (λ q. p.1 ((m.exactly v).0 q)),
  )

-- what was answered and listed by the definition
module _ (marks sizes before : List ℕ) {r : Row} {list : List ℕ} (d : (r ≡ sweeping marks sizes before) × (list ≡ list_after marks sizes before)) where
  listed_dead : fault marks sizes before ≡ 0 → listed r list ≡ dead marks
  listed_dead e = rw (d.0, d.1, e) (take_at (dead marks) _ (length (dead marks)) refl)

  collected_by : (k : ℕ) → fault marks sizes before ≡ k → Collection marks r list
  unfolding sum
  collected_by zero e =
      let l = listed_dead e in
      record {
        upwards = rw l (dead_upwards 0 marks);
        objects_only = λ v h. (listed_is marks v (rw l at h)).0;
        exactly = λ n G starts m v. rw l (dead_exactly m v);
      }
  collected_by (suc k) e =
      let refused : r ≡ refused_row (suc k) = rw (d.0, e) in
      let none : listed r list ≡ [] = rw refused in
      let n : r.number ≡ suc k = rw refused in
      record {
        upwards = rw none tt;
        objects_only = λ v h. absurd (let z = rw none at h in omega arith);
        exactly = λ z G starts m v. absurd (omega arith);
      }

  -- and with it what a sweep promises after a finished marking
  pub collected : (r ≡ sweeping marks sizes before) × ((list ≡ list_after marks sizes before) × Collection marks r list)
  collected = (d.0, (d.1, collected_by (fault marks sizes before) refl))
