-- Hop counts drawn: a chain of store S, its counts, and the count where none leads.
use Rattle.std.specs.Prelude.{◌≡◌, refl, List, [], ◌∷◌, ℕ, zero, suc, ◌+◌, ◌*◌, ◌≤◌, ◌<◌}
use Rattle.std.proofs.Math.Logic.{by_cases}
use Rattle.std.proofs.Math.Decide.{ℕ_discrete}
use Rattle.std.proofs.Common.{arith}
use Rattle.laws.specs.Sum.{sum, hit}
use Rattle.graph.specs.Graph.{Graph, Leaves, graph, target}
use Rattle.layers.specs.Hops.{none, Chain, here, on, hop_of, HopsOf}

-- store S: 0→1, 0→2, 1→3, 2→3, 3→0, 5→4
abbrev pub offsets_S : List ℕ
offsets_S = 0 ∷ 2 ∷ 3 ∷ 4 ∷ 5 ∷ 5 ∷ 6 ∷ []

abbrev pub targets_S : List ℕ
targets_S = 1 ∷ 2 ∷ 3 ∷ 3 ∷ 0 ∷ 4 ∷ []

abbrev pub S : Graph
S = graph offsets_S targets_S

-- the index alone is a start
abbrev pub one : List ℕ
one = 0 ∷ []

-- a chain of two references from the index to object 3: numbers 1 and 3
pub chain_holds : Chain S one 2 3
unfolding sum hit
chain_holds =
    on 3 (on 1 (here {v = 0} (omega arith)) (record { object = omega arith; from = omega arith; below = omega arith }))
    (record { object = omega arith; from = omega arith; below = omega arith })

-- a reference more: the object's number is at most twice the chain's length, and below 4
step_S : (k u e : ℕ) → u ≤ 2 * k → u < 4 → Leaves S e u → (target S e ≤ 2 * suc k) × (target S e < 4)
step_S k zero zero h i l = (omega arith, omega arith)
step_S k zero (suc zero) h i l = (omega arith, omega arith)
step_S k zero (suc (suc e)) h i l = absurd (omega (arith, l.below))
step_S k (suc zero) e h i l = let q : e ≡ 2 = omega (arith, l.from, l.below) in rw q (omega arith, omega arith)
step_S k (suc (suc zero)) e h i l = let q : e ≡ 3 = omega (arith, l.from, l.below) in rw q (omega arith, omega arith)
step_S k (suc (suc (suc zero))) e h i l = let q : e ≡ 4 = omega (arith, l.from, l.below) in rw q (omega arith, omega arith)
step_S k (suc (suc (suc (suc u)))) e h i l = absurd (omega arith)

reached_S : {k v : ℕ} → Chain S one k v → (v ≤ 2 * k) × (v < 4)
unfolding sum hit
reached_S (here {v = zero} h) = (omega arith, omega arith)
reached_S (here {v = suc v} h) = absurd (omega (arith, h))
reached_S (on {k = k} {u = u} e c l) = let r = reached_S c in step_S k u e r.0 r.1 l

-- the counts of store S are these, whoever counts: 4 and 5 have none
pub counts_S : (hops : List ℕ) → HopsOf S one hops
    → (hop_of hops 0 ≡ 0) × (hop_of hops 1 ≡ 1) × (hop_of hops 2 ≡ 1) × (hop_of hops 3 ≡ 2) × (hop_of hops 4 ≡ 4294967295) × (hop_of hops 5 ≡ 4294967295)
unfolding sum hit
counts_S hops H = (
  omega (arith, at 0 0 (omega arith) zeroth),
  omega (arith, at 1 1 (omega arith) (on 0 zeroth (record { object = omega arith; from = omega arith; below = omega arith }))),
  omega (arith, at 2 1 (omega arith) second),
  omega (arith, at 3 2 (omega arith) (on 3 second (record { object = omega arith; from = omega arith; below = omega arith }))),
  none_at 4 (omega arith) (omega arith),
  none_at 5 (omega arith) (omega arith),
)
  where
    zeroth : Chain S one 0 0
    zeroth = here {v = 0} (omega arith)

    second : Chain S one 1 2
    second = on 1 zeroth (record { object = omega arith; from = omega arith; below = omega arith })

    at : (v k : ℕ) → v < 6 → Chain S one k v → (hop_of hops v ≤ k) × (v ≤ 2 * hop_of hops v)
    at v k h c = let l = H.least v k c in (l.1, (reached_S (H.exists v h l.0)).0)

    none_at : (v : ℕ) → v < 6 → 4 ≤ v → hop_of hops v ≡ none
    none_at v h i = by_cases (ℕ_discrete (hop_of hops v) none) (λ (e : hop_of hops v ≡ none). e) (λ n. absurd (omega (arith, i, (reached_S (H.exists v h n)).1)))

-- where no chain leads the count is the largest number of four bytes
pub none_largest : none + 1 ≡ 256 * 256 * 256 * 256
none_largest = refl
