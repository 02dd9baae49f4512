-- Which part held the last reference kept says how many of the runs are kept: that reference ends the last of them.
use mathlib.Core.Path.{◌≡◌, refl, ap, ◌∙◌}
use mathlib.Core.Logic.{by_cases}
use mathlib.Core.List.{List, [], ◌∷◌}
use Prim.Native.Nat.{ℕ, zero, suc, ◌-◌, ◌≤◌, ◌<◌}
use native.Mathlib.Decide.{dec_lt}
use native.Mathlib.Omega.{arith}
use borrow.Author.Tests.{lt-ltb, le-ltb, le-leb, lt-leb}
use lib.ListN.{length}
use lib.Dec.{ltb}
use Rattle.laws.specs.Choice.{pick}
use Rattle.laws.specs.Sum.{sum}
use Rattle.machine.specs.declared.frontier.Held.TheVariants.{Back, Middle}
use Rattle.machine.specs.Run.{Run, run, carried, keep}
use Rattle.machine.specs.Split.{held, last_size, Tells}

-- the last run is one of them
pub last_within : (rs : List Run) → last_size rs ≤ carried rs
unfolding carried sum last_size
last_within [] = omega arith
last_within (run f j ∷ []) = omega arith
last_within (run f j ∷ q ∷ rs) = omega (arith, last_within (q ∷ rs))

-- ---- how many runs are kept

keep_none : (rs : List Run) → keep 0 rs ≡ []
unfolding keep
keep_none [] = refl
keep_none (run f j ∷ rs) = rw (le-ltb j 0 (omega arith))

keep_past : (k f j : ℕ) (rs : List Run) → suc j ≤ k → length (keep k (run f j ∷ rs)) ≡ suc (length (keep (k - suc j) rs))
unfolding keep
keep_past k f j rs l = rw (lt-ltb j k l)

-- no more than the first run holds: its front alone
pub keep_first : (k f j : ℕ) (rs : List Run) → 1 ≤ k → k ≤ suc j → keep k (run f j ∷ rs) ≡ run f (k - 1) ∷ []
unfolding keep
keep_first k f j rs some l =
    by_cases (dec_lt j k)
    (λ (p : j < k).
    let z : k - suc j ≡ 0 = omega (arith, p) in
    let n : k - 1 ≡ j = omega (arith, p) in
    rw (lt-ltb j k p, z, n, keep_none rs))
    (λ (p : ¬ (j < k)). cut k (omega (arith, p)) some)
  where
    cut : (k : ℕ) → k ≤ j → 1 ≤ k → keep k (run f j ∷ rs) ≡ run f (k - 1) ∷ []
    cut zero l some = absurd (omega arith)
    cut (suc k) l some = let n : suc k - 1 ≡ k = omega arith in rw (le-ltb j (suc k) l, n)

one_kept : (k f j : ℕ) (rs : List Run) → 1 ≤ k → k ≤ suc j → length (keep k (run f j ∷ rs)) ≡ 1
one_kept k f j rs some l = ap (λ (x : List Run). length x) (keep_first k f j rs some l)

-- all of them where a reference of the last is kept, and fewer where none is
pub record Reaches (k : ℕ) (rs : List Run) : Type 0 where
  pub some : 1 ≤ length (keep k rs)
  pub all : carried rs - last_size rs < k → length (keep k rs) ≡ length rs
  pub fewer : k ≤ carried rs - last_size rs → length (keep k rs) < length rs

reaches : (k : ℕ) (rs : List Run) → 1 ≤ k → k ≤ carried rs → Reaches k rs
unfolding carried sum last_size
reaches k [] some l = absurd (omega arith)
reaches k (run f j ∷ []) some l =
    let n = one_kept k f j [] some (omega arith) in
    record { some = omega (arith, n); all = λ p. n; fewer = λ p. absurd (omega arith) }
reaches k (run f j ∷ q ∷ rs) some l =
    by_cases (dec_lt (suc j) k)
    (λ (p : suc j < k).
    let n = keep_past k f j (q ∷ rs) (omega (arith, p)) in
    let i = reaches (k - suc j) (q ∷ rs) (omega (arith, p)) (omega (arith, p, l)) in
    let w = last_within (q ∷ rs) in
    record {
      some = omega (arith, n);
      all = λ h. n ∙ ap suc (i.all (omega (arith, h, p, w)));
      fewer = λ h. omega (arith, n, i.fewer (omega (arith, h, p, w)));
    })
    (λ (p : ¬ (suc j < k)).
    let n = one_kept k f j (q ∷ rs) some (omega (arith, p)) in
    let w = last_within (q ∷ rs) in
    record { some = omega (arith, n); all = λ h. absurd (omega (arith, h, p, w)); fewer = λ h. omega (arith, n) })

-- ---- what the part tells

behind : (k f j : ℕ) (rs : List Run) → suc j < k → k ≤ carried (run f j ∷ rs)
    → Tells (pick (ltb (carried (run f j ∷ rs) - last_size rs) k) Back Middle) (length (keep k (run f j ∷ rs))) (length (run f j ∷ rs))
unfolding carried sum
behind k f j rs l h =
    let i = reaches (k - suc j) rs (omega arith) (omega arith) in
    let n = keep_past k f j rs (omega arith) in
    let w = last_within rs in
    by_cases (dec_lt (carried (run f j ∷ rs) - last_size rs) k)
    (λ (p : carried (run f j ∷ rs) - last_size rs < k).
    let e = i.all (omega (arith, p, w)) in
    rw (lt-ltb (carried (run f j ∷ rs) - last_size rs) k p) (omega (arith, e, i.some), n ∙ ap suc e))
    (λ (p : ¬ (carried (run f j ∷ rs) - last_size rs < k)).
    let e = i.fewer (omega (arith, p, w)) in
    rw (le-ltb (carried (run f j ∷ rs) - last_size rs) k (omega (arith, p))) (omega (arith, n, i.some), omega (arith, n, e)))

pub held_tells : (k : ℕ) (rs : List Run) → 1 ≤ k → k ≤ carried rs → Tells (held k rs) (length (keep k rs)) (length rs)
unfolding held carried sum
held_tells k [] some l = absurd (omega arith)
held_tells k (run f j ∷ rs) some l =
    by_cases (dec_lt (suc j) k)
    (λ (p : suc j < k). rw (lt-leb k (suc j) p) (behind k f j rs p l))
    (λ (p : ¬ (suc j < k)). rw (le-leb k (suc j) (omega (arith, p))) (one_kept k f j rs some (omega (arith, p))))
