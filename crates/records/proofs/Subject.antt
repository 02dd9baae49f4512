-- An object that names a live subject lives; one that only its subjects hold dies with them. A record among the references
-- counts where its stored reference leads, which is where it refers or where it is named from.
use mathlib.Core.Path.{◌≡◌}
use mathlib.Core.List.{List, [], ◌∷◌, map}
use Prim.Native.Nat.{ℕ, zero, suc, ◌+◌, ◌*◌, ◌≤◌}
use native.Mathlib.Omega.{arith}
use Rattle.laws.specs.Sum.{sum, hit}
use Rattle.laws.proofs.Sum.{hit_at_most_one}
use Rattle.records.specs.Store.{Store, Pair, Link, refers, names, stored}
use Rattle.records.specs.Chain.{Chain, begins, along}
use Rattle.records.specs.Subject.{naming, referring, Names, Follows}

-- 1 if it leads from u to v
abbrev leads : ℕ → ℕ → Pair → ℕ
leads u v p = hit u p.from * hit v p.to

named_leads : (v u : ℕ) (l : List Link) → sum (naming v u) l ≤ sum (leads u v) (map stored l)
unfolding sum
named_leads v u [] = omega arith
named_leads v u (refers p ∷ l) = omega (arith, named_leads v u l)
named_leads v u (names p ∷ l) = omega (arith, named_leads v u l)

at_most : (a b : ℕ) → a ≤ 1 → a * b ≤ b
at_most zero b h = omega arith
at_most (suc zero) b h = omega arith
at_most (suc (suc a)) b h = absurd (omega arith)

leads_named : (v u : ℕ) (l : List Link) → sum (leads u v) (map stored l) ≤ sum (naming v u) l + sum (referring v) l
unfolding sum
leads_named v u [] = omega arith
leads_named v u (refers p ∷ l) = omega (arith, leads_named v u l, at_most (hit u p.from) (hit v p.to) (hit_at_most_one u p.from))
leads_named v u (names p ∷ l) = omega (arith, leads_named v u l)

module _ (s : Store) (starts : List ℕ) where
  held : {v : ℕ} → sum (hit v) starts ≡ 0 → sum (referring v) s.links ≡ 0 → Chain s starts v → (u : ℕ) × (Names s v u × Chain s starts u)
  held none alone (begins h) = absurd (omega arith)
  held none alone (along {u = u} {v = v} c h) = (u, (omega (arith, leads_named v u s.links), c))

  pub follows : Follows s starts
  follows =
      record {
        lives = λ {v} {u} n c. along {v = v} c (omega (arith, n, named_leads v u s.links));
        dies = λ none alone c. held none alone c;
      }
