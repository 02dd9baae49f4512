-- The enlarged store: its references are the old ones and the pairs. What the pairs seed is all that is left to follow.
use mathlib.Core.Path.{◌≡◌, refl, sym, ap, ◌∙◌}
use mathlib.Core.List.{List, ◌++◌}
use mathlib.Core.Logic.{by_cases, ⊎_elim}
use Prim.Native.Nat.{ℕ, zero, suc, ◌+◌, ◌*◌, ◌≤◌, ◌<◌}
use native.Mathlib.Decide.{dec_lt}
use native.Mathlib.Omega.{arith}
use lib.ListN.{length, get_or}
use Rattle.laws.specs.Every.{Every}
use Rattle.laws.specs.Sum.{sum, hit}
use Rattle.laws.proofs.Every.{every_append}
use Rattle.laws.proofs.Sum.{hit_same, hit_equal, either_positive, sum_append, sum_at, sum_positive, sum_below, sum_one}
use Rattle.graph.specs.Graph.{Graph, Leaves, objects, references_of, target}
use Rattle.graph.specs.Formed.{Formed}
use Rattle.graph.specs.Chain.{closure, Closed}
use Rattle.graph.specs.Leaving.{unset?}
use Rattle.graph.proofs.Grouped.{among, grouped_objects, grouped_formed, grouped_view}
use Rattle.graph.proofs.Reached.{closure_holds, closure_closed}
use Rattle.graph.proofs.View.{view_has, view_only}
use Rattle.machine.specs.Sound.{Marked}
use Rattle.changes.specs.Pairs.{Pair, from_of, to_of, pairs_of, paired, leading}
use Rattle.changes.specs.Stores.{store_of, added}
use Rattle.changes.specs.Marking.{listed, unmarked, Roomy, Between, Followable, Seeded}
use Rattle.changes.specs.Filling.{Addable}
use Rattle.changes.proofs.Touching.{unset_some, unset_none, unset_zero, marked_below}
use Rattle.changes.proofs.Pairing.{none, Inside, pairs_inside, pairs_sum, paired_long, paired_at, paired_inside}

-- how many references lead from u to t
abbrev pub refers : Graph → ℕ → ℕ → ℕ
refers G u t = sum (hit t) (references_of G u)

-- ---- closed sets, by what is referred to

module _ {G : Graph} (F : Formed G) (P : ℕ → Type 0) where
  pub closed_by : ((u t : ℕ) → u < objects G → P u → 0 < refers G u t → P t) → Closed G P
  closed_by f u e p l = f u (target G e) l.object p (view_has F l.object l)

  pub by_closed : Closed G P → (u t : ℕ) → u < objects G → P u → 0 < refers G u t → P t
  by_closed cl u t h p q = let r = view_only F h t q in rw r.2 (cl u r.0 p r.1)

-- ---- the enlarged store

module _ (G : Graph) (F : Formed G) (ps : List Pair) (low : Every (Inside (objects G)) ps) where
  all_low : Every (Inside (objects G)) (pairs_of G ++ ps)
  all_low = every_append (Inside (objects G)) (pairs_of G) ps (pairs_inside G F) low

  pub added_objects : objects (added G ps) ≡ objects G
  unfolding added store_of
  added_objects = grouped_objects from_of to_of (objects G) (pairs_of G ++ ps) all_low

  pub added_formed : Formed (added G ps)
  unfolding added store_of
  added_formed = grouped_formed from_of to_of (objects G) (pairs_of G ++ ps) all_low

  -- what an object refers to: what it did, and what the pairs say
  pub added_refers : (u t : ℕ) → u < objects G → refers (added G ps) u t ≡ refers G u t + leading u t ps
  unfolding added store_of
  added_refers u t h =
      ap (λ (l : List ℕ). sum (hit t) l) (grouped_view from_of to_of (objects G) (pairs_of G ++ ps) all_low u h)
      ∙ sym (among from_of to_of u t (pairs_of G ++ ps))
      ∙ sum_append (λ (p : Pair). hit u p.from * hit t p.to) (pairs_of G) ps
      ∙ ap (λ (k : ℕ). k + leading u t ps) (pairs_sum G u (hit t) h)

-- ---- the pairs of two lists

product_positive : (a b : ℕ) → 0 < a * b → (0 < a) × (0 < b)
product_positive zero b h = absurd (omega (arith, h))
product_positive (suc a) zero h = absurd (omega (arith, h))
product_positive (suc a) (suc b) h = (omega arith, omega arith)

-- one of them leads from u to t
pub leading_one : (ps : List Pair) (u t : ℕ) → 0 < leading u t ps
    → (i : ℕ) × (i < length ps) × (u ≡ (get_or ps i none).from) × (t ≡ (get_or ps i none).to)
leading_one ps u t h =
    let r = sum_positive (λ (p : Pair). hit u p.from * hit t p.to) none ps h in
    let q = product_positive (hit u (get_or ps r.0 none).from) (hit t (get_or ps r.0 none).to) r.2 in
    (r.0, r.1, hit_equal u (get_or ps r.0 none).from q.0, hit_equal t (get_or ps r.0 none).to q.1)

pub one_leading : (ps : List Pair) (i : ℕ) → i < length ps → 0 < leading (get_or ps i none).from (get_or ps i none).to ps
one_leading ps i h =
    let p = get_or ps i none in
    omega (
      arith,
      sum_at (λ (q : Pair). hit p.from q.from * hit p.to q.to) none ps i p refl h,
      ap (λ (k : ℕ). k * hit p.to p.to) (hit_same p.from),
      hit_same p.to,
    )

-- ---- what is left to follow once the pairs were looked at

pub unmarked_limit : (ms : List ℕ) → unmarked ms ≤ length ms
unmarked_limit ms = omega (arith, sum_below unset? (λ (x : ℕ). 1) ms unset_most, sum_one ms)
  where
    unset_most : (x : ℕ) → unset? x ≤ 1
    unset_most zero = omega arith
    unset_most (suc x) = omega arith

module _ {G : Graph} {from to : List ℕ} (a : Addable G from to) (ms work : List ℕ) (sizes : length ms ≡ objects G) (long : length work ≡ objects G)
    (cl : Closed G (Marked ms)) where
  abbrev ps : List Pair
  ps = paired from to

  F : Formed G
  F = a.formed

  ends : Every (Inside (objects G)) ps
  ends = paired_inside (objects G) from to a.alike a.from_below a.to_below

  pub seed_room : Roomy ms work 0
  seed_room = record { room = omega (arith, unmarked_limit ms, sizes, long); few = omega (arith, long, a.few) }

  module _ {ms' work' : List ℕ} {top : ℕ} (s : Seeded from to ms work ms' work' top) where
    still : (v : ℕ) → Marked ms v → Marked ms' v
    still v h = omega (arith, h, s.kept v h)

    seeded_on : (v : ℕ) → 0 < listed v work' top → Marked ms' v
    seeded_on v h =
        by_cases (dec_lt 0 (get_or ms' v 0)) (λ (p : 0 < get_or ms' v 0). p)
        (λ p.
        let z = unset_zero (get_or ms' v 0) (omega (arith, p)) in
        absurd (omega (arith, h, z, s.holds v, low (get_or ms v 0))))
      where
        low : (x : ℕ) → unset? x ≤ 1
        low zero = omega arith
        low (suc x) = omega arith

    seeded_closed : (u e : ℕ) → Marked ms' u → listed u work' top ≡ 0 → Leaves (added G ps) e u → Marked ms' (target (added G ps) e)
    seeded_closed u e m z l =
        let was : Marked ms u = unset_none (get_or ms u 0) (omega (arith, z, unset_some (get_or ms' u 0) m, s.holds u)) in
        let h : u < objects G = omega (arith, marked_below ms u was, sizes) in
        let t = target (added G ps) e in
        let q = view_has (added_formed G F ps ends) l.object l in
        ⊎_elim
        (λ (o : 0 < refers G u t). still t (by_closed F (Marked ms) cl u t h was o))
        (λ (n : 0 < leading u t ps).
        let r = leading_one ps u t n in
        let i : r.0 < length from = omega (arith, r.1, paired_long from to a.alike) in
        let p = paired_at from to r.0 a.alike in
        let f : u ≡ get_or from r.0 0 = r.2 ∙ ap from_of p in
        let g : t ≡ get_or to r.0 0 = r.3 ∙ ap to_of p in
        rw g (s.looked r.0 i (rw f at was)))
        (either_positive (refers G u t) (leading u t ps) (rw (added_refers G F ps ends u t h) at q))

    pub seeded_followable : Followable (added G ps) ms' work' top
    seeded_followable =
        record {
          formed = added_formed G F ps ends;
          sizes = s.marks_long ∙ sizes ∙ sym (added_objects G F ps ends);
          roomy = record { room = omega (arith, s.sized, unmarked_limit ms, sizes, long, s.list_long); few = omega (arith, s.list_long, long, a.few) };
          on_list = seeded_on;
          closed = seeded_closed;
        }

    pub seeded_between : Between (added G ps) ms ms'
    seeded_between =
        record {
          long = s.marks_long;
          kept = s.kept;
          fresh = s.fresh;
          within = s.within (closure (added G ps) ms) (closure_holds (added G ps) ms) pair_within;
        }
      where
        closed' : Closed (added G ps) (Marked (closure (added G ps) ms))
        closed' = closure_closed (added G ps) (added_formed G F ps ends) ms (sizes ∙ sym (added_objects G F ps ends))

        pair_within : (i : ℕ) → i < length from → Marked (closure (added G ps) ms) (get_or from i 0) → Marked (closure (added G ps) ms) (get_or to i 0)
        pair_within i h m =
            let w : i < length ps = omega (arith, h, paired_long from to a.alike) in
            let p = paired_at from to i a.alike in
            let u : get_or from i 0 < objects G = a.from_below i h in
            let u' : get_or from i 0 < objects (added G ps) = omega (arith, u, added_objects G F ps ends) in
            let n : 0 < leading (get_or from i 0) (get_or to i 0) ps = rw p at (one_leading ps i w) in
            by_closed (added_formed G F ps ends) (Marked (closure (added G ps) ms)) closed' (get_or from i 0) (get_or to i 0) u' m
            (omega (arith, n, added_refers G F ps ends (get_or from i 0) (get_or to i 0) u))
