-- Layers. What carries the argument: when layer d is reached, counts up to d are lengths of chains, and what an earlier layer's references lead
-- to has a count that is at most one more. Once a layer is empty this holds of every count, and no chain can be shorter. Each layer that is not
-- empty takes at least one object, so there are no more layers than objects.
use mathlib.Core.Path.{◌≡◌, refl, sym, ap, ◌∙◌}
use mathlib.Core.Bool.{true}
use mathlib.Core.List.{List, [], ◌∷◌}
use mathlib.Core.Logic.{◌≢◌, ⊎_elim, by_cases}
use Prim.Native.Nat.{ℕ, zero, suc, ◌+◌, ◌≤◌, ◌<◌}
use native.Mathlib.Omega.{arith}
use native.Mathlib.Decide.{dec_le}
use native.Mathlib.Numerals.{add-one}
use lib.ListN.{length, get_or, replicate, length-replicate, get_or-replicate, get_or-eq_default}
use Rattle.laws.specs.Sum.{sum, hit}
use Rattle.laws.specs.Span.{span}
use Rattle.laws.proofs.Sum.{hit_same, hit_other, hit_equal, hit_at_most_one, either_positive, sum_at, sum_positive, sum_one, sum_below}
use Rattle.graph.specs.Graph.{Graph, Leaves, objects, first, degree, target, all_below}
use Rattle.graph.specs.Chain.{Reach}
use Rattle.graph.specs.Chain as graph
use Rattle.graph.specs.Formed.{Formed}
use Rattle.graph.specs.Limits.{most_objects}
use Rattle.graph.proofs.Formed.{below_all}
use Rattle.theorems.proofs.Demand2.{marked_is}
use Rattle.bag.specs.declared.Bag.{Bag}
use Rattle.bag.specs.Bag.{IsBag, Same, times, contents, empty}
use Rattle.layers.specs.Hops.{none, Chain, here, on, hop_of, HopsOf, LinksLeft}
use Rattle.layers.specs.Search.{leads_to, unknown, Growable, Grown, Walkable, Apart, Searchable, Layer}
use Rattle.layers.proofs.Growing.{alike, none_hit, some_hit}
use Rattle.layers.proofs.Spreading.{none_in, empty_length, empty_bag}

-- ---- what leads where

-- a sum over consecutive numbers that is above 0 has a number that adds to it
span_positive : (g : ℕ → ℕ) (f k : ℕ) → 0 < span g f k → (e : ℕ) × (f ≤ e) × (e < f + k) × (0 < g e)
unfolding span
span_positive g f zero h = absurd (omega arith)
span_positive g f (suc k) h =
    ⊎_elim
    (λ (p : 0 < g f). (f, omega arith, omega arith, p))
    (λ (p : 0 < span g (suc f) k). let r = span_positive g (suc f) k p in (r.0, omega (arith, r.1), omega (arith, r.2), r.3))
    (either_positive (g f) (span g (suc f) k) h)

-- and each number adds its share
span_share : (g : ℕ → ℕ) (f k e : ℕ) → f ≤ e → e < f + k → g e ≤ span g f k
unfolding span
span_share g f zero e a b = absurd (omega arith)
span_share g f (suc k) e a b =
    by_cases (dec_le e f)
    (λ (p : e ≤ f). let z : e ≡ f = omega arith in rw z (omega arith))
    (λ (p : e ≤ f → ⊥). omega (arith, span_share g (suc f) k e (omega arith) (omega arith)))

-- an element's share of a sum over a list
times_share : (f : ℕ → ℕ) (u : ℕ) (l : List ℕ) → 0 < times u l → f u ≤ sum f l
unfolding sum
times_share f u [] h = absurd (omega arith)
times_share f u (x ∷ l) h =
    ⊎_elim
    (λ (p : 0 < hit u x). let e : u ≡ x = hit_equal u x p in rw e (omega arith))
    (λ (p : 0 < times u l). omega (arith, times_share f u l p))
    (either_positive (hit u x) (times u l) h)

-- what stands at a place of a list is in it
there : (l : List ℕ) (i : ℕ) → i < length l → 0 < times (get_or l i 0) l
there l i h = omega (arith, sum_at (hit (get_or l i 0)) 0 l i (get_or l i 0) refl h, hit_same (get_or l i 0))

-- the object and the reference that lead to v
record Led (G : Graph) (xs : List ℕ) (v : ℕ) : Type 0 where
  pub object : ℕ
  pub reference : ℕ
  pub among : 0 < times object xs
  pub leaves : Leaves G reference object
  pub leads : v ≡ target G reference

module _ (G : Graph) (ok : Formed G) (xs : List ℕ) (inside : (u : ℕ) → 0 < times u xs → u < objects G) where
  led : (v : ℕ) → 0 < sum (leads_to G v) xs → Led G xs v
  led v h =
      let i = sum_positive (leads_to G v) 0 xs h in
      let u = get_or xs i.0 0 in
      let among = there xs i.0 i.1 in
      let e = span_positive (λ (e : ℕ). hit v (target G e)) (first G u) (degree G u) i.2 in
      record {
        object = u;
        reference = e.0;
        among = among;
        leaves = record { object = inside u among; from = e.1; below = omega (arith, e.2) };
        leads = hit_equal v (target G e.0) e.3;
      }

  leading : (u e : ℕ) → 0 < times u xs → Leaves G e u → 0 < sum (leads_to G (target G e)) xs
  leading u e p l =
      omega (
        arith,
        hit_same (target G e),
        span_share (λ (i : ℕ). hit (target G e) (target G i)) (first G u) (degree G u) e l.from (omega (arith, l.below)),
        times_share (leads_to G (target G e)) u xs p,
      )

no_length : (l : List ℕ) → length l ≡ 0 → l ≡ []
no_length [] e = refl
no_length (x ∷ l) e = absurd (omega arith)

-- a chain of some length is a chain
chain_reach : {G : Graph} {starts : List ℕ} {k v : ℕ} → Chain G starts k v → Reach G starts v
chain_reach (here h) = graph.here h
chain_reach (on e c l) = graph.on e (chain_reach c) l

-- ---- layer 0

unknown_limit : (H : List ℕ) → unknown H ≤ length H
unknown_limit H = omega (arith, sum_below (hit none) (λ (x : ℕ). 1) H (hit_at_most_one none), sum_one H)

module _ {G : Graph} {starts H L : List ℕ} (ok : Searchable G starts H L) where
  pub begin_growable : Growable 0 (replicate (length H) none) L empty
  begin_growable =
      record {
        sound = record {
          once = λ v. omega (arith, none_in v L);
          linked = λ v h. absurd (omega (arith, none_in v L));
          few = omega (arith, ok.few, ok.linked);
          slots_are = refl;
          counted = sym (empty_length L);
        };
        linked = rw (length-replicate {A = ℕ} (length H) none) (omega (arith, ok.linked, ok.sizes));
        few = rw (length-replicate {A = ℕ} (length H) none) (omega (arith, ok.few, ok.sizes));
        apart = λ v. omega (arith, none_in v L, hit_at_most_one none (hop_of (replicate (length H) none) v));
        room = omega (arith, empty_length L, unknown_limit (replicate (length H) none));
        low = omega arith;
      }

  pub layer_start : {H' L' : List ℕ} {S' : Bag} → Grown 0 (λ (w : ℕ). times w starts) (replicate (length H) none) L empty H' L' S' → Layer G starts 0 H' L' S'
  layer_start {H'} {L'} {S'} g =
      let n : length (replicate {A = ℕ} (length H) none) ≡ objects G = length-replicate {A = ℕ} (length H) none ∙ ok.sizes in
      let fresh : (v : ℕ) → v < objects G → hop_of (replicate (length H) none) v ≡ none = λ v p. get_or-replicate (length H) v none 0 (omega (arith, ok.sizes)) in
      let zero_or_none : (v : ℕ) → v < objects G → hop_of H' v ≢ none → (hop_of H' v ≡ 0) × (0 < times v starts) = λ v p h. g.found v (fresh v p) h in
      let size : length H' ≡ objects G = g.hops_long ∙ n in
      record {
        sound = g.sound;
        sizes = size;
        linked = omega (arith, g.links_long, ok.linked);
        exactly = λ v p.
            ⊎_elim
            (λ (e : hop_of H' v ≡ none).
            rw e (omega (arith, g.holds v, none_in v L, none_hit (hop_of (replicate (length H) none) v) (fresh v p), none_hit (hop_of H' v) e, hit_other 0 none (λ z. omega arith))))
            (λ (h : hop_of H' v ≢ none).
            omega (
              arith,
              g.holds v,
              none_in v L,
              none_hit (hop_of (replicate (length H) none) v) (fresh v p),
              some_hit (hop_of H' v) h,
              ap (hit 0) (zero_or_none v p h).0,
              hit_same 0,
            ))
            (alike (hop_of H' v) none);
        below = λ v h.
            by_cases (dec_le (objects G) v)
            (λ (p : objects G ≤ v). omega (arith, get_or-eq_default H' 0 {n = v} (omega arith)))
            (λ (p : objects G ≤ v → ⊥). omega (arith, (zero_or_none v (omega arith) h).0));
        chains = λ v p h. let r = zero_or_none v p h in rw r.0 (here r.1);
        starts_zero = λ v p. (zero_or_none v (inside_start v p) (g.looked v p)).0;
        closed = λ u e l p. absurd (omega arith);
        budget = omega (arith, g.sized, empty_length L, n, unknown_limit (replicate (length H) none));
      }
    where
      inside_start : (v : ℕ) → 0 < times v starts → v < objects G
      inside_start v p =
          let i = sum_positive (hit v) 0 starts p in
          omega (arith, hit_equal v (get_or starts i.0 0) i.2, below_all (objects G) starts ok.inside i.0 i.1)

-- ---- the links of objects without a count

module _ {hop : ℕ} {seen : ℕ → ℕ} {H L H' L' : List ℕ} {S' : Bag} (g : Grown hop seen H L empty H' L' S') where
  left_alone : (v : ℕ) → hop_of H' v ≡ none → Same L L' v
  left_alone v z =
      g.same v (omega (arith, g.holds v, none_in v L, none_hit (hop_of H' v) z, hit_at_most_one none (hop_of H v)))

  -- a bag was filled that had been empty
  pub left_first : LinksLeft H' L L'
  left_first = record { long = g.links_long; same = left_alone }

  pub left_next : {L₀ : List ℕ} → LinksLeft H L₀ L → LinksLeft H' L₀ L'
  left_next l =
      record {
        long = g.links_long ∙ l.long;
        same = λ v z.
            let a = l.same v (⊎_elim (λ (q : hop_of H v ≡ none). q) (λ (n : hop_of H v ≢ none). absurd (n (sym (g.kept v n) ∙ z))) (alike (hop_of H v) none)) in
            let b = left_alone v z in
            (b.0 ∙ a.0, b.1 ∙ a.1);
      }

-- ---- the next layer

module _ {G : Graph} {starts H L : List ℕ} {S : Bag} {d : ℕ} (formed : Formed G) (few : objects G ≤ most_objects) (y : Layer G starts d H L S) where
  -- an object of the layer
  inside : (v : ℕ) → 0 < times v (contents L S) → v < objects G
  inside v p = omega (arith, y.sound.linked v p, y.linked, y.sizes)

  at_layer : (v : ℕ) → 0 < times v (contents L S) → hop_of H v ≡ d
  at_layer v p = sym (hit_equal d (hop_of H v) (omega (arith, y.exactly v (inside v p))))

  pub layer_low : d + 1 < none
  layer_low = omega (arith, y.budget)

  layer_ready : Walkable G (d + 1) H L empty × Apart H L empty (contents L S) × IsBag L S
  layer_ready = (
    record {
      growable = record {
        sound = empty_bag y.sound;
        linked = y.linked;
        few = omega (arith, y.sizes);
        apart = λ v. omega (arith, none_in v L, hit_at_most_one none (hop_of H v));
        room = omega (arith, empty_length L, unknown_limit H);
        low = layer_low;
      };
      formed = formed;
      sizes = y.sizes;
    },
    record {
      inside = λ v p. omega (arith, inside v p, y.sizes);
      counted = λ v p e. omega (arith, at_layer v p, layer_low);
      outside = λ v p. none_in v L;
    },
    y.sound,
  )

  module _ {H' L' : List ℕ} {S' : Bag} (g : Grown (d + 1) (λ (w : ℕ). sum (leads_to G w) (contents L S)) H L empty H' L' S') where
    counts : (v : ℕ) → hop_of H' v ≢ none → hop_of H' v ≤ d + 1
    counts v h =
        ⊎_elim
        (λ (e : hop_of H v ≡ none). omega (arith, (g.found v e h).0))
        (λ (n : hop_of H v ≢ none). omega (arith, g.kept v n, y.below v n))
        (alike (hop_of H v) none)

    exact : (v : ℕ) → times v (contents L' S') ≡ hit (d + 1) (hop_of H' v)
    exact v =
        ⊎_elim
        (λ (e : hop_of H v ≡ none).
        ⊎_elim
        (λ (z : hop_of H' v ≡ none).
        rw z (omega (arith, g.holds v, none_in v L, none_hit (hop_of H v) e, none_hit (hop_of H' v) z, hit_other (d + 1) none (λ q. omega (arith, layer_low)))))
        (λ (h : hop_of H' v ≢ none).
        omega
        (arith, g.holds v, none_in v L, none_hit (hop_of H v) e, some_hit (hop_of H' v) h, ap (hit (d + 1)) (g.found v e h).0, hit_same (d + 1)))
        (alike (hop_of H' v) none))
        (λ (n : hop_of H v ≢ none).
        omega (
          arith,
          g.holds v,
          none_in v L,
          some_hit (hop_of H v) n,
          some_hit (hop_of H' v) (λ z. n (sym (g.kept v n) ∙ z)),
          hit_other (d + 1) (hop_of H' v) (λ q. omega (arith, g.kept v n, y.below v n)),
        ))
        (alike (hop_of H v) none)

    chain : (v : ℕ) → v < objects G → hop_of H' v ≢ none → Chain G starts (hop_of H' v) v
    chain v p h =
        ⊎_elim
        (λ (e : hop_of H v ≡ none).
        let r = g.found v e h in
        let f = led G formed (contents L S) inside v r.1 in
        let at = at_layer f.object f.among in
        let before : Chain G starts d f.object =
        rw at at (y.chains f.object (inside f.object f.among) (λ z. omega (arith, layer_low))) in
        rw (r.0 ∙ add-one d, f.leads) (on f.reference before f.leaves))
        (λ (n : hop_of H v ≢ none). rw (g.kept v n) (y.chains v p n))
        (alike (hop_of H v) none)

    close : (u e : ℕ) → Leaves G e u → hop_of H' u < d + 1 → (hop_of H' (target G e) ≢ none) × (hop_of H' (target G e) ≤ suc (hop_of H' u))
    close u e l p =
        let known : hop_of H u ≢ none = λ z.
        ⊎_elim
        (λ (q : hop_of H' u ≡ none). omega (arith, layer_low))
        (λ (q : hop_of H' u ≢ none). omega (arith, (g.found u z q).0))
        (alike (hop_of H' u) none) in
        let same : hop_of H' u ≡ hop_of H u = g.kept u known in
        by_cases (dec_le d (hop_of H u))
        (λ (q : d ≤ hop_of H u).
        let eq : hop_of H u ≡ d = omega arith in
        let in_layer : 0 < times u (contents L S) = omega (arith, y.exactly u l.object, ap (hit d) eq, hit_same d) in
        let seen = g.looked (target G e) (leading G formed (contents L S) inside u e in_layer l) in
        (seen, omega (arith, counts (target G e) seen)))
        (λ (q : d ≤ hop_of H u → ⊥).
        let r = y.closed u e l (omega arith) in
        let k = g.kept (target G e) r.0 in
        (λ z. r.0 (sym k ∙ z), omega (arith, r.1)))

    layer_next : S.size ≢ 0 → Layer G starts (d + 1) H' L' S'
    layer_next more =
        record {
          sound = g.sound;
          sizes = g.hops_long ∙ y.sizes;
          linked = omega (arith, g.links_long, g.hops_long, y.linked);
          exactly = λ v p. exact v;
          below = counts;
          chains = chain;
          starts_zero = λ v p. let z = y.starts_zero v p in g.kept v (λ q. omega arith) ∙ z;
          closed = close;
          budget = omega (arith, g.sized, empty_length L, y.budget, y.sound.counted);
        }

    layer_less : S.size ≢ 0 → length (contents L' S') + unknown H' < length (contents L S) + unknown H
    layer_less more = omega (arith, g.sized, empty_length L, y.sound.counted)

  -- ---- the last layer

  module _ (last : S.size ≡ 0) where
    done : contents L S ≡ []
    done = no_length (contents L S) (sym y.sound.counted ∙ last)

    earlier : (v : ℕ) → v < objects G → hop_of H v ≢ none → hop_of H v < d
    unfolding sum
    earlier v p h = ⊎_elim (λ (e : hop_of H v ≡ d). absurd (omega (arith, y.exactly v p, ap (times v) done, ap (hit d) e, hit_same d)))
        (λ (n : hop_of H v ≢ d). omega (arith, y.below v h)) (alike (hop_of H v) d)

    least : {v k : ℕ} → Chain G starts k v → (hop_of H v ≢ none) × (hop_of H v ≤ k)
    least (here {v = v} h) = let z = y.starts_zero v h in (λ e. omega arith, omega arith)
    least (on {k = k} {u = u} e c l) =
        let r = least c in
        let q = y.closed u e l (earlier u l.object r.0) in
        (q.0, omega (arith, r.1, q.1))

    reached : {v : ℕ} → Reach G starts v → hop_of H v ≢ none
    reached (graph.here {v = v} h) = λ e. omega (arith, y.starts_zero v h)
    reached (graph.on {u = u} e r l) = (y.closed u e l (earlier u l.object (reached r))).0

    pub layer_end : HopsOf G starts H
    layer_end =
        record {
          long = y.sizes;
          exists = y.chains;
          least = λ v k c. least c;
          small = λ v p h. omega (arith, earlier v p h, y.budget);
          marked = λ marks m v p. (
            λ h. (marked_is m v).1 (chain_reach (y.chains v p h)),
            λ h. reached ((marked_is m v).0 h),
          );
        }

-- ---- as the code goes

module _ {G : Graph} {starts H L : List ℕ} (ok : Searchable G starts H L) {H₀ : List ℕ} (fresh : H₀ ≡ replicate (length H) none) where
  pub begin_ready : Growable 0 H₀ L empty × (all_below (length H₀) starts ≡ true)
  begin_ready =
      let n : length H₀ ≡ objects G = ap length fresh ∙ (length-replicate {A = ℕ} (length H) none ∙ ok.sizes) in
      (rw fresh (begin_growable ok), rw n ok.inside)

  pub begun : {H' L' : List ℕ} {S' : Bag} → Grown 0 (λ (w : ℕ). times w starts) H₀ L empty H' L' S' → Layer G starts 0 H' L' S'
  begun g = layer_start ok (rw fresh at g)

-- a layer fills a bag that is empty
module _ {G : Graph} {starts H₀ L₀ H L : List ℕ} {S : Bag} {d : ℕ} (ok : Searchable G starts H₀ L₀) (y : Layer G starts d H L S) where
  pub pass_ready : Walkable G (d + 1) H L empty × Apart H L empty (contents L S) × IsBag L S
  pass_ready = layer_ready ok.formed ok.few y

  module _ {H' L' : List ℕ} {S' : Bag} (g : Grown (d + 1) (λ (w : ℕ). sum (leads_to G w) (contents L S)) H L empty H' L' S') (more : S.size ≢ 0) where
    pub passed : Layer G starts (d + 1) H' L' S'
    passed = layer_next ok.formed ok.few y g more

    pub passed_less : length (contents L' S') + unknown H' < length (contents L S) + unknown H
    passed_less = layer_less ok.formed ok.few y g more
