-- What the marks are, over the definitions: the smallest closed set, whatever the order of the pairs; the live set; a finished collection's marks.
-- What carries the argument: two smallest sets of the same pairs are one, and a smallest set of some pairs and then of others is that of all.
use mathlib.Core.Path.{◌≡◌, refl, sym, ap, subst, ◌∙◌}
use mathlib.Core.Bool.{true}
use mathlib.Core.List.{List, [], ◌∷◌}
use mathlib.Core.Logic.{◌↔◌, by_cases, ⊎_elim}
use Prim.Native.Nat.{ℕ, zero, suc, ◌+◌, ◌*◌, ◌<◌}
use native.Mathlib.Nat.{zero-add}
use native.Mathlib.Decide.{dec_lt}
use native.Mathlib.Omega.{arith}
use lib.ListN.{length, get_or, get_or-eq_default}
use lib.Seq.{ext_get_or}
use Rattle.laws.specs.Every.{Every}
use Rattle.laws.specs.Sum.{sum, hit}
use Rattle.laws.proofs.Every.{every_at, at_every}
use Rattle.laws.proofs.Sum.{either_positive, sum_positive, hit_equal}
use Rattle.laws.proofs.Span.{listing_length, listing_at}
use Rattle.graph.specs.Graph.{Graph, objects, target, all_below}
use Rattle.graph.specs.Formed.{Formed}
use Rattle.graph.specs.Chain.{Reach, here, on, set?, closure, Closed}
use Rattle.graph.proofs.Formed.{below_all, well_formed_lem}
use Rattle.graph.proofs.Reached.{closure_length, closure_holds, closure_least, closure_closed}
use Rattle.graph.proofs.View.{view_has, view_only}
use Rattle.machine.specs.Sound.{Marked}
use Rattle.machine.specs.Demand2.{LiveMarks}
use Rattle.theorems.proofs.Demand2.{marked_is}
use Rattle.changes.specs.Pairs.{Pair, leading}
use Rattle.changes.specs.Stores.{mark_by, added, completed, new_mark, start_marks, marks_afresh}
use Rattle.changes.specs.Promise.{ClosedUnder, Smallest, singly, Alike, AddPromise, RemovePromise, TakenSingly}
use Rattle.changes.proofs.Touching.{marked_below, unmarked_at}
use Rattle.changes.proofs.Pairing.{none, Inside}
use Rattle.changes.proofs.Adding.{refers, leading_one, one_leading, closed_by, by_closed, added_objects, added_formed, added_refers}

-- ---- completed marks

module _ (G : Graph) (ms : List ℕ) where
  completed_long : length (completed G ms) ≡ length ms
  unfolding completed
  completed_long = listing_length (λ (v : ℕ). mark_by (get_or ms v 0) (get_or (closure G ms) v 0)) 0 (length ms)

  completed_at : (v : ℕ) → get_or (completed G ms) v 0 ≡ mark_by (get_or ms v 0) (get_or (closure G ms) v 0)
  unfolding completed
  completed_at v =
      by_cases (dec_lt v (length ms))
      (λ (h : v < length ms).
      listing_at (λ (w : ℕ). mark_by (get_or ms w 0) (get_or (closure G ms) w 0)) 0 0 (length ms) v h
      ∙ ap (λ (w : ℕ). mark_by (get_or ms w 0) (get_or (closure G ms) w 0)) (zero-add v))
      (λ h.
      get_or-eq_default (completed G ms) 0 {n = v} (omega (arith, h, completed_long))
      ∙ sym (blank (get_or-eq_default ms 0 {n = v} (omega (arith, h))) (get_or-eq_default (closure G ms) 0 {n = v} (omega (arith, h, closure_length G ms)))))
    where
      blank : get_or ms v 0 ≡ 0 → get_or (closure G ms) v 0 ≡ 0 → mark_by (get_or ms v 0) (get_or (closure G ms) v 0) ≡ 0
      blank e f = rw (e, f)

  by_mark : (x y : ℕ) → 0 < x → mark_by x y ≡ x
  by_mark zero y h = absurd (omega arith)
  by_mark (suc x) y h = refl

  by_new : (x y : ℕ) → x ≡ 0 → 0 < mark_by x y → mark_by x y ≡ new_mark
  by_new zero zero e h = absurd (omega (arith, h))
  by_new zero (suc y) e h = refl
  by_new (suc x) y e h = absurd (omega (arith, e))

  by_either : (x y : ℕ) → (0 < x → 0 < y) → 0 < mark_by x y → 0 < y
  by_either zero zero f h = h
  by_either zero (suc y) f h = omega arith
  by_either (suc x) y f h = f (omega arith)

  by_closure : (x y : ℕ) → 0 < y → 0 < mark_by x y
  by_closure zero zero h = h
  by_closure zero (suc y) h = omega arith
  by_closure (suc x) y h = omega arith

  -- the marked ones are those of the least closed set
  pub in_closure : (v : ℕ) → Marked (completed G ms) v → Marked (closure G ms) v
  in_closure v h = by_either (get_or ms v 0) (get_or (closure G ms) v 0) (closure_holds G ms v) (rw (completed_at v) at h)

  pub of_closure : (v : ℕ) → Marked (closure G ms) v → Marked (completed G ms) v
  of_closure v h = rw (completed_at v) (by_closure (get_or ms v 0) (get_or (closure G ms) v 0) h)

  pub completed_kept : (v : ℕ) → Marked ms v → get_or (completed G ms) v 0 ≡ get_or ms v 0
  completed_kept v h = completed_at v ∙ by_mark (get_or ms v 0) (get_or (closure G ms) v 0) h

  pub completed_fresh : (v : ℕ) → get_or ms v 0 ≡ 0 → Marked (completed G ms) v → get_or (completed G ms) v 0 ≡ new_mark
  completed_fresh v e h = completed_at v ∙ by_new (get_or ms v 0) (get_or (closure G ms) v 0) e (rw (completed_at v) at h)

  pub completed_closed : Formed G → length ms ≡ objects G → Closed G (Marked (completed G ms))
  completed_closed F n u e h l = of_closure (target G e) (closure_closed G F ms n u e (in_closure u h) l)

  pub completed_least : (P : ℕ → Type 0) → ((v : ℕ) → Marked ms v → P v) → Closed G P → (v : ℕ) → Marked (completed G ms) v → P v
  completed_least P f cl v h = closure_least G ms P f cl v (in_closure v h)

-- ---- adding

module _ (G : Graph) (F : Formed G) (ps : List Pair) (low : Every (Inside (objects G)) ps) (ms : List ℕ) (sizes : length ms ≡ objects G) where
  abbrev G' : Graph
  G' = added G ps

  F' : Formed G'
  F' = added_formed G F ps low

  sizes' : length ms ≡ objects G'
  sizes' = sizes ∙ sym (added_objects G F ps low)

  -- a set is closed under the enlarged store exactly if it is closed under old and new references
  pub closed_both : (q : List ℕ) → Closed G (Marked q) → ClosedUnder ps q → Closed G' (Marked q)
  closed_both q c d =
      closed_by F' (Marked q)
      (λ u t h m r.
      let o : u < objects G = omega (arith, h, added_objects G F ps low) in
      ⊎_elim
      (λ (x : 0 < refers G u t). by_closed F (Marked q) c u t o m x)
      (λ (x : 0 < leading u t ps). d u t x m)
      (either_positive (refers G u t) (leading u t ps) (rw (added_refers G F ps low u t o) at r)))

  module _ (q : List ℕ) (long : length q ≡ objects G) (c : Closed G' (Marked q)) where
    step : (u t : ℕ) → 0 < refers G u t + leading u t ps → Marked q u → Marked q t
    step u t x m =
        let o : u < objects G = omega (arith, marked_below q u m, long) in
        by_closed F' (Marked q) c u t (omega (arith, o, added_objects G F ps low)) m (rw (added_refers G F ps low u t o) x)

    pub closed_old : Closed G (Marked q)
    closed_old = closed_by F (Marked q) (λ u t h m x. step u t (omega (arith, x)) m)

    pub closed_new : ClosedUnder ps q
    closed_new u t x m = step u t (omega (arith, x)) m

  pub completed_smallest : Smallest G ps ms (completed G' ms)
  completed_smallest =
      let long = completed_long G' ms ∙ sizes in
      let c = completed_closed G' ms F' sizes' in
      record {
        long = completed_long G' ms;
        kept = completed_kept G' ms;
        fresh = completed_fresh G' ms;
        old = closed_old (completed G' ms) long c;
        new = closed_new (completed G' ms) long c;
        least = λ q f o n. completed_least G' ms (Marked q) f (closed_both q o n);
      }

  -- chains of the store are chains of the enlarged one
  still_reached : (starts : List ℕ) {v : ℕ} → Reach G starts v → Reach G' starts v
  still_reached starts (here h) = here h
  still_reached starts (on {u = u} e r l) =
      let t = target G e in
      let q = view_has F l.object l in
      let o : u < objects G' = omega (arith, l.object, added_objects G F ps low) in
      let w = view_only F' o t (rw (added_refers G F ps low u t l.object) (omega (arith, q))) in
      subst (Reach G' starts) (sym w.2) (on w.0 (still_reached starts r) w.1)

  module _ (starts : List ℕ) (live : LiveMarks G starts ms) where
    live_reached : {v : ℕ} → Reach G' starts v → Marked (completed G' ms) v
    live_reached (here {v = v} h) = of_closure G' ms v (closure_holds G' ms v ((live.exactly v).1 (here h)))
    live_reached (on {u = u} e r l) = completed_closed G' ms F' sizes' u e (live_reached r) l

    pub still_live : LiveMarks G' starts (completed G' ms)
    still_live =
        record {
          long = completed_long G' ms ∙ sizes';
          exactly = λ v.
              (completed_least G' ms (Reach G' starts) (λ w h. still_reached starts ((live.exactly w).0 h)) (λ u e p l. on e p l) v, λ r. live_reached r);
        }

-- two smallest sets of the same pairs are one
pub smallest_one : {G : Graph} {ps qs : List Pair} {ms r s : List ℕ} → Smallest G ps ms r → Smallest G qs ms s → Alike ps qs → r ≡ s
smallest_one {G} {ps} {qs} {ms} {r} {s} a b same =
    ext_get_or 0 r s (a.long ∙ sym b.long) (λ v h. value v (get_or ms v 0) refl)
  where
    there : (v : ℕ) → Marked r v → Marked s v
    there = a.least s (λ v h. omega (arith, h, b.kept v h)) b.old (λ u t x m. b.new u t (rw (same u t) at x) m)

    back : (v : ℕ) → Marked s v → Marked r v
    back = b.least r (λ v h. omega (arith, h, a.kept v h)) a.old (λ u t x m. a.new u t (rw (same u t) x) m)

    value : (v x : ℕ) → get_or ms v 0 ≡ x → get_or r v 0 ≡ get_or s v 0
    value v (suc x) e = a.kept v (omega (arith, e)) ∙ sym (b.kept v (omega (arith, e)))
    value v zero e =
        by_cases (dec_lt 0 (get_or r v 0)) (λ (h : 0 < get_or r v 0). a.fresh v e h ∙ sym (b.fresh v e (there v h)))
        (λ h. omega (arith, h, unmarked_at s v (λ q. h (back v q))))

-- the pairs one by one
pub singly_smallest : (ps : List Pair) (G : Graph) → Formed G → Every (Inside (objects G)) ps → (ms : List ℕ) → length ms ≡ objects G
    → Closed G (Marked ms) → Smallest G ps ms (singly G ms ps)
unfolding singly sum
singly_smallest [] G F low ms n cl =
    record {
      long = refl;
      kept = λ v h. refl;
      fresh = λ v e h. absurd (omega (arith, e, h));
      old = cl;
      new = λ u t x m. absurd (omega (arith, x));
      least = λ q f o d v h. f v h;
    }
singly_smallest (p ∷ ps) G F low ms n cl =
    let one : Every (Inside (objects G)) (p ∷ []) = (low.0, tt) in
    let G₁ = added G (p ∷ []) in
    let m₁ = completed G₁ ms in
    let objs = added_objects G F (p ∷ []) one in
    let F₁ = added_formed G F (p ∷ []) one in
    let n₁ : length m₁ ≡ objects G₁ = completed_long G₁ ms ∙ n ∙ sym objs in
    let s = completed_smallest G F (p ∷ []) one ms n in
    let c₁ = completed_closed G₁ ms F₁ (n ∙ sym objs) in
    let rest = singly_smallest ps G₁ F₁ (subst (λ (k : ℕ). Every (Inside k) ps) (sym objs) low.1) m₁ n₁ c₁ in
    let r = singly G₁ m₁ ps in
    let long : length r ≡ objects G = rest.long ∙ completed_long G₁ ms ∙ n in
    record {
      long = rest.long ∙ s.long;
      kept = λ v h. rest.kept v (omega (arith, h, s.kept v h)) ∙ s.kept v h;
      fresh = λ v e h.
          by_cases (dec_lt 0 (get_or m₁ v 0)) (λ (q : 0 < get_or m₁ v 0). rest.kept v q ∙ s.fresh v e q)
          (λ q. rest.fresh v (omega (arith, q)) h);
      old = closed_old G F (p ∷ []) one ms n r long rest.old;
      new = λ u t x m.
          ⊎_elim
          (λ (y : 0 < hit u p.from * hit t p.to). closed_new G F (p ∷ []) one ms n r long rest.old u t (omega (arith, y)) m)
          (λ (y : 0 < leading u t ps). rest.new u t y m)
          (either_positive (hit u p.from * hit t p.to) (leading u t ps) x);
      least = λ q f o d v h.
          let d₁ : ClosedUnder (p ∷ []) q = λ u t x m. d u t (omega (arith, x)) m in
          rest.least q (s.least q f o d₁) (closed_both G F (p ∷ []) one ms n q o d₁) (λ u t x m. d u t (omega (arith, x)) m) v h;
    }

-- each call with one of them is accepted
singly_taken : (ps : List Pair) (G : Graph) → Formed G → Every (Inside (objects G)) ps → (ms : List ℕ) → length ms ≡ objects G
    → Closed G (Marked ms) → TakenSingly G ms ps
singly_taken [] G F low ms n cl = tt
singly_taken (p ∷ ps) G F low ms n cl =
    let one : Every (Inside (objects G)) (p ∷ []) = (low.0, tt) in
    let G₁ = added G (p ∷ []) in
    let objs = added_objects G F (p ∷ []) one in
    let F₁ = added_formed G F (p ∷ []) one in
    let rest = singly_taken ps G₁ F₁ (subst (λ (k : ℕ). Every (Inside k) ps) (sym objs) low.1) (completed G₁ ms)
    (completed_long G₁ ms ∙ n ∙ sym objs) (completed_closed G₁ ms F₁ (n ∙ sym objs)) in
    (well_formed_lem G F, low.0, cl, rest)

-- a pair as often as before is one of the same objects
alike_inside : (n : ℕ) (ps qs : List Pair) → Alike ps qs → Every (Inside n) ps → Every (Inside n) qs
alike_inside n ps qs same h =
    at_every (Inside n) qs none
    (λ i w.
    let q = get_or qs i none in
    let r = leading_one ps q.from q.to (rw (same q.from q.to) (one_leading qs i w)) in
    let x = every_at (Inside n) ps r.0 none h r.1 in
    (omega (arith, r.2, x.0), omega (arith, r.3, x.1)))

-- what adding leaves, where the marks were closed
pub add_promise : (G : Graph) → Formed G → (ps : List Pair) → Every (Inside (objects G)) ps → (ms : List ℕ) → length ms ≡ objects G
    → Closed G (Marked ms) → AddPromise G ps ms (completed (added G ps) ms)
add_promise G F ps low ms n cl =
    let s = completed_smallest G F ps low ms n in
    record {
      passes = well_formed_lem (added G ps) (added_formed G F ps low);
      smallest = s;
      live = still_live G F ps low ms n;
      any_order = λ qs same.
          let inside = alike_inside (objects G) ps qs same low in
          (singly_taken qs G F inside ms n cl, smallest_one s (singly_smallest qs G F inside ms n cl) same);
    }

-- ---- taking out

module _ (G : Graph) (F : Formed G) (starts : List ℕ) (low : all_below (objects G) starts ≡ true) where
  abbrev given : List ℕ
  given = start_marks (objects G) starts

  given_long : length given ≡ objects G
  unfolding start_marks
  given_long = listing_length (λ (v : ℕ). set? (sum (hit v) starts)) 0 (objects G)

  given_at : (v : ℕ) → v < objects G → get_or given v 0 ≡ set? (sum (hit v) starts)
  unfolding start_marks
  given_at v h =
      listing_at (λ (w : ℕ). set? (sum (hit w) starts)) 0 0 (objects G) v h ∙ ap (λ (w : ℕ). set? (sum (hit w) starts)) (zero-add v)

  start_below : (v : ℕ) → 0 < sum (hit v) starts → v < objects G
  start_below v h =
      let r = sum_positive (hit v) 0 starts h in
      omega (arith, hit_equal v (get_or starts r.0 0) r.2, below_all (objects G) starts low r.0 r.1)

  set_one : (x : ℕ) → 0 < x → set? x ≡ 1
  set_one zero h = absurd (omega arith)
  set_one (suc x) h = refl

  given_start : (v : ℕ) → 0 < sum (hit v) starts → get_or given v 0 ≡ 1
  given_start v h = given_at v (start_below v h) ∙ set_one (sum (hit v) starts) h

  given_only : (v : ℕ) → Marked given v → 0 < sum (hit v) starts
  given_only v h =
      by_cases (dec_lt 0 (sum (hit v) starts)) (λ (q : 0 < sum (hit v) starts). q)
      (λ q.
      let z : sum (hit v) starts ≡ 0 = omega (arith, q) in
      let w : v < objects G = omega (arith, marked_below given v h, given_long) in
      absurd (omega (arith, h, given_at v w ∙ ap set? z)))

  reached_marked : {v : ℕ} → Reach G starts v → Marked (marks_afresh G starts) v
  reached_marked (here {v = v} h) = of_closure G given v (closure_holds G given v (omega (arith, given_start v h)))
  reached_marked (on {u = u} e r l) = completed_closed G given F given_long u e (reached_marked r) l

  marked_reached : (v : ℕ) → Marked (marks_afresh G starts) v ↔ Reach G starts v
  marked_reached v =
      (completed_least G given (Reach G starts) (λ w h. here (given_only w h)) (λ u e p l. on e p l) v, λ r. reached_marked r)

  pub afresh_promise : RemovePromise G starts (marks_afresh G starts)
  afresh_promise =
      record {
        passes = well_formed_lem G F;
        live = record { long = completed_long G given ∙ given_long; exactly = marked_reached };
        start_mark = λ v h. completed_kept G given v (omega (arith, given_start v h)) ∙ given_start v h;
        other_mark = λ v z h. completed_fresh G given v (unmarked_at given v (λ q. omega (arith, z, given_only v q))) h;
        finished = λ marks m v.
            (λ h. (marked_is m v).1 ((marked_reached v).0 h), λ h. (marked_reached v).1 ((marked_is m v).0 h));
      }
