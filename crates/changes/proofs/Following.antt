-- Following references until the list is empty leaves the completed marks. What carries the argument: a marked object that is not on the
-- list has only marked targets, and every mark is within the least closed set.
use mathlib.Core.Path.{◌≡◌, refl, sym, ap, subst, ◌∙◌}
use mathlib.Core.Bool.{true}
use mathlib.Core.List.{List, [], ◌∷◌}
use mathlib.Core.Logic.{by_cases}
use Prim.Native.Nat.{ℕ, zero, suc, ◌+◌, ◌-◌, ◌≤◌, ◌<◌}
use native.Mathlib.Nat.{zero-add}
use native.Mathlib.Decide.{ℕ_discrete, dec_lt}
use native.Mathlib.Omega.{arith}
use borrow.Author.Tests.{lt-ltb}
use lib.ListN.{length, get_or}
use lib.Seq.{ext_get_or}
use Rattle.laws.specs.Sum.{sum, hit}
use Rattle.laws.proofs.Sum.{hit_same, hit_other}
use Rattle.laws.proofs.Span.{listing_length, listing_at}
use Rattle.graph.specs.Graph.{Graph, Leaves, objects, references_of, target, all_below}
use Rattle.graph.specs.Formed.{Formed}
use Rattle.graph.specs.Chain.{closure, Closed}
use Rattle.graph.proofs.OverMarked.{after_limit}
use Rattle.graph.proofs.View.{view_has, view_only}
use Rattle.graph.proofs.Reached.{closure_holds, closure_least, closure_closed}
use Rattle.machine.specs.Sound.{Marked}
use Rattle.changes.specs.Stores.{mark_by, completed, new_mark}
use Rattle.changes.specs.Marking.{listed, unmarked, Roomy, ListLeft, Touched, Between, Followable}
use Rattle.changes.proofs.Touching.{unset_zero, unset_some, unset_none, marked_below, unmarked_at, list_less, left_none, left_then, stays_marked, roomy_next}

-- ---- numbers below a bound

-- every number that stands in the list is below n
pub hits_below : (n : ℕ) (l : List ℕ) → ((v : ℕ) → 0 < sum (hit v) l → v < n) → all_below n l ≡ true
unfolding all_below sum
hits_below n [] h = refl
hits_below n (x ∷ l) h = rw (lt-ltb x n (h x (omega (arith, hit_same x)))) (hits_below n l (λ v q. h v (omega (arith, q))))

-- a reference leads to an object
pub leads_inside : {G : Graph} → Formed G → (u e : ℕ) → Leaves G e u → target G e < objects G
leads_inside {G} F u e l = F.inside e (omega (arith, l.below, after_limit G F u l.object))

-- so every number in the view of an object is one
pub view_below : {G : Graph} → Formed G → (u : ℕ) → u < objects G → all_below (objects G) (references_of G u) ≡ true
view_below {G} F u h =
    hits_below (objects G) (references_of G u) (λ v q. let r = view_only F h v q in rw r.2 (leads_inside F u r.0 r.1))

-- ---- completed marks

module _ {G : Graph} {given ms : List ℕ} (b : Between G given ms) where
  holds_given : (v : ℕ) → Marked given v → Marked ms v
  holds_given v h = omega (arith, h, b.kept v h)

  -- closed marks on the way are the completed ones
  pub completed_is : Closed G (Marked ms) → ms ≡ completed G given
  unfolding completed
  completed_is cl =
      ext_get_or 0 ms (completed G given) (b.long ∙ sym (listing_length (λ (v : ℕ). mark_by (get_or given v 0) (get_or (closure G given) v 0)) 0 (length given)))
      (λ v h.
      value v (get_or given v 0) (get_or (closure G given) v 0) refl refl
      ∙ sym (listing_at (λ (w : ℕ). mark_by (get_or given w 0) (get_or (closure G given) w 0)) 0 0 (length given) v (omega (arith, h, b.long))
      ∙ ap (λ (w : ℕ). mark_by (get_or given w 0) (get_or (closure G given) w 0)) (zero-add v)))
    where
      value : (v x y : ℕ) → get_or given v 0 ≡ x → get_or (closure G given) v 0 ≡ y → get_or ms v 0 ≡ mark_by x y
      value v zero zero e f = unmarked_at ms v (λ h. omega (arith, f, b.within v h))
      value v zero (suc y) e f = b.fresh v e (closure_least G given (Marked ms) holds_given cl v (omega (arith, f)))
      value v (suc x) y e f = b.kept v (omega (arith, e)) ∙ e

  -- one step more
  pub between_touched : {seen list : List ℕ} {top : ℕ} {ms' list' : List ℕ} {top' : ℕ} → Touched new_mark seen ms list top ms' list' top'
      → ((v : ℕ) → 0 < sum (hit v) seen → Marked (closure G given) v) → Between G given ms'
  between_touched t inside =
      record {
        long = t.marks_long ∙ b.long;
        kept = λ v h. t.kept v (holds_given v h) ∙ b.kept v h;
        fresh = λ v e h.
            by_cases (dec_lt 0 (get_or ms v 0)) (λ (p : 0 < get_or ms v 0). t.kept v p ∙ b.fresh v e p)
            (λ p. (t.fresh v (omega (arith, p)) h).0);
        within = λ v h.
            by_cases (dec_lt 0 (get_or ms v 0)) (λ (p : 0 < get_or ms v 0). b.within v p)
            (λ p. inside v (t.fresh v (omega (arith, p)) h).1);
      }

pub between_none : (G : Graph) (given : List ℕ) → Between G given given
between_none G given =
    record { long = refl; kept = λ v h. refl; fresh = λ v e h. absurd (omega (arith, e, h)); within = closure_holds G given }

-- ---- one object of the list

module _ {G : Graph} {ms list : List ℕ} {top : ℕ} (f : Followable G ms list (suc top)) where
  abbrev last : ℕ
  last = get_or list top 0

  inside_list : top < length list
  inside_list = omega (arith, f.roomy.room)

  last_marked : Marked ms last
  last_marked = f.on_list last (omega (arith, list_less last list top inside_list, hit_same last))

  pub last_object : last < objects G
  last_object = omega (arith, marked_below ms last last_marked, f.sizes)

  -- the list without it
  pub follow_room : Roomy ms list top
  follow_room = record { room = omega (arith, f.roomy.room); few = f.roomy.few }

  pub follow_below : all_below (length ms) (references_of G last) ≡ true
  follow_below = rw f.sizes (view_below f.formed last last_object)

  module _ {ms' list' : List ℕ} {top' : ℕ} (t : Touched new_mark (references_of G last) ms list top ms' list' top') where
    -- on the list or unmarked: as before
    on_list_next : (v : ℕ) → 0 < listed v list' top' → Marked ms' v
    on_list_next v h =
        by_cases (dec_lt 0 (get_or ms v 0)) (λ (p : 0 < get_or ms v 0). stays_marked t v p)
        (λ p.
        by_cases (dec_lt 0 (get_or ms' v 0)) (λ (q : 0 < get_or ms' v 0). q)
        (λ q.
        let a = unset_zero (get_or ms v 0) (omega (arith, p)) in
        let b = unset_zero (get_or ms' v 0) (omega (arith, q)) in
        absurd (p (f.on_list v (omega (arith, h, a, b, t.holds v, list_less v list top inside_list))))))

    closed_next : (u e : ℕ) → Marked ms' u → listed u list' top' ≡ 0 → Leaves G e u → Marked ms' (target G e)
    closed_next u e m z l =
        let q = unset_some (get_or ms' u 0) m in
        let w : Marked ms u = unset_none (get_or ms u 0) (omega (arith, z, q, t.holds u)) in
        by_cases (ℕ_discrete u last)
        (λ (s : u ≡ last).
        t.looked (target G e)
        (view_has f.formed last_object (subst (λ (i : ℕ). Leaves G e i) s l)))
        (λ s.
        stays_marked t (target G e)
        (f.closed u e w (omega (arith, z, q, t.holds u, list_less u list top inside_list, hit_other u last s)) l))

    pub follow_next : Followable G ms' list' top'
    follow_next =
        record {
          formed = f.formed;
          sizes = t.marks_long ∙ f.sizes;
          roomy = roomy_next t follow_room;
          on_list = on_list_next;
          closed = closed_next;
        }

    pub between_next : (given : List ℕ) → Between G given ms → Between G given ms'
    between_next given b =
        between_touched b t
        (λ v h.
        let r = view_only f.formed last_object v h in
        rw r.2
        (closure_closed G f.formed given (sym b.long ∙ f.sizes) last r.0 (b.within last last_marked) r.1))

-- ---- the loop

pub record FollowAt (G : Graph) (ms₀ list₀ : List ℕ) (top₀ : ℕ) (ms list : List ℕ) (top : ℕ) : Type 0 where
  pub followable : Followable G ms list top
  pub between : (given : List ℕ) → Between G given ms₀ → Between G given ms
  pub marks_long : length ms ≡ length ms₀
  pub list_long : length list ≡ length list₀
  -- what is on the list and what is not marked have not become more
  pub no_more : top + unmarked ms ≤ top₀ + unmarked ms₀
  pub left : ListLeft top₀ ms₀ list₀ ms list

pub following_start : {G : Graph} {ms list : List ℕ} {top : ℕ} → Followable G ms list top → FollowAt G ms list top ms list top
following_start {ms = ms} {list} {top} f =
    record { followable = f; between = λ given b. b; marks_long = refl; list_long = refl; no_more = omega arith; left = left_none top ms list }

module _ {G : Graph} {ms₀ list₀ : List ℕ} {top₀ : ℕ} {ms list : List ℕ} {top : ℕ} (a : FollowAt G ms₀ list₀ top₀ ms list top) where
  -- the list is not empty
  pub last_of : 0 < top → Followable G ms list (suc (top - 1))
  last_of h =
      let q : top ≡ suc (top - 1) = omega (arith, h) in
      subst (λ (k : ℕ). Followable G ms list k) q a.followable

  pub following_next : (h : 0 < top) {ms' list' : List ℕ} {top' : ℕ}
      → Touched new_mark (references_of G (get_or list (top - 1) 0)) ms list (top - 1) ms' list' top' → FollowAt G ms₀ list₀ top₀ ms' list' top'
  following_next h t =
      let no_more = a.no_more in
      record {
        followable = follow_next (last_of h) t;
        between = λ given b. between_next (last_of h) t given (a.between given b);
        marks_long = t.marks_long ∙ a.marks_long;
        list_long = t.list_long ∙ a.list_long;
        no_more = omega (arith, t.sized);
        left = left_then a.left (omega arith) t.left;
      }

  -- it is
  pub following_end : top ≡ 0 → ((given : List ℕ) → Between G given ms₀ → ms ≡ completed G given) × ListLeft top₀ ms₀ list₀ ms list
  unfolding sum
  following_end z =
      let f : Followable G ms list 0 = subst (λ (k : ℕ). Followable G ms list k) z a.followable in
      (λ given b. completed_is (a.between given b) (λ u e m l. f.closed u e m refl l), a.left)
