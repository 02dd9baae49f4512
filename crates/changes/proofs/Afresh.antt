-- Marks afresh: the starts are all that is marked, and all of them are on the list.
use mathlib.Core.Path.{◌≡◌, refl, sym, ap, subst, ◌∙◌}
use mathlib.Core.List.{List}
use mathlib.Core.Logic.{by_cases}
use Prim.Native.Nat.{ℕ, zero, suc, ◌+◌, ◌<◌}
use native.Mathlib.Nat.{zero-add}
use native.Mathlib.Decide.{dec_lt}
use native.Mathlib.Omega.{arith}
use lib.ListN.{length, get_or, replicate, length-replicate, get_or-replicate, get_or-eq_default}
use lib.Seq.{ext_get_or}
use Rattle.laws.specs.Sum.{sum, hit}
use Rattle.laws.proofs.Span.{listing_length, listing_at}
use Rattle.graph.specs.Graph.{Graph, objects}
use Rattle.graph.specs.Formed.{Formed}
use Rattle.graph.specs.Chain.{set?}
use Rattle.machine.specs.Sound.{Marked}
use Rattle.changes.specs.Stores.{start_marks}
use Rattle.changes.specs.Marking.{listed, Roomy, Touched, Between, Followable}
use Rattle.changes.proofs.Touching.{unset_some, unset_none, unset_zero, unmarked_at}
use Rattle.changes.proofs.Following.{between_none}
use Rattle.changes.proofs.Adding.{unmarked_limit}

none_marked : (n v : ℕ) → get_or (replicate {A = ℕ} n 0) v 0 ≡ 0
none_marked n v =
    by_cases (dec_lt v n) (λ (h : v < n). get_or-replicate n v 0 0 h)
    (λ h. get_or-eq_default (replicate n 0) 0 {n = v} (omega (arith, h, length-replicate {A = ℕ} n 0)))

module _ {G : Graph} (F : Formed G) (n : ℕ) (sizes : n + 1 ≡ length G.offsets) (work : List ℕ) (long : length work ≡ n) (few : length work < 4294967296) where
  pub afresh_room : {ms : List ℕ} → ms ≡ replicate n 0 → Roomy ms work 0
  afresh_room {ms} e =
      record { room = omega (arith, unmarked_limit ms, ap length e, length-replicate {A = ℕ} n 0, long); few = few }

  module _ {starts ms₀ ms work' : List ℕ} {top : ℕ} (e : ms₀ ≡ replicate n 0) (t : Touched 1 starts ms₀ work 0 ms work' top) where
    zero_at : (v : ℕ) → get_or ms₀ v 0 ≡ 0
    zero_at v = ap (λ (l : List ℕ). get_or l v 0) e ∙ none_marked n v

    long₀ : length ms₀ ≡ n
    long₀ = ap length e ∙ length-replicate {A = ℕ} n 0

    -- what is marked is on the list
    on : (v : ℕ) → Marked ms v → 0 < listed v work' top
    unfolding sum
    on v h = omega (arith, unset_some (get_or ms v 0) h, unset_zero (get_or ms₀ v 0) (zero_at v), t.holds v)

    listed_marked : (v : ℕ) → 0 < listed v work' top → Marked ms v
    unfolding sum
    listed_marked v h =
        unset_none (get_or ms v 0) (omega (arith, h, unset_zero (get_or ms₀ v 0) (zero_at v), t.holds v))

    pub afresh_followable : Followable G ms work' top
    afresh_followable =
        record {
          formed = F;
          sizes = omega (arith, t.marks_long, long₀, sizes);
          roomy =
              record {
                room = omega (arith, t.sized, unmarked_limit ms₀, long₀, t.list_long, long);
                few = omega (arith, few, t.list_long);
              };
          on_list = listed_marked;
          closed = λ u k m z l. absurd (omega (arith, z, on u m));
        }

    -- the marks are those of the starts
    start_marks_lem : ms ≡ start_marks n starts
    unfolding start_marks
    start_marks_lem =
        ext_get_or 0 ms (start_marks n starts) (t.marks_long ∙ long₀ ∙ sym (listing_length (λ (v : ℕ). set? (sum (hit v) starts)) 0 n))
        (λ v h.
        value v (sum (hit v) starts) refl
        ∙ sym (listing_at (λ (w : ℕ). set? (sum (hit w) starts)) 0 0 n v (omega (arith, h, t.marks_long, long₀))
        ∙ ap (λ (w : ℕ). set? (sum (hit w) starts)) (zero-add v)))
      where
        value : (v k : ℕ) → sum (hit v) starts ≡ k → get_or ms v 0 ≡ set? k
        value v zero q = unmarked_at ms v (λ h. omega (arith, q, (t.fresh v (zero_at v) h).1))
        value v (suc k) q = (t.fresh v (zero_at v) (t.looked v (omega (arith, q)))).0

    pub afresh_between : Between G (start_marks (objects G) starts) ms
    afresh_between =
        let q : n ≡ objects G = omega (arith, sizes) in
        subst (λ (l : List ℕ). Between G (start_marks (objects G) starts) l) (sym (start_marks_lem ∙ ap (λ (k : ℕ). start_marks k starts) q))
        (between_none G (start_marks (objects G) starts))
