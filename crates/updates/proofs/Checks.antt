-- The checks of both calls in their order, and what the calls promise at each exit.
use mathlib.Core.Path.{◌≡◌, refl, sym, ap, ◌∙◌}
use mathlib.Core.Bool.{Bool, true, false, not, ◌||◌}
use mathlib.Core.List.{List, map}
use Prim.Native.Nat.{ℕ, ◌+◌, ◌-◌, ◌≤◌, ◌<◌}
use native.Mathlib.Omega.{arith}
use lib.Dec.{ltb, eqb}
use lib.ListN.{length, length-map, replicate}
use borrow.Author.Tests.{eqb-true, not-false, ltb-false, lt-ltb, le-ltb}
use Rattle.laws.specs.Test.{all_up_to}
use Rattle.refusal.specs.declared.Refusal.{Refusal}
use Rattle.refusal.specs.declared.Refusal.TheVariants.{Count, Buffer, Graph as NoGraph, Object, Marks}
use Rattle.std.specs.Prelude.{Result, Ok, Err}
use Rattle.refusal.specs.Number.{number_of}
use Rattle.refusal.specs.Order.{raise}
use Rattle.refusal.proofs.None.{raise_none, first_none, or_none}
use Rattle.refusal.proofs.Numbers.{numbered}
use Rattle.graph.specs.Graph.{Graph, graph, objects, all_below, well_formed}
use Rattle.graph.specs.Chain.{Closed}
use Rattle.graph.specs.Formed.{Formed}
use Rattle.graph.specs.Limits.{most_objects, most_references}
use Rattle.graph.proofs.Formed.{formed, below_all}
use Rattle.desk.specs.Checks.{counts_outside, count_fault, store_fault}
use Rattle.desk.proofs.Passed.{counted, stored}
use Rattle.machine.specs.Sound.{Marked}
use Rattle.updates.specs.declared.Lengths.{Lengths}
use Rattle.changes.specs.Pairs.{paired}
use Rattle.changes.specs.Stores.{added, completed, distinct, stays, staying, chosen, removed, marks_afresh}
use Rattle.changes.specs.Filling.{Addable}
use Rattle.changes.specs.Marking.{ListLeft}
use Rattle.updates.specs.Call.{lengths, lengths_wrong, closed_at, add_fault, AddFinds, Adds, remove_fault, RemoveFinds, Removes}
use Rattle.updates.proofs.Closing.{found_closed}
use Rattle.changes.proofs.Keeping.{distinct_staying, removed_is, removed_objects, removed_formed}
use Rattle.changes.proofs.Pairing.{paired_inside}
use Rattle.changes.proofs.Promise.{add_promise, afresh_promise}

-- either of two tests
pub or_left : {s : Bool} (t : Bool) → s ≡ true → (s || t) ≡ true
or_left t e = rw e

pub or_right : (s : Bool) {t : Bool} → t ≡ true → (s || t) ≡ true
or_right true e = refl
or_right false e = e

pub or_neither : {s t : Bool} → s ≡ false → t ≡ false → (s || t) ≡ false
or_neither e f = rw e f

pub none_of : {t : Bool} → t ≡ true → not t ≡ false
none_of e = ap not e

pub found_by : {t : Bool} → t ≡ false → not t ≡ true
found_by e = ap not e

-- the enlarged m, without the sum being made
pub sum_over : (m k : ℕ) → m ≤ most_references → most_references - m < k → ltb most_references (m + k) ≡ true
sum_over m k h q = lt-ltb most_references (m + k) (omega (arith, h, q))

pub sum_within : (m k : ℕ) → m ≤ most_references → k ≤ most_references - m → ltb most_references (m + k) ≡ false
sum_within m k h q = le-ltb most_references (m + k) (omega (arith, h, q))

-- ---- adding

abbrev pub Lists? : ℕ → ℕ → List ℕ → List ℕ → Lengths → Bool
Lists? n m from to l = not (eqb (length to) (length from)) || lengths_wrong n (m + length from) l

abbrev pub Pairs? : ℕ → List ℕ → List ℕ → Bool
Pairs? n from to = not (all_below n from) || not (all_below n to)

module _ {os ts from to ms : List ℕ} {l : Lengths} where
  pub add_4 : counts_outside (length os - 1) (length ts) ≡ true → AddFinds (Err Count) os ts from to ms l
  unfolding add_fault
  add_4 e = record { number_is = rw e }

  module _ (e₄ : counts_outside (length os - 1) (length ts) ≡ false) where
    pub add_sum : ltb most_references (length ts + length from) ≡ true → AddFinds (Err Count) os ts from to ms l
    unfolding add_fault
    add_sum e = record { number_is = rw (e₄, e) }

    module _ (s₄ : ltb most_references (length ts + length from) ≡ false) where
      pub add_7 : Lists? (length os - 1) (length ts) from to l ≡ true → AddFinds (Err Buffer) os ts from to ms l
      unfolding add_fault
      add_7 e = record { number_is = rw (e₄, s₄, e) }

      module _ (e₇ : Lists? (length os - 1) (length ts) from to l ≡ false) where
        pub add_10 : well_formed (graph os ts) ≡ false → AddFinds (Err NoGraph) os ts from to ms l
        unfolding add_fault
        add_10 e = record { number_is = rw (e₄, s₄, e₇, e) }

        module _ (e₁₀ : well_formed (graph os ts) ≡ true) where
          pub add_5 : Pairs? (length os - 1) from to ≡ true → AddFinds (Err Object) os ts from to ms l
          unfolding add_fault
          add_5 e = record { number_is = rw (e₄, s₄, e₇, e₁₀, e) }

          module _ (e₅ : Pairs? (length os - 1) from to ≡ false) where
            pub add_17 : all_up_to (length os - 1) (closed_at (graph os ts) ms) ≡ false → AddFinds (Err Marks) os ts from to ms l
            unfolding add_fault
            add_17 e = record { number_is = rw (e₄, s₄, e₇, e₁₀, e₅) (sym (ap (λ (t : Bool). raise (not t) 17 0) e)) }

            pub add_none : all_up_to (length os - 1) (closed_at (graph os ts) ms) ≡ true → AddFinds (Ok tt) os ts from to ms l
            unfolding add_fault
            add_none e = record { number_is = rw (e₄, s₄, e₇, e₁₀, e₅) (sym (ap (λ (t : Bool). raise (not t) 17 0) e)) }

-- what a call without a fault may go on with
pub record AddReady (os ts from to bounds places ms work : List ℕ) : Type 0 where
  pub addable : Addable (graph os ts) from to
  pub bounds_long : length bounds ≡ length os
  pub places_long : length places ≡ length ts + length from
  pub marks_long : length ms ≡ length os - 1
  pub work_long : length work ≡ length os - 1
  pub from_low : all_below (length ms) from ≡ true
  pub to_low : all_below (length ms) to ≡ true
  pub closed : Closed (graph os ts) (Marked ms)

-- the lengths of the buffers of both calls
pub record Fits (n targets : ℕ) (l : Lengths) : Type 0 where
  pub bounds_long : l.offsets ≡ n + 1
  pub places_long : l.targets ≡ targets
  pub marks_long : l.marks ≡ n
  pub work_long : l.work ≡ n

pub fits : (n targets : ℕ) (l : Lengths) → lengths_wrong n targets l ≡ false → Fits n targets l
fits n targets l e =
    let a = or_none (not (eqb l.offsets (n + 1)) || not (eqb l.targets targets) || not (eqb l.marks n)) (not (eqb l.work n)) e in
    let b = or_none (not (eqb l.offsets (n + 1)) || not (eqb l.targets targets)) (not (eqb l.marks n)) a.0 in
    let c = or_none (not (eqb l.offsets (n + 1))) (not (eqb l.targets targets)) b.0 in
    record {
      bounds_long = eqb-true _ _ (not-false _ c.0);
      places_long = eqb-true _ _ (not-false _ c.1);
      marks_long = eqb-true _ _ (not-false _ b.1);
      work_long = eqb-true _ _ (not-false _ a.1);
    }

module _ (os ts from to bounds places ms work : List ℕ) where
  abbrev n : ℕ
  n = length os - 1

  add_ready : add_fault os ts from to ms (lengths bounds places ms work) ≡ 0 → AddReady os ts from to bounds places ms work
  unfolding add_fault
  add_ready z =
      let l = lengths bounds places ms work in
      let a = first_none (count_fault os ts) _ z in
      let b = first_none (raise (ltb most_references (length ts + length from)) 4 0) _ a.1 in
      let c = first_none (raise (Lists? n (length ts) from to l) 7 0) _ b.1 in
      let d = first_none (raise (not (well_formed (graph os ts))) 10 0) _ c.1 in
      let e = first_none (raise (Pairs? n from to) 5 0) _ d.1 in
      let low = counted os ts a.0 in
      let lists = or_none (not (eqb (length to) (length from))) (lengths_wrong n (length ts + length from) l)
      (raise_none (Lists? n (length ts) from to l) 6 0 c.0).0 in
      let f = fits n (length ts + length from) l lists.1 in
      let pairs = or_none (not (all_below n from)) (not (all_below n to)) (raise_none (Pairs? n from to) 4 0 e.0).0 in
      let from_low = not-false _ pairs.0 in
      let to_low = not-false _ pairs.1 in
      let F = formed (graph os ts) (not-false _ (raise_none (not (well_formed (graph os ts))) 9 0 d.0).0) in
      record {
        addable =
            record {
              formed = F;
              few = low.1;
              few_references = ltb-false most_references (length ts + length from) (raise_none (ltb most_references (length ts + length from)) 3 0 b.0).0;
              alike = eqb-true _ _ (not-false _ lists.0);
              from_below = below_all n from from_low;
              to_below = below_all n to to_low;
            };
        bounds_long = omega (arith, f.bounds_long, low.0);
        places_long = f.places_long;
        marks_long = f.marks_long;
        work_long = f.work_long;
        from_low = rw f.marks_long from_low;
        to_low = rw f.marks_long to_low;
        closed =
            found_closed (graph os ts) ms F
            (not-false _ (raise_none (not (all_up_to n (closed_at (graph os ts) ms))) 16 0 e.1).0);
      }

module _ {os ts from to : List ℕ} (bounds places ms work : List ℕ) where
  pub adds_refused : {cause : Refusal} → AddFinds (Err cause) os ts from to ms (lengths bounds places ms work)
      → Adds os ts from to bounds places ms work (Err cause) bounds places ms work
  adds_refused {cause} found =
      record {
        number_is = found.number_is;
        store_is = λ z. absurd (omega (arith, z, found.number_is, numbered cause));
        marks_are = λ z. absurd (omega (arith, z, found.number_is, numbered cause));
        promise = λ z. absurd (omega (arith, z, found.number_is, numbered cause));
        work_left = λ z. absurd (omega (arith, z, found.number_is, numbered cause));
        unchanged = λ i z. (refl, refl, refl, refl);
      }

  module _ {x : Unit {0}} (found : AddFinds (Ok x) os ts from to ms (lengths bounds places ms work)) where
    pub found_ready : AddReady os ts from to bounds places ms work
    found_ready = add_ready os ts from to bounds places ms work (sym found.number_is)

    pub adds_fine : {y : Unit {0}} {bounds' places' ms' work' : List ℕ} → graph bounds' places' ≡ added (graph os ts) (paired from to)
        → ms' ≡ completed (added (graph os ts) (paired from to)) ms → ListLeft 0 ms work ms' work'
        → Adds os ts from to bounds places ms work (Ok y) bounds' places' ms' work'
    adds_fine g m left =
        let r = found_ready in
        let a = r.addable in
        let low = paired_inside (length os - 1) from to a.alike a.from_below a.to_below in
        record {
          number_is = found.number_is;
          store_is = λ q. g;
          marks_are = λ q. m;
          promise = λ q. rw m (add_promise (graph os ts) a.formed (paired from to) low ms r.marks_long r.closed);
          work_left = λ q. left;
          unchanged = λ i q. absurd (omega (arith, found.number_is, q));
        }

-- ---- taking out

module _ {os ts ns starts : List ℕ} {l : Lengths} where
  pub remove_4 : counts_outside (length os - 1) (length ts) ≡ true → RemoveFinds (Err Count) os ts ns starts l
  unfolding remove_fault
  remove_4 e = record { number_is = rw e }

  module _ (e₄ : counts_outside (length os - 1) (length ts) ≡ false) where
    pub remove_5 : all_below (length ts) ns ≡ false → RemoveFinds (Err Object) os ts ns starts l
    unfolding remove_fault
    remove_5 e = record { number_is = rw (e₄, e) }

    module _ (e₅ : all_below (length ts) ns ≡ true) {r : ℕ} (g : r ≡ distinct ns (length ts)) where
      pub remove_7 : lengths_wrong (length os - 1) (length ts - r) l ≡ true → RemoveFinds (Err Buffer) os ts ns starts l
      unfolding remove_fault
      remove_7 e = record { number_is = rw (e₄, e₅, ← g, e) }

      -- by what the checks of the store find: none, 10, 13 or 5
      pub remove_by : lengths_wrong (length os - 1) (length ts - r) l ≡ false → (v : Result (Unit {0}) Refusal) → number_of v ≡ store_fault os ts starts
          → RemoveFinds v os ts ns starts l
      unfolding remove_fault
      remove_by e₇ v e = record { number_is = rw (e₄, e₅, ← g, e₇) e }

pub record RemoveReady (os ts ns starts bounds places ms work : List ℕ) : Type 0 where
  pub formed : Formed (graph os ts)
  pub few : length os - 1 ≤ most_objects
  pub few_references : length ts ≤ most_references
  pub bounds_long : length bounds ≡ length os
  pub places_long : length places ≡ staying ns (length ts)
  pub marks_long : length ms + 1 ≡ length os
  pub work_long : length work ≡ length ms
  pub starts_low : all_below (length ms) starts ≡ true

module _ (os ts ns starts bounds places ms work : List ℕ) where
  abbrev N : ℕ
  N = length os - 1

  remove_ready : remove_fault os ts ns starts (lengths bounds places ms work) ≡ 0 → RemoveReady os ts ns starts bounds places ms work
  unfolding remove_fault
  remove_ready z =
      let l = lengths bounds places ms work in
      let a = first_none (count_fault os ts) _ z in
      let b = first_none (raise (not (all_below (length ts) ns)) 5 0) _ a.1 in
      let c = first_none (raise (lengths_wrong N (length ts - distinct ns (length ts)) l) 7 0) _ b.1 in
      let low = counted os ts a.0 in
      let s = stored os ts starts c.1 in
      let f = fits N (length ts - distinct ns (length ts)) l
      (raise_none (lengths_wrong N (length ts - distinct ns (length ts)) l) 6 0 c.0).0 in
      record {
        formed = s.formed;
        few = low.1;
        few_references = low.2;
        bounds_long = omega (arith, f.bounds_long, low.0);
        places_long = omega (arith, f.places_long, distinct_staying ns (length ts));
        marks_long = omega (arith, f.marks_long, low.0);
        work_long = f.work_long ∙ sym f.marks_long;
        starts_low = rw f.marks_long s.inside;
      }

module _ {os ts ns starts : List ℕ} (bounds places ms work : List ℕ) where
  pub removes_refused : {cause : Refusal} → RemoveFinds (Err cause) os ts ns starts (lengths bounds places ms work)
      → Removes os ts ns starts bounds places ms work (Err cause) bounds places ms work
  removes_refused {cause} found =
      record {
        number_is = found.number_is;
        store_is = λ z. absurd (omega (arith, z, found.number_is, numbered cause));
        marks_are = λ z. absurd (omega (arith, z, found.number_is, numbered cause));
        promise = λ z. absurd (omega (arith, z, found.number_is, numbered cause));
        work_left = λ z. absurd (omega (arith, z, found.number_is, numbered cause));
        unchanged = λ i z. (refl, refl, refl, refl);
      }

  module _ {x : Unit {0}} (found : RemoveFinds (Ok x) os ts ns starts (lengths bounds places ms work)) where
    pub found_removable : RemoveReady os ts ns starts bounds places ms work
    found_removable = remove_ready os ts ns starts bounds places ms work (sym found.number_is)

    pub removes_fine : {y : Unit {0}} {bounds' places' ms' work' : List ℕ} → graph bounds' places' ≡ removed (graph os ts) ns
        → ms' ≡ marks_afresh (removed (graph os ts) ns) starts → ListLeft 0 (replicate (length ms) 0) work ms' work'
        → Removes os ts ns starts bounds places ms work (Ok y) bounds' places' ms' work'
    removes_fine g m left =
        let r = found_removable in
        let G = removed (graph os ts) ns in
        let n : length ms ≡ objects G = omega (arith, r.marks_long, removed_objects ns (graph os ts) r.formed) in
        record {
          number_is = found.number_is;
          store_is = λ q. g;
          marks_are = λ q. m;
          promise = λ q. rw m (afresh_promise G (removed_formed ns (graph os ts) r.formed) starts (rw n at r.starts_low));
          work_left = λ q. left;
          unchanged = λ i q. absurd (omega (arith, found.number_is, q));
        }

-- ---- from the checks to what remains

module _ {os ts ns starts bounds places ms work : List ℕ} (r : RemoveReady os ts ns starts bounds places ms work) where
  module _ {bounds' places' : List ℕ} (b : bounds' ≡ map (staying ns) os) (p : places' ≡ chosen (stays ns) 0 ts) where
    pub remains : graph bounds' places' ≡ removed (graph os ts) ns
    remains = removed_is ns (graph os ts) r.formed b p

    pub afresh_ready : Formed (graph bounds' places') × (all_below (length ms) starts ≡ true) × (length ms + 1 ≡ length bounds')
        × (length work ≡ length ms) × (length work < 4294967296)
    afresh_ready = (
      rw remains (removed_formed ns (graph os ts) r.formed),
      r.starts_low,
      omega (arith, r.marks_long, ap length b, length-map os (staying ns)),
      r.work_long,
      omega (arith, r.work_long, r.marks_long, r.few),
    )

    pub afresh_marks : {ms' : List ℕ} → ms' ≡ marks_afresh (graph bounds' places') starts → ms' ≡ marks_afresh (removed (graph os ts) ns) starts
    afresh_marks m = m ∙ ap (λ (G : Graph). marks_afresh G starts) remains
