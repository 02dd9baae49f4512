-- Objects that are looked at, one after the other. What carries the argument: an object leaves those without a mark exactly when it
-- enters the list, so the two together stay as they are, and steps in a row are one step.
use mathlib.Core.Path.{◌≡◌, refl, ap, ◌∙◌}
use mathlib.Core.Bool.{true}
use mathlib.Core.List.{List, [], ◌∷◌, ◌++◌}
use mathlib.Core.Logic.{inl, inr, by_cases, ⊎_elim}
use Prim.Native.Nat.{ℕ, zero, suc, ◌+◌, ◌≤◌, ◌<◌}
use native.Mathlib.Numerals.{add-one}
use native.Mathlib.Decide.{ℕ_discrete, dec_lt}
use native.Mathlib.Omega.{arith}
use lib.ListN.{length, get_or, set, take, length-set}
use lib.Seq.{take-suc, take-suc-set, take-length, get_or-set_same, get_or-set_other}
use Rattle.laws.specs.Sum.{sum, hit}
use Rattle.laws.proofs.Sum.{hit_same, hit_equal, hit_swap, either_positive, sum_append, sum_snoc, sum_set, at_set, inside}
use Rattle.graph.specs.Graph.{all_below}
use Rattle.graph.specs.Leaving.{unset?}
use Rattle.graph.proofs.Formed.{below_all}
use Rattle.machine.specs.Sound.{Marked}
use Rattle.changes.specs.Marking.{listed, unmarked, Roomy, ListLeft, Touched}

-- ---- marks

pub unset_zero : (x : ℕ) → x ≡ 0 → unset? x ≡ 1
unset_zero zero e = refl
unset_zero (suc x) e = absurd (omega arith)

pub unset_some : (x : ℕ) → 0 < x → unset? x ≡ 0
unset_some zero h = absurd (omega arith)
unset_some (suc x) h = refl

pub unset_none : (x : ℕ) → unset? x ≡ 0 → 0 < x
unset_none zero e = absurd (omega arith)
unset_none (suc x) e = omega arith

-- a marked object is one of those that there are
pub marked_below : (ms : List ℕ) (v : ℕ) → Marked ms v → v < length ms
marked_below ms v h = inside ms v 0 (λ (x : ℕ). x) refl h

-- marked or not
pub unmarked_at : (ms : List ℕ) (v : ℕ) → (Marked ms v → ⊥) → get_or ms v 0 ≡ 0
unmarked_at ms v h = omega (arith, h)

-- ---- the list

-- one more on the list
list_more : (v w : ℕ) (list : List ℕ) (top : ℕ) → top < length list → listed w (set list top v) (top + 1) ≡ listed w list top + hit w v
list_more v w list top h = rw (add-one top, take-suc-set list top v h) (sum_snoc (hit w) (take top list) v)

-- one less
pub list_less : (w : ℕ) (list : List ℕ) (top : ℕ) → top < length list → listed w list (suc top) ≡ listed w list top + hit w (get_or list top 0)
list_less w list top h = rw (take-suc list top 0 h) (sum_snoc (hit w) (take top list) (get_or list top 0))

-- ---- what is left in the list's words

pub left_none : (top : ℕ) (ms list : List ℕ) → ListLeft top ms list ms list
left_none top ms list = record { long = refl; marked = λ v h. h; fewer = omega arith; words = λ i. inl refl }

-- one step and then another, where what is on the list and what is not marked have not become more
pub left_then : {top : ℕ} {ms list ms' list' : List ℕ} {top' : ℕ} {ms'' list'' : List ℕ} → ListLeft top ms list ms' list'
    → top' + unmarked ms' ≤ top + unmarked ms → ListLeft top' ms' list' ms'' list'' → ListLeft top ms list ms'' list''
left_then {ms = ms} {list} {ms'} {list'} {ms'' = ms''} {list''} a h b =
    let fewer = a.fewer in
    let fewer' = b.fewer in
    record {
      long = b.long ∙ a.long;
      marked = λ v m. b.marked v (a.marked v m);
      fewer = omega arith;
      words = λ i.
          ⊎_elim
          (λ (e : get_or list'' i 0 ≡ get_or list' i 0).
          ⊎_elim (λ (f : get_or list' i 0 ≡ get_or list i 0). inl (e ∙ f))
          (λ p. inr (omega (arith, p.0), rw e p.1, rw e (b.marked (get_or list' i 0) p.2)))
          (a.words i))
          (λ p.
          inr
          (omega (arith, p.0), unmarked_at ms (get_or list'' i 0) (λ m. omega (arith, a.marked (get_or list'' i 0) m, p.1)), p.2))
          (b.words i);
    }

-- ---- one object

sole : (w v : ℕ) → 0 < sum (hit w) (v ∷ []) → w ≡ v
unfolding sum
sole w v h = hit_equal w v (omega arith)

one_there : (v : ℕ) → 0 < sum (hit v) (v ∷ [])
unfolding sum
one_there v = omega (arith, hit_same v)

-- there is room for one that is not marked
pub room_for : (ms list : List ℕ) (top v : ℕ) → Roomy ms list top → v < length ms → get_or ms v 0 ≡ 0 → top < length list
room_for ms list top v r below e = omega (arith, r.room, sum_set unset? 0 ms v 0 1 e below)

module _ (value : ℕ) (ms list : List ℕ) (top v : ℕ) where
  -- marked already
  pub touched_known : Marked ms v → Touched value (v ∷ []) ms list top ms list top
  touched_known m =
      record {
        marks_long = refl;
        list_long = refl;
        kept = λ w h. refl;
        fresh = λ w e h. absurd (omega (arith, e, h));
        looked = λ w h. rw (sole w v h) m;
        holds = λ w. refl;
        sized = refl;
        left = left_none top ms list;
      }

  -- not yet
  pub touched_new : get_or ms v 0 ≡ 0 → v < length ms → top < length list → 0 < value
      → Touched value (v ∷ []) ms list top (set ms v value) (set list top v) (top + 1)
  touched_new e below room some =
      record {
        marks_long = length-set ms v value;
        list_long = length-set list top v;
        kept = kept;
        fresh = λ w z h.
            by_cases (ℕ_discrete w v) (λ (q : w ≡ v). rw q (get_or-set_same ms v value 0 below, one_there v))
            (λ q. absurd (omega (arith, z, h, get_or-set_other ms v w value 0 q)));
        looked = λ w h. rw (sole w v h, get_or-set_same ms v value 0 below) some;
        holds = λ w.
            omega (
              arith,
              list_more v w list top room,
              rw (unset_some value some) at (at_set unset? 0 ms v 0 value w e below),
              hit_swap v w,
            );
        sized = fewer_by_one;
        left = record {
          long = length-set list top v;
          marked = λ w h. omega (arith, h, kept w h);
          fewer = omega (arith, fewer_by_one);
          words = λ i.
              by_cases (ℕ_discrete i top)
              (λ (q : i ≡ top).
              rw (q, get_or-set_same list top v 0 room) (inr (omega (arith, fewer_by_one), e, rw (get_or-set_same ms v value 0 below) some)))
              (λ q. inl (get_or-set_other list top i v 0 q));
        };
      }
    where
      kept : (w : ℕ) → Marked ms w → get_or (set ms v value) w 0 ≡ get_or ms w 0
      kept w h = get_or-set_other ms v w value 0 (λ (q : w ≡ v). omega (arith, h, ap (λ (i : ℕ). get_or ms i 0) q, e))

      fewer_by_one : top + 1 + unmarked (set ms v value) ≡ top + unmarked ms
      fewer_by_one = omega (arith, sum_set unset? 0 ms v 0 value e below, unset_some value some)

-- ---- several, one after the other

pub touched_none : (value : ℕ) (ms list : List ℕ) (top : ℕ) → Touched value [] ms list top ms list top
unfolding sum
touched_none value ms list top =
    record {
      marks_long = refl;
      list_long = refl;
      kept = λ w h. refl;
      fresh = λ w e h. absurd (omega (arith, e, h));
      looked = λ w h. absurd (omega (arith, h));
      holds = λ w. refl;
      sized = refl;
      left = left_none top ms list;
    }

module _ {value : ℕ} {a ms list : List ℕ} {top : ℕ} {ms' list' : List ℕ} {top' : ℕ} (t : Touched value a ms list top ms' list' top') where
  -- what is marked stays marked
  pub stays_marked : (v : ℕ) → Marked ms v → Marked ms' v
  stays_marked v h = omega (arith, h, t.kept v h)

  pub roomy_next : Roomy ms list top → Roomy ms' list' top'
  roomy_next r = record { room = omega (arith, r.room, t.sized, t.list_long); few = omega (arith, r.few, t.list_long) }

  pub touched_then : {b ms'' list'' : List ℕ} {top'' : ℕ} → Touched value b ms' list' top' ms'' list'' top''
      → Touched value (a ++ b) ms list top ms'' list'' top''
  touched_then {b} {ms''} u =
      record {
        marks_long = u.marks_long ∙ t.marks_long;
        list_long = u.list_long ∙ t.list_long;
        kept = λ w h. u.kept w (stays_marked w h) ∙ t.kept w h;
        fresh = λ w z h.
            by_cases (dec_lt 0 (get_or ms' w 0))
            (λ (p : 0 < get_or ms' w 0).
            let f = t.fresh w z p in
            (u.kept w p ∙ f.0, omega (arith, f.1, sum_append (hit w) a b)))
            (λ p.
            let f = u.fresh w (omega (arith, p)) h in
            (f.0, omega (arith, f.1, sum_append (hit w) a b)));
        looked = λ w h.
            ⊎_elim
            (λ (p : 0 < sum (hit w) a). let m = t.looked w p in omega (arith, m, u.kept w m))
            (λ (p : 0 < sum (hit w) b). u.looked w p)
            (either_positive (sum (hit w) a) (sum (hit w) b) (omega (arith, h, sum_append (hit w) a b)));
        holds = λ w. u.holds w ∙ t.holds w;
        sized = u.sized ∙ t.sized;
        left = left_then t.left (omega (arith, t.sized)) u.left;
      }

-- ---- the objects of a list

-- the first i of them were looked at
pub record Touching (value : ℕ) (seen ms list : List ℕ) (top : ℕ) (ms' list' : List ℕ) (top' i : ℕ) : Type 0 where
  pub within : i ≤ length seen
  pub touched : Touched value (take i seen) ms list top ms' list' top'

pub touching_none : (value : ℕ) (seen ms list : List ℕ) (top : ℕ) → Touching value seen ms list top ms list top 0
touching_none value seen ms list top = record { within = omega arith; touched = touched_none value ms list top }

module _ {value : ℕ} {seen ms list : List ℕ} {top : ℕ} {ms' list' : List ℕ} {top' i : ℕ} (a : Touching value seen ms list top ms' list' top' i) where
  pub touching_ready : Roomy ms list top → all_below (length ms) seen ≡ true → 0 < value → i < length seen
      → Roomy ms' list' top' × (get_or seen i 0 < length ms') × (0 < value)
  touching_ready r low some h =
      (roomy_next a.touched r, omega (arith, below_all (length ms) seen low i h, a.touched.marks_long), some)

  pub touching_next : i < length seen → {ms'' list'' : List ℕ} {top'' : ℕ} → Touched value (get_or seen i 0 ∷ []) ms' list' top' ms'' list'' top''
      → Touching value seen ms list top ms'' list'' top'' (i + 1)
  touching_next h t =
      record { within = omega arith; touched = rw (add-one i, take-suc seen i 0 h) (touched_then a.touched t) }

  pub touching_end : length seen ≤ i → Touched value seen ms list top ms' list' top'
  touching_end h =
      let q : i ≡ length seen = omega (arith, a.within) in
      rw (q, take-length) at a.touched
