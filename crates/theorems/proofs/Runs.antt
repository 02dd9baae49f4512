-- Runs taken apart: what is kept of them and what is left, for every weight on references; where they lie.
use mathlib.Core.Path.{◌≡◌, refl}
use mathlib.Core.Bool.{Bool, true, false}
use mathlib.Core.List.{List, [], ◌∷◌, ◌++◌, append-nil}
use mathlib.Core.Logic.{⊎_elim}
use Prim.Native.Nat.{ℕ, zero, suc, ◌+◌, ◌-◌, ◌/◌, ◌≤◌, ◌<◌, min}
use native.Mathlib.Omega.{arith}
use lib.ListN.{length}
use lib.Dec.{ltb}
use borrow.Author.Tests.{ltb-true, ltb-false}
use Rattle.laws.specs.Choice.{pick}
use Rattle.laws.specs.Every.{Every}
use Rattle.laws.specs.Sum.{sum, hit}
use Rattle.laws.specs.Span.{span}
use Rattle.laws.proofs.Every.{every_append}
use Rattle.laws.proofs.Sum.{sum_append, either_positive}
use Rattle.laws.proofs.Span.{span_add, span_one, span_hit_in}
use Rattle.graph.specs.Graph.{Graph, Leaves, objects, first, degree}
use Rattle.graph.specs.Formed.{Formed}
use Rattle.machine.specs.Run.{Run, run, size, carried, run_from, leaving, keep, rest, half}
use Rattle.machine.specs.Sound.{Marked, start_of, Within, Whole, WholeButLast, WholeInside, run_sum, runs_sum}

-- Runs rs are cut behind their first k references: ks are kept, ls are left.
pub data Cut : ℕ → List Run → List Run → List Run → Type 0 where
  none : {k : ℕ} → Cut k [] [] []
  past : {k i e j : ℕ} {rs ks ls : List Run} → k ≡ suc j + i → Cut i rs ks ls → Cut k (run e j ∷ rs) (run e j ∷ ks) ls
  here : {k e j : ℕ} {rs : List Run} → k ≤ j → Cut k (run e j ∷ rs) (run_from e k) (run_from (e + k) (suc j - k) ++ rs)

-- `keep` and `rest` cut
pub cuts : (k : ℕ) (rs : List Run) → Cut k rs (keep k rs) (rest k rs)
unfolding keep rest
cuts k [] = none
cuts k (run e j ∷ rs) = cut (ltb j k) refl (cuts (k - suc j) rs)
  where
    cut : (t : Bool) → ltb j k ≡ t → Cut (k - suc j) rs (keep (k - suc j) rs) (rest (k - suc j) rs)
        → Cut k (run e j ∷ rs) (pick t (run e j ∷ keep (k - suc j) rs) (run_from e k))
        (pick t (rest (k - suc j) rs) (run_from (e + k) (suc j - k) ++ rs))
    cut true h c = let p : k ≡ suc j + (k - suc j) = omega (arith, ltb-true j k h) in past p c
    cut false h c = here (ltb-false j k h)

-- ---- sums

module _ (f : ℕ → ℕ) where
  -- runs laid end to end
  pub runs_append : (xs ys : List Run) → runs_sum f (xs ++ ys) ≡ runs_sum f xs + runs_sum f ys
  unfolding runs_sum
  runs_append xs ys = sum_append (run_sum f) xs ys

  -- the k references from e on
  pub runs_from_lem : (e k : ℕ) → runs_sum f (run_from e k) ≡ span f e k
  unfolding runs_sum sum span
  runs_from_lem e zero = refl
  runs_from_lem e (suc k) = omega arith

  -- what is kept and what is left make the whole
  pub runs_cut : {k : ℕ} {rs ks ls : List Run} → Cut k rs ks ls → runs_sum f ks + runs_sum f ls ≡ runs_sum f rs
  unfolding runs_sum sum
  runs_cut none = refl
  runs_cut (past h c) = omega (arith, runs_cut c)
  runs_cut (here {k} {e} {j} {rs} h) =
      let p : k + (suc j - k) ≡ suc j = omega arith in
      omega (arith, runs_from_lem e k, runs_from_lem (e + k) (suc j - k), runs_append (run_from (e + k) (suc j - k)) rs, rw p at (span_add f e k (suc j - k)))

-- ---- how many references

-- what is carried is the sum of 1 over the references
pub carried_is : (rs : List Run) → runs_sum (λ (e : ℕ). 1) rs ≡ carried rs
unfolding runs_sum carried sum
carried_is [] = refl
carried_is (run f k ∷ rs) = omega (arith, span_one f (suc k), carried_is rs)

-- of runs laid end to end, and of the k references from e on
pub carried_append : (xs ys : List Run) → carried (xs ++ ys) ≡ carried xs + carried ys
unfolding carried
carried_append xs ys = sum_append size xs ys

pub carried_from : (e k : ℕ) → carried (run_from e k) ≡ k
unfolding carried sum
carried_from e zero = refl
carried_from e (suc k) = omega arith

carried_cut : {k : ℕ} {rs ks ls : List Run} → Cut k rs ks ls → carried ks ≡ min k (carried rs)
unfolding carried sum
carried_cut none = omega arith
carried_cut (past h c) = omega (arith, carried_cut c)
carried_cut (here {k} {e} h) = omega (arith, carried_from e k)

-- the first k references are kept, or all
pub carried_keep : (k : ℕ) (rs : List Run) → carried (keep k rs) ≡ min k (carried rs)
carried_keep k rs = carried_cut (cuts k rs)

-- and the others left
pub carried_split : (k : ℕ) (rs : List Run) → carried (keep k rs) + carried (rest k rs) ≡ carried rs
carried_split k rs = omega (arith, runs_cut (λ (e : ℕ). 1) (cuts k rs), carried_is (keep k rs), carried_is (rest k rs), carried_is rs)

-- both halves of what is shared
pub halves : (rs : List Run) → (carried (keep (half (carried rs)) rs) ≡ (carried rs + 1) / 2) × (carried (rest (half (carried rs)) rs) ≡ carried rs / 2)
halves rs = omega (arith, carried_keep (half (carried rs)) rs, carried_split (half (carried rs)) rs)

-- ---- how many runs

-- one run, one reference at least
pub length_carried : (rs : List Run) → length rs ≤ carried rs
unfolding carried sum
length_carried [] = omega arith
length_carried (run f k ∷ rs) = omega (arith, length_carried rs)

-- references, so runs
pub carried_length : (rs : List Run) → 0 < carried rs → 0 < length rs
unfolding carried sum
carried_length [] h = absurd (omega arith)
carried_length (r ∷ rs) h = omega arith

-- ---- where the runs lie

module _ (G : Graph) (ms : List ℕ) where
  -- a part of a run lies where the run lies
  pub within_part : (r : Run) (e k : ℕ) → start_of r ≤ e → e + k ≤ start_of r + size r → Within G ms r → Every (Within G ms) (run_from e k)
  within_part r e zero h q t = tt
  within_part r e (suc k) h q t =
      let b : first G t.object ≤ e = omega (arith, t.begins) in
      (record { object = t.object; is_object = t.is_object; is_marked = t.is_marked; begins = b; ends = omega (arith, t.ends) }, tt)

  -- what is kept and what is left lies there too
  pub within_cut : {k : ℕ} {rs ks ls : List Run} → Cut k rs ks ls → Every (Within G ms) rs → Every (Within G ms) ks × Every (Within G ms) ls
  within_cut none t = (tt, tt)
  within_cut (past h c) t = ((t.0, (within_cut c t.1).0), (within_cut c t.1).1)
  within_cut (here {k} {e} {j} {rs} h) t = (
    within_part (run e j) e k (omega arith) (omega arith) t.0,
    every_append (Within G ms) (run_from (e + k) (suc j - k)) rs (within_part (run e j) (e + k) (suc j - k) (omega arith) (omega arith) t.0) t.1,
  )

  -- a reference of such runs leaves a marked object
  pub within_source : (e : ℕ) (rs : List Run) → Every (Within G ms) rs → 0 < runs_sum (hit e) rs → (v : ℕ) × Marked ms v × Leaves G e v
  unfolding runs_sum sum
  within_source e [] t h = absurd (omega arith)
  within_source e (run f k ∷ rs) t h =
      let w = t.0 in
      ⊎_elim
      (λ (q : 0 < span (hit e) f (suc k)).
      let i = span_hit_in e f (suc k) q in
      let l : Leaves G e w.object = record { object = w.is_object; from = omega (arith, w.begins); below = omega (arith, w.ends) } in
      (w.object, w.is_marked, l))
      (λ (q : 0 < runs_sum (hit e) rs). within_source e rs t.1 q)
      (either_positive (span (hit e) f (suc k)) (runs_sum (hit e) rs) h)

-- a run lies in a marked object also when more are marked
pub within_more : {G : Graph} {ms ms' : List ℕ} → ((v : ℕ) → Marked ms v → Marked ms' v) → (r : Run) → Within G ms r → Within G ms' r
within_more h r t =
    record { object = t.object; is_object = t.is_object; is_marked = h t.object t.is_marked; begins = t.begins; ends = t.ends }

module _ (G : Graph) where
  -- an object's own run lies where the object is marked, and is whole
  pub leaving_runs : (ms : List ℕ) → Formed G → (v : ℕ) → v < objects G → Marked ms v
      → Every (Within G ms) (leaving G v) × Every (Whole G) (leaving G v)
  leaving_runs ms F v h m = all (degree G v) refl
    where
      all : (k : ℕ) → degree G v ≡ k → Every (Within G ms) (run_from (first G v) k) × Every (Whole G) (run_from (first G v) k)
      all zero e = (tt, tt)
      all (suc k) e = (
        (record { object = v; is_object = h; is_marked = m; begins = omega arith; ends = omega (arith, F.rises v h) }, tt),
        (record { object = v; is_object = h; begins = refl; ends = omega (arith, F.rises v h) }, tt),
      )

  -- ---- whole runs

  pub whole_tail : (r : Run) (rs : List Run) → WholeButLast G (r ∷ rs) → WholeButLast G rs
  whole_tail r [] t = tt
  whole_tail r (q ∷ rs) t = t.1

  whole_cons : (r : Run) (rs : List Run) → Whole G r → WholeButLast G rs → WholeButLast G (r ∷ rs)
  whole_cons r [] w t = tt
  whole_cons r (q ∷ rs) w t = (w, t)

  inside_whole : (rs : List Run) → WholeButLast G rs → WholeInside G rs
  inside_whole [] t = tt
  inside_whole (r ∷ rs) t = whole_tail r rs t

  -- whole runs before others
  pub whole_append : (xs rs : List Run) → Every (Whole G) xs → WholeButLast G rs → WholeButLast G (xs ++ rs)
  whole_append [] rs w t = t
  whole_append (r ∷ xs) rs w t = whole_cons r (xs ++ rs) w.0 (whole_append xs rs w.1 t)

  -- only whole runs
  pub inside_all : (rs : List Run) → Every (Whole G) rs → WholeInside G rs
  inside_all rs w = inside_whole rs (rw append-nil at (whole_append rs [] w tt))

  -- what is left of a run before others
  pub inside_from : (e k : ℕ) (rs : List Run) → WholeButLast G rs → WholeInside G (run_from e k ++ rs)
  inside_from e zero rs t = inside_whole rs t
  inside_from e (suc k) rs t = t

  whole_keep : {k : ℕ} {rs ks ls : List Run} → Cut k rs ks ls → WholeButLast G rs → WholeButLast G ks
  whole_keep none t = tt
  whole_keep (past h none) t = tt
  whole_keep (past {e = e} {j = j} {ks = ks} h (past i c)) t = whole_cons (run e j) ks t.0 (whole_keep (past i c) t.1)
  whole_keep (past {e = e} {j = j} {rs = rs} {ks = ks} h (here i)) t = whole_cons (run e j) ks t.0 (whole_keep {rs = rs} (here i) t.1)
  whole_keep (here {k = zero} h) t = tt
  whole_keep (here {k = suc k} h) t = tt

  -- only the first and the last of what is kept and of what is left can be cut
  pub inside_keep : {k : ℕ} {rs ks ls : List Run} → Cut k rs ks ls → WholeInside G rs → WholeInside G ks
  inside_keep none t = tt
  inside_keep (past h c) t = whole_keep c t
  inside_keep (here {k = zero} h) t = tt
  inside_keep (here {k = suc k} h) t = tt

  pub inside_rest : {k : ℕ} {rs ks ls : List Run} → Cut k rs ks ls → WholeInside G rs → WholeInside G ls
  inside_rest none t = tt
  inside_rest (past {rs = rs} h c) t = inside_rest c (inside_whole rs t)
  inside_rest (here {k} {e} {j} {rs} h) t = inside_from (e + k) (suc j - k) rs t
