-- From the bytes of the blobs to the list of the dead: what the scans find is what is mentioned, the store made of it has just these references,
-- and what its finished marking leaves unmarked is swept.
use mathlib.Core.Path.{◌≡◌, refl, sym, ap, subst, ◌∙◌}
use mathlib.Core.Bool.{Bool, true, false}
use mathlib.Core.List.{List, [], ◌++◌}
use mathlib.Core.Logic.{⊎_elim}
use Prim.Native.Nat.{ℕ, zero, suc, ◌+◌, ◌<◌}
use native.Mathlib.Omega.{arith}
use lib.Dec.{eqb}
use lib.ListN.{length, get_or, replicate, length-append, length-replicate}
use lib.Seq.{take-nil, drop-nil}
use Rattle.laws.specs.Every.{Every}
use Rattle.laws.specs.Sum.{sum}
use Rattle.laws.proofs.Sum.{either_positive}
use Rattle.laws.proofs.Test.{tested}
use Rattle.refusal.proofs.None.{first_none}
use Rattle.graph.specs.Graph.{Graph, graph, objects, references_of}
use Rattle.graph.specs.Formed.{Formed}
use Rattle.graph.specs.Chain.{Reach, here, on}
use Rattle.machine.specs.Call.{Call, graph_of, setting_of, fault, answer_for}
use Rattle.machine.specs.Machine.{entries}
use Rattle.machine.specs.Demand2.{LiveMarks}
use Rattle.theorems.proofs.Accept.{checked}
use Rattle.theorems.proofs.Demand2.{finished_live}
use Rattle.changes.specs.Pairs.{Pair, paired, leading}
use Rattle.changes.specs.Stores.{added}
use Rattle.changes.proofs.Touching.{marked_below}
use Rattle.changes.proofs.Pairing.{Inside, paired_inside}
use Rattle.changes.proofs.Adding.{refers, closed_by, by_closed, added_objects, added_formed, added_refers}
use Rattle.updates.proofs.Checks.{AddReady, found_ready}
use Rattle.names.specs.Names.{Names}
use Rattle.names.specs.Occurs.{Mentioned}
use Rattle.names.specs.Call.{Texts, from, to, blank, fault as scanning, scan_fault}
use Rattle.names.proofs.Checks.{Sound, sound}
use Rattle.kullneyra.specs.Calls.{mark_word_count, flag, MarksIn, ScansIn}
use Rattle.kullneyra.specs.Blobs.{nameless, Held, start, mention, further, Scans, none, more, Collects, Dead}
use Rattle.kullneyra.proofs.Mentioning.{leading_append, pair_mention, mention_pair, lists_alike}

-- ---- the scans

-- what one that was accepted left
module _ {n : ℕ} {N : Names} {T : Texts} (ws : List ℕ) {ws' fs ts fs' ts' : List ℕ} (x : ScansIn n N T ws fs ts ws' fs' ts' 0) where
  scan_fine : scan_fault n N T (blank ws) (length fs) (length ts) ≡ 0
  scan_fine = sym x.answers

  scan_sound : Sound N T
  unfolding scan_fault
  scan_sound = (sound n N T (blank ws) (first_none (scanning n N T (blank ws)) _ scan_fine).0).0

  scan_from : fs' ≡ from N T
  scan_from = rw scan_fine at x.fills_from

  scan_to : ts' ≡ to N T
  scan_to = rw scan_fine at x.fills_to

scans_alike : {n : ℕ} {T : Texts} {Ns : List Names} {fs ts : List ℕ} → Scans n T Ns fs ts → length ts ≡ length fs
scans_alike none = refl
scans_alike (more ws {fs' = fs'} {ts' = ts'} {from = fr} {to = t} x s) =
    let a = ap length (scan_from ws x) in
    let b = ap length (scan_to ws x) in
    omega (arith, lists_alike (scan_sound ws x) 0 0, length-append fs' fr, length-append ts' t, scans_alike s)

module _ {n : ℕ} {T : Texts} (u v : ℕ) where
  first_alike : {N : Names} (ws : List ℕ) {ws' fs ts fs' ts' : List ℕ} → ScansIn n N T ws fs ts ws' fs' ts' 0 → length ts' ≡ length fs'
  first_alike ws x =
      let a = ap length (scan_from ws x) in
      let b = ap length (scan_to ws x) in
      omega (arith, lists_alike (scan_sound ws x) 0 0)

  scans_mention : {Ns : List Names} {fs ts : List ℕ} → Scans n T Ns fs ts → 0 < leading u v (paired fs ts)
      → (k : ℕ) × (k < length Ns) × Mentioned (get_or Ns k nameless) T u v
  unfolding paired sum
  scans_mention none h = absurd (omega arith)
  scans_mention (more ws {fs' = fs'} {ts' = ts'} {from = fr} {to = t} x s) h =
      ⊎_elim
      (λ (p : 0 < leading u v (paired fs' ts')). (0, omega arith, pair_mention (scan_sound ws x) u v (rw (scan_from ws x, scan_to ws x) at p)))
      (λ (p : 0 < leading u v (paired fr t)). let r = scans_mention s p in (suc r.0, omega (arith, r.1), r.2))
      (either_positive (leading u v (paired fs' ts')) (leading u v (paired fr t)) (omega (arith, h, leading_append u v fs' ts' fr t (first_alike ws x))))

  mention_scans : {Ns : List Names} {fs ts : List ℕ} → Scans n T Ns fs ts → (k : ℕ) → k < length Ns → Mentioned (get_or Ns k nameless) T u v
      → 0 < leading u v (paired fs ts)
  mention_scans none k h m = absurd (omega arith)
  mention_scans (more ws {fs' = fs'} {ts' = ts'} {from = fr} {to = t} x s) zero h m =
      let p = mention_pair (scan_sound ws x) u v m in
      let q : 0 < leading u v (paired fs' ts') = rw (scan_from ws x, scan_to ws x) p in
      omega (arith, leading_append u v fs' ts' fr t (first_alike ws x))
  mention_scans (more ws {fs' = fs'} {ts' = ts'} {from = fr} {to = t} x s) (suc k) h m =
      omega (arith, mention_scans s k (omega arith) m, leading_append u v fs' ts' fr t (first_alike ws x))

-- ---- the marking

numbered_none : (k : ℕ) (c : Call) → (answer_for k c).number ≡ 0 → k ≡ 0
numbered_none zero c e = refl
numbered_none (suc k) c e = absurd (omega arith)

flag_set : (b : Bool) → flag b ≡ 1 → b ≡ true
flag_set true e = refl
flag_set false e = absurd (omega arith)

module _ {c : Call} {marks work tallies result marks' work' tallies' result' : List ℕ}
    (m : MarksIn c marks work tallies result marks' work' tallies' result' 0) where
  told : eqb (length result) mark_word_count ≡ true
  told =
      ⊎_elim
      (λ (p : eqb (length result) mark_word_count ≡ true). p)
      (λ (p : eqb (length result) mark_word_count ≡ false). absurd (let z = rw p at m.answers in omega arith))
      (tested (eqb (length result) mark_word_count))

  mark_fine : fault c (length marks) (length work) (length tallies) ≡ 0
  mark_fine = numbered_none _ c (sym (rw told at m.answers))

  mark_live : get_or result' 0 0 ≡ 1 → LiveMarks (graph_of c) c.starts marks'
  mark_live f =
      finished_live
      (record {
        workers = c.workers;
        setting = setting_of c;
        turns = entries c.schedule;
        accepted = (checked c _ mark_fine).accepted;
        finished = flag_set _ (sym (ap (λ (l : List ℕ). get_or l 0 0) (rw (told, mark_fine) at m.fills_result)) ∙ f);
        marks_are = rw (told, mark_fine) at m.fills_marks;
      })

-- ---- all of them

module _ {n : ℕ} {Ns : List Names} {T : Texts} {pf pt starts list said : List ℕ} (x : Collects n Ns T pf pt starts list said) where
  abbrev empty : Graph
  empty = graph (replicate (suc n) 0) []

  abbrev ps : List Pair
  ps = paired (x.from ++ pf) (x.to ++ pt)

  abbrev G : Graph
  G = graph_of x.c

  ready : AddReady (replicate (suc n) 0) [] (x.from ++ pf) (x.to ++ pt) x.bounds x.places x.ms x.work
  ready = found_ready x.bounds x.places x.ms x.work {x = tt} (record { number_is = x.adds.answers })

  n_is : objects empty ≡ n
  n_is = omega (arith, length-replicate {A = ℕ} (suc n) 0)

  inside : Every (Inside (objects empty)) ps
  inside =
      let a = ready.addable in
      paired_inside (objects empty) (x.from ++ pf) (x.to ++ pt) a.alike a.from_below a.to_below

  G_is : G ≡ added empty ps
  G_is = x.adds.store_is refl

  objects_are : objects G ≡ n
  objects_are = ap objects G_is ∙ added_objects empty ready.addable.formed ps inside ∙ n_is

  formed : Formed G
  formed = subst (λ (g : Graph). Formed g) (sym G_is) (added_formed empty ready.addable.formed ps inside)

  nothing : (u t : ℕ) → refers empty u t ≡ 0
  unfolding references_of sum
  nothing u t = rw (drop-nil {A = ℕ}, take-nil {A = ℕ})

  -- a reference is a mention or a further pair
  refers_are : (u t : ℕ) → u < n → refers G u t ≡ leading u t (paired x.from x.to) + leading u t (paired pf pt)
  refers_are u t h =
      ap (λ (g : Graph). refers g u t) G_is
      ∙ added_refers empty ready.addable.formed ps inside u t (omega (arith, n_is))
      ∙ omega (arith, nothing u t, leading_append u t x.from x.to pf pt (scans_alike x.scans))

  live : LiveMarks G starts x.marks
  live = subst (λ (l : List ℕ). LiveMarks G l x.marks) x.started (mark_live x.marked.words x.finished)

  -- what is reached is an object
  reached_below : (v : ℕ) → Reach G starts v → v < n
  reached_below v r = omega (arith, marked_below x.marks v ((live.exactly v).1 r), live.long, objects_are)

  reach_held : (v : ℕ) → Reach G starts v → Held Ns T (paired pf pt) starts v
  reach_held v (here h) = start h
  reach_held v (on e r l) = closed_by formed (Held Ns T (paired pf pt) starts) along _ e (reach_held _ r) l
    where
      along : (u t : ℕ) → u < objects G → Held Ns T (paired pf pt) starts u → 0 < refers G u t → Held Ns T (paired pf pt) starts t
      along u t h p q =
          ⊎_elim
          (λ (a : 0 < leading u t (paired x.from x.to)). let m = scans_mention u t x.scans a in mention m.0 m.1 p m.2)
          (λ (a : 0 < leading u t (paired pf pt)). further p a)
          (either_positive (leading u t (paired x.from x.to)) (leading u t (paired pf pt))
          (omega (arith, q, refers_are u t (omega (arith, objects_are)))))

  -- and a mention or a further pair is one
  step : (u v : ℕ) → Reach G starts u → 0 < leading u v (paired x.from x.to) + leading u v (paired pf pt) → Reach G starts v
  step u v r q =
      let h = reached_below u r in
      by_closed formed (Reach G starts) (λ w e p l. on e p l) u v (omega (arith, objects_are)) r (omega (arith, refers_are u v h))

  held_reach : (v : ℕ) → Held Ns T (paired pf pt) starts v → Reach G starts v
  held_reach v (start h) = here h
  held_reach v (mention {u} k h p m) = step u v (held_reach u p) (omega (arith, mention_scans u v x.scans k h m))
  held_reach v (further {u} p q) = step u v (held_reach u p) (omega arith)

  pub dead : Dead n Ns T pf pt starts list said
  dead v =
      let s = x.swept in
      let d = s.collection.exactly (sym s.answers) G starts live v in
      let e : get_or said 0 0 ≡ s.row.count = ap (λ (l : List ℕ). get_or l 0 0) (s.told refl) in (
        λ h. let p = d.0 (rw e at h) in (omega (arith, p.0, objects_are), λ k. p.1 (held_reach v k)),
        λ p. rw e (d.1 (omega (arith, p.0, objects_are), λ r. p.1 (reach_held v r))),
      )
