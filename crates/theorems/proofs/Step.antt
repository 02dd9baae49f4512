-- What every move does, by one record: the workers that change, what that does to the weights that the invariants sum,
-- and the marks. Each rule is looked at here once; the invariants are kept by the record (`Kept`).
use mathlib.Core.Path.{◌≡◌, refl, ap}
use mathlib.Core.Bool.{Bool, true, false}
use mathlib.Core.List.{List, [], ◌∷◌, ◌++◌}
use mathlib.Core.Logic.{◌⊎◌, inl, inr, ⊎_map, ⊎_elim, ◌≢◌}
use Prim.Native.Nat.{ℕ, zero, suc, ◌+◌, ◌*◌, ◌/◌, ◌≤◌, ◌<◌, min}
use native.Mathlib.Omega.{arith}
use lib.ListN.{length, get_or, set, length-set}
use lib.Dec.{ltb, leb}
use borrow.Author.Tests.{ltb-true, leb-true}
use Rattle.laws.specs.Choice.{both, either}
use Rattle.laws.specs.Every.{Every}
use Rattle.laws.specs.Grouping.{itself}
use Rattle.laws.specs.Span.{span}
use Rattle.laws.specs.Sum.{sum, hit}
use Rattle.laws.proofs.Every.{every_map, every_append}
use Rattle.laws.proofs.Sum.{default, each_set, hit_equal, inside}
use Rattle.graph.specs.Graph.{Graph, Leaves, first, degree, target}
use Rattle.graph.specs.Chain.{over_marked}
use Rattle.graph.specs.Leaving.{leaving_sum}
use Rattle.graph.proofs.Formed.{both_true}
use Rattle.graph.proofs.OverMarked.{over_below}
use Rattle.machine.specs.Run.{Run, run, carried, run_from, keep, half}
use Rattle.machine.specs.Machine.{Setting, State, Worker, idle, asking, denied, ended, given, busy, Cell, empty, from, Phase, poll, look, claim, phase, worker, mark_of, claim_mark, stopped}
use Rattle.machine.specs.Machine.{runs_of, carried_by, carries?, carried_all, live, shares, giver, receiver, Claimed, not_claimed, claim_lost, claim_won, onward_runs, follows}
use Rattle.machine.specs.Accepted.{Accepted}
use Rattle.machine.specs.Sound.{Marked, Within, Whole, WholeInside, batch_of, holds, waits, since_of, runs_sum, held_sum, Sound, asks?}
use Rattle.machine.specs.Sound.{phase_turns, turns_of, up_to}
use Rattle.machine.specs.Events.{owed?, refused?, replies}
use Rattle.machine.specs.Move.{wakes, takes_up, ends, polls, looks, asked, hands, refuses, Taken, seen, lost, won, Waiting, Move, still, passed, alone, follow}
use Rattle.theorems.proofs.Facts.{there, run_counts, WorkerSound, without_runs, given_sound, busy_below, busy_sound, busy_carried, busy_carried_all, carrying_at, first_target}
use Rattle.theorems.proofs.Runs.{cuts, runs_append, runs_from_lem, runs_cut, carried_is, carried_length, halves, within_part}
use Rattle.theorems.proofs.Runs.{within_cut, within_more, leaving_runs, whole_append, inside_from, inside_keep, inside_rest}
use Rattle.theorems.proofs.Rested.{sum_written}
use Rattle.theorems.proofs.Ring.{over_none, over_first}
use Rattle.theorems.proofs.Marks.{claim_mark_set, claim_mark_limit, marked_keeps, marked_from, marked_there, over_more, live_more, set_some}
use Rattle.theorems.proofs.Change.{Change, put, Fits, before, after, before_at, after_at, one, two, fits_two, replied, replies_none, replies_one, replies_two}

-- ---- the record

-- the sum of f over the references that leave marked objects
abbrev pub over : Graph → (ℕ → ℕ) → List ℕ → ℕ
over G f ms = over_marked (leaving_sum G f) 0 ms

-- the marks afterwards, where the references t are taken off
pub record Marking (G : Graph) (W : ℕ) (s : State) (ms : List ℕ) (t : List ℕ) : Type 0 where
  pub long : length ms ≡ length s.marks
  pub limit : (v : ℕ) → get_or ms v 0 ≤ W
  pub keeps : (v : ℕ) → Marked s.marks v → Marked ms v
  -- a new mark stands at the target of a marked object's reference
  pub adds : (v : ℕ) → Marked ms v → Marked s.marks v ⊎ ((e : ℕ) × (v ≡ target G e) × (u : ℕ) × Marked s.marks u × Leaves G e u)
  pub targets : (e : ℕ) → 0 < sum (hit e) t → Marked ms (target G e)

-- what the changes cs from s to s' do to counts and weights, where k references are taken off
pub record Weighs (g : Setting) (s s' : State) (k : ℕ) (cs : List Change) : Type 0 where
  pub followed : s'.counts.followed ≡ s.counts.followed + k
  pub refused : s'.counts.refused + s.counts.moved ≤ s.counts.refused + s'.counts.moved
  pub handed_is : s'.counts.handed ≡ s.counts.handed + replied owed? cs
  pub refused_is : s'.counts.refused ≡ s.counts.refused + replied refused? cs
  pub lives : s'.counts.live + live s.marks ≡ s.counts.live + live s'.marks
  pub carrying : s'.counts.carrying + before carries? cs ≡ s.counts.carrying + after carries? cs
  -- who enters a cell waits from then on, and who leaves it has a reply
  pub cells : (i : ℕ) → after (holds i) cs + before_at waits i cs ≡ before (holds i) cs + after_at waits i cs
  pub since : after since_of cs + sum itself s'.rested ≤ before since_of cs + sum itself s.rested + k
  -- who changes had not ended; who ends is worker 0, or worker 0 has ended before, and the token stays there then
  pub running : (i : ℕ) → (before stopped cs ≡ 0) × (before_at stopped i cs ≡ 0)
  pub ends_first : 0 < after stopped cs → (stopped (worker s 0) + after_at stopped 0 cs ≡ 1) × (s.ring.holder ≡ 0)
  pub holder_stays : 0 < stopped (worker s 0) + after stopped cs → s'.ring.holder ≡ s.ring.holder
  -- nobody ends while references are carried, and none enter when none are
  pub stops : 0 < carried_all s → after stopped cs ≤ before stopped cs
  pub rests : carried_all s ≡ 0 → after carried_by cs ≤ before carried_by cs
  -- what the turn pays for itself, and for a hand-over
  pub turn_pays : s'.counts.moved + after asks? cs + before turns_of cs ≤ s.counts.moved + before asks? cs + after turns_of cs + 7 * k
  pub hand_pays : g.cutoff * s'.counts.handed + after since_of cs + before (up_to g.cutoff) cs
      ≤ g.cutoff * s.counts.handed + before since_of cs + after (up_to g.cutoff) cs + 3 * k

-- what a turn from s to s' does, where the references t are taken off
pub record Step (G : Graph) (W : ℕ) (g : Setting) (s : State) (t : List ℕ) (s' : State) : Type 0 where
  pub changes : List Change
  pub workers : s'.workers ≡ put s.workers changes
  pub fits : Fits s.workers changes
  pub now_sound : Every (λ (c : Change). WorkerSound G g s'.marks c.now) changes
  -- references move from the runs to the trail, and a newly marked object's enter the runs
  pub held : (f : ℕ → ℕ) → after (held_sum f) changes + sum f t + over G f s.marks ≡ before (held_sum f) changes + over G f s'.marks
  -- who has a reply is among those that change
  pub replies_are : (f : Worker → ℕ) → f asking ≡ 0 → replies f s.workers s'.workers ≡ replied f changes
  pub weighs : Weighs g s s' (length t) changes
  pub marking : Marking G W s s'.marks t

-- ---- phases and sharing

-- the batch of `phase k` is k
pub phase_batch : (k : ℕ) → batch_of (phase k) ≡ k
phase_batch zero = refl
phase_batch (suc k) = refl

phase_turns_lem : (k : ℕ) → 0 < k → phase_turns (phase k) ≡ 3
phase_turns_lem zero h = absurd (omega arith)
phase_turns_lem (suc k) h = refl

-- a phase leaves at most 4 turns
pub phase_turns_limit : (p : Phase) → phase_turns p ≤ 4
phase_turns_limit poll = omega arith
phase_turns_limit (look k) = omega arith
phase_turns_limit (claim k) = omega arith

-- what the two tests say
tested : (p q r : Bool) → either p (both q r) ≡ true → (p ≡ true) ⊎ ((q ≡ true) × (r ≡ true))
tested true q r e = inl refl
tested false q r e = inr (both_true q r e)

-- a worker that shares carries two, and more than K or its since pays for the hand-over
pub share_pays : (K n c : ℕ) → 1 ≤ K → shares K n c ≡ true → (2 ≤ c) × (K + min (2 * c) K ≤ n + min (2 * half c) K + min (2 * (c / 2)) K)
share_pays K n c k h =
    ⊎_elim
    (λ (p : ltb K c ≡ true). omega (arith, ltb-true K c p))
    (λ p. let least = leb-true _ c p.1 in omega (arith, leb-true K n p.0))
    (tested (ltb K c) (leb K n) _ h)

module _ {G : Graph} {g : Setting} {ms : List ℕ} where
  -- a batch begins
  begins : {w : Worker} {c : Cell} {n : ℕ} → 0 < length (runs_of w) → WorkerSound G g ms w
      → WorkerSound G g ms (busy c n (phase (min g.batch (carried_by w))) (runs_of w))
  begins {w} some t =
      let k = phase_batch (min g.batch (carried_by w)) in
      record { within = t.within; whole = t.whole; supplied = some; batch_limit = omega arith; batch_carried = omega arith }

  -- a worker that is owed a part of some runs
  owed : {ks : List Run} → 0 < carried ks → Every (Within G ms) ks → WholeInside G ks → WorkerSound G g ms (given ks)
  owed {ks} some w i = record { within = w; whole = i; supplied = carried_length ks some; batch_limit = omega arith; batch_carried = omega arith }

-- ---- following

-- what is found at reference e's target: the marks, and the runs that open
record Opens (G : Graph) (W : ℕ) (s : State) (e : ℕ) (o : Claimed) : Type 0 where
  over_is : (f : ℕ → ℕ) → over G f o.marks ≡ over G f s.marks + runs_sum f o.opened
  marking : Marking G W s o.marks (e ∷ [])
  lives : live o.marks ≡ live s.marks + o.won
  within : Every (Within G o.marks) o.opened
  whole : Every (Whole G) o.opened

-- the runs rs' after e is taken off `run e j` before rs, with these marks
record Left (G : Graph) (s : State) (e j : ℕ) (rs : List Run) (ms : List ℕ) (rs' : List Run) : Type 0 where
  held : (f : ℕ → ℕ) → f e + runs_sum f rs' + over G f s.marks ≡ runs_sum f (run e j ∷ rs) + over G f ms
  within : Every (Within G ms) rs'
  inside : WholeInside G rs'

taken_batch : {G : Graph} {s : State} {b e k : ℕ} {p : Phase} {o : Claimed} → Taken G s b e p k o → batch_of p ≡ suc k
taken_batch (seen m) = refl
taken_batch (lost m) = refl
taken_batch (won m) = refl

module _ {G : Graph} {starts : List ℕ} {W : ℕ} {g : Setting} {s : State} (A : Accepted G starts W g) (S : Sound G starts W g s) where
  -- the marks stay
  same_marks : (t : List ℕ) → ((e : ℕ) → 0 < sum (hit e) t → Marked s.marks (target G e)) → Marking G W s s.marks t
  same_marks t h = record { long = refl; limit = S.marks_limit; keeps = λ v m. m; adds = λ v m. inl m; targets = h }

  none_taken : Marking G W s s.marks []
  unfolding sum
  none_taken = same_marks [] (λ (e : ℕ) (h : 0 < 0). absurd (omega arith))

  one_target : (ms : List ℕ) (e : ℕ) → Marked ms (target G e) → (i : ℕ) → 0 < sum (hit i) (e ∷ []) → Marked ms (target G i)
  unfolding sum
  one_target ms e m i h = rw (hit_equal i e (omega arith)) m

  module _ (b : ℕ) {c : Cell} {n : ℕ} {p : Phase} {e j : ℕ} {rs : List Run} (q : worker s b ≡ busy c n p (run e j ∷ rs)) where
    below : target G e < length s.marks
    below = omega (arith, S.sized.marks_length, first_target A S b q)

    -- the target is marked already
    opens_lost : (x : ℕ) → mark_of s (target G e) ≡ suc x → Opens G W s e (claim_lost s)
    unfolding runs_sum sum
    opens_lost x m =
        let there = one_target s.marks e (omega (arith, m, default s.marks (target G e) 0 1 below)) in
        record {
          over_is = λ (f : ℕ → ℕ). omega arith;
          marking = same_marks (e ∷ []) there;
          lives = omega arith;
          within = tt;
          whole = tt;
        }

    -- with a claim that is lost or without one
    opens_seen : (x : ℕ) → mark_of s (target G e) ≡ suc x → Opens G W s e (not_claimed s)
    opens_seen x m =
        let t = opens_lost x m in
        record { over_is = t.over_is; marking = t.marking; lives = t.lives; within = t.within; whole = t.whole }

    opens_won : mark_of s (target G e) ≡ 0 → Opens G W s e (claim_won G s b (target G e))
    opens_won m =
        let v = target G e in
        let x = claim_mark b in
        let ms = (claim_won G s b v).marks in
        let there = marked_there s.marks v x (claim_mark_set b) below in
        let run = leaving_runs G ms A.formed v (first_target A S b q) there in
        let w = (busy_sound A S b q).within.0 in
        let l : Leaves G e w.object = record { object = w.is_object; from = w.begins; below = omega (arith, w.ends) } in
        record {
          over_is = λ (f : ℕ → ℕ). omega (arith, over_more (leaving_sum G f) s.marks v x (claim_mark_set b) m, runs_from_lem f (first G v) (degree G v));
          marking =
              record {
                long = length-set s.marks v x;
                limit = each_set (λ (y : ℕ). y ≤ W) s.marks v x 0 S.marks_limit (claim_mark_limit b W (busy_below A S b q));
                keeps = λ (u : ℕ). marked_keeps s.marks v x u (claim_mark_set b);
                adds = λ (u : ℕ) (h : Marked ms u).
                    ⊎_map
                    (λ (i : Marked s.marks u). i)
                    (λ (i : u ≡ v). (e, i, w.object, w.is_marked, l))
                    (marked_from s.marks v x u h);
                targets = one_target ms e there;
              };
          lives = omega (arith, live_more s.marks v x (claim_mark_set b) m);
          within = run.0;
          whole = run.1;
        }

    opens : {p' : Phase} {k : ℕ} {o : Claimed} → Taken G s b e p' k o → Opens G W s e o
    opens (seen {x = x} m) = opens_seen x m
    opens (lost {x = x} m) = opens_lost x m
    opens (won m) = opens_won m

    left : (o : Claimed) → Opens G W s e o → Left G s e j rs o.marks (onward_runs e j o.opened rs)
    unfolding runs_sum sum span
    left o t =
        let w = busy_sound A S b q in
        let more = every_map (Within G s.marks) (Within G o.marks) (run e j ∷ rs) (within_more t.marking.keeps) w.within in
        record {
          held = λ (f : ℕ → ℕ).
              omega (arith, runs_append f (run_from (suc e) j) (o.opened ++ rs), runs_append f o.opened rs, runs_from_lem f (suc e) j, t.over_is f);
          within =
              every_append (Within G o.marks) (run_from (suc e) j) (o.opened ++ rs)
              (within_part G o.marks (run e j) (suc e) j (omega arith) (omega arith) more.0)
              (every_append (Within G o.marks) o.opened rs t.within more.1);
          inside = inside_from G (suc e) j (o.opened ++ rs) (whole_append G o.opened rs t.whole w.whole);
        }

  -- ---- a step by which one worker changes, and one by which two do

  inside_there : (b : ℕ) {x : Worker} → worker s b ≡ x → 0 < there x → b < length s.workers
  inside_there b q h = inside s.workers b ended there refl (rw q h)

  step_one : {t : List ℕ} {s' : State} (b : ℕ) {x : Worker} (y : Worker) → worker s b ≡ x → 0 < there x
      → s'.workers ≡ set s.workers b y → WorkerSound G g s'.marks y
      → ((f : ℕ → ℕ) → held_sum f y + sum f t + over G f s.marks ≡ held_sum f x + over G f s'.marks)
      → Weighs g s s' (length t) (one b x y) → Marking G W s s'.marks t → Step G W g s t s'
  unfolding sum
  step_one b {x} y q h i u held w m =
      record {
        changes = one b x y;
        workers = i;
        fits = (q, inside_there b q h, tt);
        now_sound = (u, tt);
        held = λ (f : ℕ → ℕ). omega (arith, held f);
        replies_are = λ f z. rw i (replies_one f z s.workers b x y q (inside_there b q h));
        weighs = w;
        marking = m;
      }

  -- a busy worker b, and a worker a that carries nothing
  step_two : {t : List ℕ} {s' : State} (b a : ℕ) {c : Cell} {n : ℕ} {p : Phase} {rs : List Run} {x : Worker} (y z : Worker)
      → worker s b ≡ busy c n p rs → worker s a ≡ x → 0 < there x → runs_of x ≡ [] → s'.workers ≡ set (set s.workers b y) a z
      → WorkerSound G g s'.marks y → WorkerSound G g s'.marks z
      → ((f : ℕ → ℕ) → held_sum f y + held_sum f z + sum f t + over G f s.marks ≡ runs_sum f rs + over G f s'.marks)
      → Weighs g s s' (length t) (two b (busy c n p rs) y a x z) → Marking G W s s'.marks t → Step G W g s t s'
  unfolding carried runs_sum sum
  step_two b a {c} {n} {p} {rs} {x} y z q r h e i u v held w m =
      let apart : a ≢ b = λ (k : a ≡ b).
      omega (arith, busy_carried A S b q, ap carried_by q, ap carried_by r, ap carried e, ap (λ (j : ℕ). carried_by (worker s j)) k)
      in
      record {
        changes = two b (busy c n p rs) y a x z;
        workers = i;
        fits = fits_two s.workers b a (busy c n p rs) y x z q (inside_there b q (omega arith)) r (inside_there a r h) apart;
        now_sound = (u, (v, tt));
        held = λ (f : ℕ → ℕ). omega (arith, held f, ap (runs_sum f) e);
        replies_are = λ f o.
            rw i (replies_two f o s.workers b a (busy c n p rs) y x z q (inside_there b q (omega arith)) r (inside_there a r h) apart);
        weighs = w;
        marking = m;
      }

  -- ---- following, by the cell and by what is left

  module _ (b n k e j : ℕ) (p : Phase) (rs : List Run) (o : Claimed) (h : batch_of p ≡ suc k) (t : Opens G W s e o) where
    -- following lowers what is carried by 1 at most; the worker carried something before
    lowers : {c : Cell} (rs' : List Run) → worker s b ≡ busy c n p (run e j ∷ rs) → Left G s e j rs o.marks rs'
        → (carried (run e j ∷ rs) ≤ suc (carried rs')) × (0 < carried (run e j ∷ rs)) × (carried (run e j ∷ rs) ≤ carried_all s)
    lowers rs' q l =
        omega (
          arith,
          l.held (λ (i : ℕ). 1),
          carried_is rs',
          carried_is (run e j ∷ rs),
          over_below (leaving_sum G (λ (i : ℕ). 1)) 0 s.marks o.marks t.marking.keeps,
          busy_carried A S b q,
          busy_carried_all A S b q,
        )

    -- it was counted among those that carry
    counted : {c : Cell} → worker s b ≡ busy c n p (run e j ∷ rs) → (carries? (busy c n p (run e j ∷ rs)) ≡ 1) × (0 < s.counts.carrying)
    counted q = (set_some (carried (run e j ∷ rs)) (busy_carried A S b q), carrying_at A S b (rw q (busy_carried A S b q)))

    working : (c : Cell) (r : Run) (rs' : List Run) → worker s b ≡ busy c n p (run e j ∷ rs) → Left G s e j rs o.marks (r ∷ rs')
        → WorkerSound G g o.marks (busy c (suc n) (phase k) (r ∷ rs'))
    working c r rs' q l =
        let w = busy_sound A S b q in
        record {
          within = l.within;
          whole = l.inside;
          supplied = omega arith;
          batch_limit = omega (arith, phase_batch k, w.batch_limit, h);
          batch_carried = omega (arith, phase_batch k, w.batch_carried, h, lowers (r ∷ rs') q l);
        }

    step_left : (c : Cell) (rs' : List Run) → worker s b ≡ busy c n p (run e j ∷ rs) → Waiting s c → Left G s e j rs o.marks rs'
        → Step G W g s (e ∷ []) (follows s b c n k o rs')
    unfolding carried runs_sum sum
    step_left empty [] q w l =
        step_one b idle q (omega arith) refl (without_runs idle refl refl tt)
        (λ (f : ℕ → ℕ). omega (arith, l.held f))
        (omega (arith, t.lives, phase_turns_limit p, lowers [] q l, counted q, sum_written s.rested b (suc n)))
        t.marking
    step_left (from a) [] q w l =
        step_two b a idle denied q w (omega arith) refl refl (without_runs idle refl refl tt) (without_runs denied refl refl tt)
        (λ (f : ℕ → ℕ). omega (arith, l.held f))
        (omega (arith, t.lives, phase_turns_limit p, lowers [] q l, counted q, sum_written s.rested b (suc n)))
        t.marking
    step_left empty (r ∷ rs') q w l =
        step_one b (busy empty (suc n) (phase k) (r ∷ rs')) q (omega arith) refl (working empty r rs' q l)
        (λ (f : ℕ → ℕ). omega (arith, l.held f))
        (omega (arith, t.lives, phase_turns_limit p, lowers (r ∷ rs') q l, counted q, run_counts r rs'))
        t.marking
    step_left (from a) (r ∷ rs') q w l =
        step_one b (busy (from a) (suc n) (phase k) (r ∷ rs')) q (omega arith) refl (working (from a) r rs' q l)
        (λ (f : ℕ → ℕ). omega (arith, l.held f))
        (omega (arith, t.lives, phase_turns_limit p, lowers (r ∷ rs') q l, counted q, run_counts r rs'))
        t.marking

  -- every move is such a step
  pub step : {b : ℕ} {t : List ℕ} {s' : State} → Move G g s b t s' → Step G W g s t s'
  unfolding carried runs_sum sum
  step (still h) =
      record {
        changes = [];
        workers = refl;
        fits = tt;
        now_sound = tt;
        held = λ (f : ℕ → ℕ). omega arith;
        replies_are = λ f z. replies_none f z s.workers;
        weighs = omega arith;
        marking = none_taken;
      }
  step {b} (passed q e o h) =
      record {
        changes = [];
        workers = refl;
        fits = tt;
        now_sound = tt;
        held = λ (f : ℕ → ℕ). omega arith;
        replies_are = λ f z. replies_none f z s.workers;
        weighs = omega (arith, o);
        marking = none_taken;
      }
  step {b} (alone q wakes) =
      step_one b idle q (omega arith) refl (without_runs idle refl refl tt) (λ (f : ℕ → ℕ). omega arith) (omega arith) none_taken
  step {b} (alone q (takes_up {rs})) =
      let t = given_sound A S b q in
      let w : WorkerSound G g s.marks (busy empty 0 poll rs) =
      record { within = t.within; whole = t.whole; supplied = t.supplied; batch_limit = omega arith; batch_carried = omega arith } in
      step_one b (busy empty 0 poll rs) q (omega arith) refl w (λ (f : ℕ → ℕ). omega arith) (omega arith) none_taken
  step {b} (alone q (ends h)) =
      step_one b ended q (omega arith) refl (without_runs ended refl refl tt) (λ (f : ℕ → ℕ). omega arith) (omega (arith, over_none A S q h, over_first A S q h)) none_taken
  step {b} (alone q (polls {n} {rs})) =
      let k = min g.batch (carried rs) in
      let three = phase_turns_lem k (omega (arith, A.some_batch, busy_carried A S b q)) in
      let t = busy_sound A S b q in
      let w = begins t.supplied t in
      step_one b (busy empty n (phase k) rs) q (omega arith) refl w (λ (f : ℕ → ℕ). omega arith) (omega arith) none_taken
  step {b} (alone q (looks {c} {n} {k} {e} {j} {rs} m)) =
      let t = busy_sound A S b q in
      let w : WorkerSound G g s.marks (busy c n (claim k) (run e j ∷ rs)) =
      record { within = t.within; whole = t.whole; supplied = t.supplied; batch_limit = t.batch_limit; batch_carried = t.batch_carried } in
      step_one b (busy c n (claim k) (run e j ∷ rs)) q (omega arith) refl w (λ (f : ℕ → ℕ). omega arith) (omega arith) none_taken
  step {b} (asked v {n} {p} {rs} q r) =
      let t = busy_sound A S v q in
      let w : WorkerSound G g s.marks (busy (from b) n p rs) =
      record { within = t.within; whole = t.whole; supplied = t.supplied; batch_limit = t.batch_limit; batch_carried = t.batch_carried } in
      step_two v b (busy (from b) n p rs) asking q r (omega arith) refl refl w (without_runs asking refl refl tt)
      (λ (f : ℕ → ℕ). omega arith)
      (omega arith)
      none_taken
  step {b} (refuses a {n} {rs} q r h) =
      let k = min g.batch (carried rs) in
      let three = phase_turns_lem k (omega (arith, A.some_batch, busy_carried A S b q)) in
      let t = busy_sound A S b q in
      step_two b a (busy empty n (phase k) rs) denied q r (omega arith) refl refl (begins t.supplied t) (without_runs denied refl refl tt)
      (λ (f : ℕ → ℕ). omega arith)
      (omega arith)
      none_taken
  step {b} (hands a {n} {rs} q r h) =
      let K = g.cutoff in
      let c = cuts (half (carried rs)) rs in
      let k = min g.batch (carried (keep (half (carried rs)) rs)) in
      let t = busy_sound A S b q in
      let w = within_cut G s.marks c t.within in
      let pays = share_pays K n (carried rs) A.some_cutoff h in
      let both = halves rs in
      let kept : WorkerSound G g s.marks (given (keep (half (carried rs)) rs)) = owed (omega (arith, both, pays)) w.0 (inside_keep G c t.whole) in
      let three = phase_turns_lem k (omega (arith, A.some_batch, both, pays)) in
      let counted : (carries? (busy (from a) n poll rs) ≡ 1) × (carries? (giver g n rs) ≡ 1) × (carries? (receiver rs) ≡ 1) =
      (set_some (carried rs) (busy_carried A S b q), set_some (carried_by (giver g n rs)) (omega (arith, both, pays)), set_some (carried_by (receiver rs)) (omega (arith, both, pays)))
      in
      step_two b a (giver g n rs) (receiver rs) q r (omega arith) refl refl
      (begins kept.supplied kept)
      (owed (omega (arith, both, pays)) w.1 (inside_rest G c t.whole))
      (λ (f : ℕ → ℕ). omega (arith, runs_cut f c))
      (omega (arith, pays, both, three, counted, sum_written s.rested a 0, ap (λ (m : ℕ). min (2 * m) K) both.0, ap (λ (m : ℕ). min (2 * m) K) both.1))
      none_taken
  step {b} (follow {c} {n} {k} {e} {j} {p} {rs} {o} q r w) =
      let t = opens b q r in
      step_left b n k e j p rs o (taken_batch r) t c (onward_runs e j o.opened rs) q w (left b q o t)
