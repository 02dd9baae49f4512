-- Demand 3 holds of every accepted call.
use mathlib.Core.Path.{◌≡◌, refl, ◌∙◌, subst}
use mathlib.Core.Bool.{true}
use mathlib.Core.List.{List}
use mathlib.Core.Logic.{◌↔◌, ⊎_elim}
use Prim.Native.Nat.{ℕ, ◌+◌, ◌*◌, ◌≤◌, ◌<◌}
use native.Mathlib.Omega.{arith}
use lib.ListN.{length}
use Rattle.laws.specs.Sum.{sum, hit}
use Rattle.laws.proofs.Sum.{sum_one, sum_below, sum_below_each, sum_combine}
use Rattle.graph.specs.Graph.{Graph, Leaves, references, degree}
use Rattle.graph.specs.Chain.{Reach, reached, leaving_reached}
use Rattle.graph.proofs.OverMarked.{over_below, over_degree, over_total, over_once, over_leaves, over_source}
use Rattle.graph.proofs.Reached.{reached_length, reached_chain, chain_reached}
use Rattle.machine.specs.Machine.{Setting, State, Entry, Worker, idle, asking, denied, ended, given, busy, Cell, empty, from, worker, carried_by, carried_all, start, all_ended, result, stopped}
use Rattle.machine.specs.Accepted.{Accepted}
use Rattle.machine.specs.Sound.{Marked, Supplied, cell_turns, turns_of, up_to, Sound, Fresh}
use Rattle.machine.specs.Demand2.{outcome}
use Rattle.machine.specs.Demand3.{moved_bound, stretch_bound, fewest_stretches, handed_bound, AllHave, joined, Cut, Demand3}
use Rattle.theorems.proofs.Runs.{length_carried}
use Rattle.theorems.proofs.Ended.{stopped_limit, ended_count}
use Rattle.theorems.proofs.Step.{over, phase_turns_limit}
use Rattle.theorems.proofs.Kept.{carried_all_is}
use Rattle.theorems.proofs.Start.{sound_start, sound, fresh}
use Rattle.theorems.proofs.Demand2.{none_held, all_marked_lem}
use Rattle.theorems.proofs.Events.{moved_counts, replies_count}
use Rattle.theorems.proofs.Passes.{reserve_limit}
use Rattle.theorems.proofs.Progress.{Spent, stretches_spend}

-- no more references leave reachable objects than there are
pub reached_limit : {G : Graph} {starts : List ℕ} {W : ℕ} {g : Setting} → Accepted G starts W g → leaving_reached G starts ≤ references G
unfolding leaving_reached
reached_limit {G} {starts} A =
    let long = reached_length G starts in
    omega (arith, over_degree G A.formed (reached G starts) long, over_total G A.formed (reached G starts) long)

cell_turns_limit : (c : Cell) → cell_turns c ≤ 2
cell_turns_limit empty = omega arith
cell_turns_limit (from a) = omega arith

module _ {G : Graph} {starts : List ℕ} {W : ℕ} {g : Setting} {s : State} {l : List ℕ} (A : Accepted G starts W g)
    (S : Sound G starts W g s) (F : Fresh G starts g s l) where
  -- trail and carried are the references of marked objects
  trail_carried : length l + carried_all s ≡ over G (λ (e : ℕ). 1) s.marks
  trail_carried = omega (arith, F.once (λ (e : ℕ). 1), sum_one l, carried_all_is s.workers)

  -- followed counts the trail
  pub followed_trail : s.counts.followed ≡ length l
  followed_trail = omega (arith, trail_carried, S.total, over_total G A.formed s.marks S.sized.marks_length)

  -- what is followed and carried leaves reachable objects
  within_reached : length l + carried_all s ≤ leaving_reached G starts
  unfolding leaving_reached
  within_reached =
      omega (
        arith,
        trail_carried,
        over_degree G A.formed s.marks S.sized.marks_length,
        over_below (degree G) 0 s.marks (reached G starts)
            (λ (v : ℕ) (m : Marked s.marks v). chain_reached G A.formed starts A.starts_below (F.only_reached v m)),
      )

  -- a worker has no more turns left than 7 for each reference carried, and 1 when it has ended
  turns_limit : (w : Worker) → Supplied w → turns_of w ≤ 7 * carried_by w + stopped w
  turns_limit idle t = omega arith
  turns_limit asking t = omega arith
  turns_limit denied t = omega arith
  turns_limit ended t = omega arith
  turns_limit (given rs) t = omega arith
  turns_limit (busy c n p rs) t = omega (arith, phase_turns_limit p, cell_turns_limit c, t, length_carried rs)

  -- the turns that changed something, where so many have ended
  moved_stopped : s.counts.moved ≤ 7 * leaving_reached G starts + sum stopped s.workers
  moved_stopped =
      omega (
        arith,
        F.turn_count,
        within_reached,
        sum_below_each turns_of (λ (w : Worker). 7 * carried_by w + stopped w) ended s.workers
            (λ (i : ℕ). turns_limit (worker s i) (S.supplied i)),
        sum_combine 7 carried_by stopped s.workers,
      )

  moved_limit : s.counts.moved ≤ moved_bound (leaving_reached G starts) W
  moved_limit = omega (arith, moved_stopped, stopped_limit s.workers, S.sized.workers_length)

  handed_limit : s.counts.handed * g.cutoff ≤ handed_bound (leaving_reached G starts)
  handed_limit =
      omega (
        arith,
        F.handed_count,
        within_reached,
        sum_below (up_to g.cutoff) (λ (w : Worker). 2 * carried_by w + 0) s.workers (λ (w : Worker). omega arith),
        sum_combine 2 carried_by (λ (w : Worker). 0) s.workers,
        sum_below (λ (w : Worker). 0) carried_by s.workers (λ (w : Worker). omega arith),
      )

  no_twice : (e : ℕ) → sum (hit e) l ≤ 1
  no_twice e = omega (arith, F.once (hit e), over_once G A.formed s.marks S.sized.marks_length e)

  module _ (done : all_ended s.workers ≡ true) where
    trail_is : (f : ℕ → ℕ) → sum f l ≡ over G f s.marks
    trail_is f = omega (arith, F.once f, none_held S done f)

    trail_exactly : (e : ℕ) → (0 < sum (hit e) l) ↔ ((v : ℕ) × Reach G starts v × Leaves G e v)
    trail_exactly e = (
      λ (h : 0 < sum (hit e) l).
          let r = over_source G A.formed s.marks S.sized.marks_length e (omega (arith, trail_is (hit e))) in
          (r.0, F.only_reached r.0 r.1, r.2),
      λ (r : (v : ℕ) × Reach G starts v × Leaves G e v).
          omega (arith, trail_is (hit e), over_leaves G A.formed s.marks S.sized.marks_length e r.0 (all_marked_lem S done r.1) r.2),
    )

    trail_whole : length l ≡ leaving_reached G starts
    unfolding leaving_reached
    trail_whole =
        omega (
          arith,
          within_reached,
          sum_one l,
          trail_is (λ (e : ℕ). 1),
          over_degree G A.formed s.marks S.sized.marks_length,
          over_below (degree G) 0 (reached G starts) s.marks
              (λ (v : ℕ) (m : Marked (reached G starts) v). all_marked_lem S done (reached_chain G starts v m)),
        )

module _ {G : Graph} {starts : List ℕ} {W : ℕ} {g : Setting} (A : Accepted G starts W g) where
  none_moved : (start G starts W).counts.moved ≡ 0
  unfolding start
  none_moved = refl

  -- 7R + 4W - 2 stretches or more: each spends something, and there is no more to spend
  stretches_finish : (xss : List (List Entry)) → fewest_stretches (leaving_reached G starts) W ≤ length xss → AllHave W xss
      → all_ended (outcome G starts W g (joined xss)).workers ≡ true
  stretches_finish xss k h =
      let xs = joined xss in
      let s = start G starts W in
      ⊎_elim
      (λ (e : all_ended (outcome G starts W g xs).workers ≡ true). e)
      (λ (m : Spent W s (length xss) (outcome G starts W g xs)).
      ended_count
      (outcome G starts W g xs).workers
      (omega (
        arith,
        k,
        m,
        none_moved,
        moved_stopped A (sound A xs) (fresh A xs),
        reserve_limit W s (sound_start A).holder_below,
        (sound A xs).sized.workers_length,
        A.some_worker,
      )))
      (stretches_spend A (sound_start A) xss h)

  -- so a cut into so many finishes
  cut_finishes : (k : ℕ) (xs : List Entry) → fewest_stretches (leaving_reached G starts) W ≤ k → Cut W k xs
      → all_ended (outcome G starts W g xs).workers ≡ true
  cut_finishes k xs h c =
      subst
      (λ (l : List Entry). all_ended (outcome G starts W g l).workers ≡ true)
      c.whole
      (stretches_finish c.stretches (omega (arith, h, c.number)) c.each)

-- demand 3
pub demand3 : {G : Graph} {starts : List ℕ} {W : ℕ} {g : Setting} → Accepted G starts W g → (xs : List Entry)
    → Demand3 G starts W g xs (result (outcome G starts W g xs))
unfolding start
demand3 {G} {starts} {W} {g} A xs =
    let S = sound A xs in
    let F = fresh A xs in
    record {
      once = no_twice A S F;
      followed = followed_trail A S F;
      hand_overs = omega (arith, replies_count A (sound_start A) xs);
      refusals = omega (arith, replies_count A (sound_start A) xs);
      changes = moved_counts A (sound_start A) refl xs;
      exactly = λ done. trail_exactly A S F done;
      whole = λ done. followed_trail A S F ∙ trail_whole A S F done;
      handed = handed_limit A S F;
      moved = moved_limit A S F;
      finishes = cut_finishes A (stretch_bound (leaving_reached G starts) W) xs (omega arith);
      sooner = cut_finishes A (fewest_stretches (leaving_reached G starts) W) xs (omega arith);
    }
