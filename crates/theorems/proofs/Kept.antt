-- A turn keeps a sound state sound, and a collection begun afresh fresh: each field from the one record `Step`.
use mathlib.Core.Path.{◌≡◌, refl, ap, ◌∙◌}
use mathlib.Core.List.{List, ◌++◌}
use mathlib.Core.Logic.{◌⊎◌, inl, inr, by_cases}
use Prim.Native.Nat.{ℕ, zero, suc, ◌+◌, ◌*◌, ◌≤◌, ◌<◌}
use native.Mathlib.Omega.{arith}
use native.Mathlib.Decide.{dec_lt}
use lib.ListN.{length, length-append}
use Rattle.laws.specs.Sum.{sum, hit}
use Rattle.laws.proofs.Every.{every_map}
use Rattle.laws.proofs.Sum.{sum_one, sum_agree, sum_append, sum_positive, hit_at_most_one}
use Rattle.graph.specs.Graph.{Graph, Leaves, references, target}
use Rattle.graph.specs.Chain.{Reach, on}
use Rattle.graph.specs.Leaving.{leaving_sum, leaving_unmarked}
use Rattle.graph.proofs.OverMarked.{over_below, over_total, over_once, over_leaves, over_source}
use Rattle.machine.specs.Tally.{Tally}
use Rattle.machine.specs.Machine.{Setting, State, Entry, Worker, idle, asking, denied, ended, given, busy, worker, runs_of, carried_by, carries?, carried_all, takes, turn, stopped}
use Rattle.machine.specs.Accepted.{Accepted}
use Rattle.machine.specs.Sound.{Marked, Within, holds, waits, since_of, held_sum, carried_times, tally_of, Sound, asks?, turns_of, up_to, Fresh}
use Rattle.theorems.proofs.Facts.{WorkerSound, each_worker}
use Rattle.theorems.proofs.Runs.{carried_is, within_more, within_source}
use Rattle.theorems.proofs.Change.{before, after, before_at, after_at, put_length, put_sum, put_at, put_each}
use Rattle.theorems.proofs.Move.{move}
use Rattle.theorems.proofs.Step.{over, Step, step}
use Rattle.theorems.proofs.Rested.{Rested, rested_move}
use Rattle.theorems.proofs.Ring.{Ringed, ringed_move}
use Rattle.theorems.proofs.Tallied.{raised_length, raised_sum, raised_at, Tallied, tallied_move}

-- what all carry is the sum of 1 over the references that they hold
pub carried_all_is : (ws : List Worker) → sum (held_sum (λ (e : ℕ). 1)) ws ≡ sum carried_by ws
carried_all_is ws = sum_agree (held_sum (λ (e : ℕ). 1)) carried_by ws (λ (w : Worker). carried_is (runs_of w))

-- none or once
times : (k x y z : ℕ) → k ≤ 1 → x + y ≤ z → k * x + k * y ≤ k * z
times zero x y z h l = omega arith
times (suc zero) x y z h l = omega arith
times (suc (suc k)) x y z h l = absurd (omega arith)

stopped_one : (w : Worker) → stopped w ≤ 1
stopped_one idle = omega arith
stopped_one asking = omega arith
stopped_one denied = omega arith
stopped_one ended = omega arith
stopped_one (given rs) = omega arith
stopped_one (busy c n p rs) = omega arith

-- a worker is sound also when more is marked
worker_more : (G : Graph) (g : Setting) (ms ms' : List ℕ) → ((v : ℕ) → Marked ms v → Marked ms' v) → (w : Worker)
    → WorkerSound G g ms w → WorkerSound G g ms' w
worker_more G g ms ms' h w t =
    record {
      within = every_map (Within G ms) (Within G ms') (runs_of w) (within_more h) t.within;
      whole = t.whole;
      supplied = t.supplied;
      batch_limit = t.batch_limit;
      batch_carried = t.batch_carried;
    }

module _ {G : Graph} {starts : List ℕ} {W : ℕ} {g : Setting} {s : State} (A : Accepted G starts W g) (S : Sound G starts W g s) where
  -- a carried reference leaves a marked object, so it is carried no more often than that is marked
  held_below_over : (e : ℕ) → carried_times s e ≤ over G (hit e) s.marks
  held_below_over e =
      by_cases (dec_lt 0 (carried_times s e))
      (λ (h : 0 < carried_times s e).
      let i = sum_positive (held_sum (hit e)) ended s.workers h in
      let v = within_source G s.marks e (runs_of (worker s i.0)) (S.runs_within i.0) i.2 in
      omega (arith, S.carried_once e, over_leaves G A.formed s.marks S.sized.marks_length e v.0 v.1 v.2))
      (λ (h : ¬ (0 < carried_times s e)). omega arith)

  module _ {t : List ℕ} {s' : State} (T : Step G W g s t s') where
    sums : (f : Worker → ℕ) → sum f s'.workers + before f T.changes ≡ sum f s.workers + after f T.changes
    sums f = rw T.workers (put_sum f s.workers T.changes T.fits)

    places : (f : Worker → ℕ) (i : ℕ) → f (worker s' i) + before_at f i T.changes ≡ f (worker s i) + after_at f i T.changes
    places f i = rw T.workers (put_at f i s.workers T.changes T.fits)

    -- references move from what is carried to the trail, and a newly marked object's to what is carried
    held : (f : ℕ → ℕ) → sum (held_sum f) s'.workers + sum f t + over G f s.marks ≡ sum (held_sum f) s.workers + over G f s'.marks
    held f = omega (arith, T.held f, sums (held_sum f))

    grows : (f : ℕ → ℕ) → over G f s.marks ≤ over G f s'.marks
    grows f = over_below (leaving_sum G f) 0 s.marks s'.marks T.marking.keeps

    long : length s'.marks ≡ length s.marks
    long = T.marking.long

    kept_once : (e : ℕ) → carried_times s' e ≤ 1
    kept_once e = omega (arith, held (hit e), held_below_over e, over_once G A.formed s'.marks (long ∙ S.sized.marks_length) e)

    -- e was taken off just now, or it was carried by nobody before
    kept_targets : (e v : ℕ) → Leaves G e v → Marked s'.marks v → carried_times s' e ≡ 0 → Marked s'.marks (target G e)
    kept_targets e v l m h =
        let now = over_leaves G A.formed s'.marks (long ∙ S.sized.marks_length) e v m l in
        let same = held (hit e) in
        by_cases (dec_lt 0 (sum (hit e) t))
        (λ (p : 0 < sum (hit e) t). T.marking.targets e p)
        (λ (p : ¬ (0 < sum (hit e) t)).
        let u = over_source G A.formed s.marks S.sized.marks_length e (omega (arith, grows (hit e))) in
        T.marking.keeps (target G e) (S.targets_marked e u.0 u.2 u.1 (omega (arith, grows (hit e)))))

    kept_total : s'.counts.followed + carried_all s' + leaving_unmarked G s'.marks ≡ references G
    kept_total =
        omega (
          arith,
          S.total,
          T.weighs.followed,
          held (λ (e : ℕ). 1),
          carried_all_is s.workers,
          carried_all_is s'.workers,
          sum_one t,
          over_total G A.formed s.marks S.sized.marks_length,
          over_total G A.formed s'.marks (long ∙ S.sized.marks_length),
        )

    -- who has ended by now had ended before, or nothing was carried
    kept_stopped : 0 < sum stopped s'.workers → carried_all s' ≡ 0
    kept_stopped h =
        by_cases (dec_lt 0 (carried_all s))
        (λ (p : 0 < carried_all s). absurd (omega (arith, S.stopped_empty (omega (arith, T.weighs.stops p, sums stopped)))))
        (λ (p : ¬ (0 < carried_all s)). omega (arith, T.weighs.rests (omega arith), sums carried_by))

    -- where nothing is carried, nothing will be
    kept_none : carried_all s ≡ 0 → carried_all s' ≡ 0
    kept_none z = omega (arith, T.weighs.rests z, sums carried_by)

    -- worker 0 ends first, with the token
    kept_first : 0 < sum stopped s'.workers → (stopped (worker s' 0) ≡ 1) × (s'.ring.holder ≡ 0)
    kept_first h =
        let now = places stopped 0 in
        let most = stopped_one (worker s' 0) in
        by_cases (dec_lt 0 (sum stopped s.workers))
        (λ (p : 0 < sum stopped s.workers).
        let first = S.first_ended p in
        omega (arith, now, most, first, T.weighs.running 0, T.weighs.holder_stays (omega (arith, first))))
        (λ (p : ¬ (0 < sum stopped s.workers)).
        let some : 0 < after stopped T.changes = omega (arith, h, p, sums stopped) in
        omega (arith, now, T.weighs.running 0, T.weighs.ends_first some, T.weighs.holder_stays (omega (arith, some))))

    -- a claim is followed
    kept_claims : {b k : ℕ} → Tallied G s b s' k → (i : ℕ) → (tally_of s' i).won + (tally_of s' i).lost ≤ (tally_of s' i).followed
    kept_claims {b} Y i =
        omega (
          arith,
          S.tallies_claims i,
          times (hit b i) Y.added.won Y.added.lost Y.added.followed (hit_at_most_one b i) Y.claims,
          raised_at (λ (y : Tally). y.followed) refl (λ (y z : Tally). refl) Y.raised i,
          raised_at (λ (y : Tally). y.won) refl (λ (y z : Tally). refl) Y.raised i,
          raised_at (λ (y : Tally). y.lost) refl (λ (y z : Tally). refl) Y.raised i,
        )

    -- who changes is sound afterwards, and the others stay so
    kept_worker : (i : ℕ) → WorkerSound G g s'.marks (worker s' i)
    kept_worker i =
        rw T.workers
        (put_each (WorkerSound G g s'.marks) s.workers T.changes
        (λ (j : ℕ). worker_more G g s.marks s'.marks T.marking.keeps (worker s j) (each_worker A S j))
        T.now_sound
        i)

    -- the tallies grow with the counts
    sound_step : {b k : ℕ} → Tallied G s b s' k → Rested s b s' W → Ringed A S s' → Sound G starts W g s'
    sound_step Y R N =
        record {
          sized =
              record {
                marks_length = long ∙ S.sized.marks_length;
                workers_length = ap length T.workers ∙ put_length s.workers T.changes ∙ S.sized.workers_length;
                rested_length = R.long;
                colours_length = N.long;
                tallies_length = raised_length Y.raised ∙ S.sized.tallies_length;
              };
          marks_limit = T.marking.limit;
          starts_marked = λ (v : ℕ) (h : 0 < sum (hit v) starts). T.marking.keeps v (S.starts_marked v h);
          live_is = omega (arith, S.live_is, T.weighs.lives);
          carrying_is = omega (arith, S.carrying_is, T.weighs.carrying, sums carries?);
          runs_within = λ (i : ℕ). (kept_worker i).within;
          runs_whole = λ (i : ℕ). (kept_worker i).whole;
          carried_once = kept_once;
          total = kept_total;
          targets_marked = kept_targets;
          supplied = λ (i : ℕ). (kept_worker i).supplied;
          cells = λ (a : ℕ). omega (arith, S.cells a, T.weighs.cells a, sums (holds a), places waits a);
          batch_limit = λ (i : ℕ). (kept_worker i).batch_limit;
          batch_carried = λ (i : ℕ). (kept_worker i).batch_carried;
          stopped_empty = kept_stopped;
          since_followed = omega (arith, S.since_followed, T.weighs.since, T.weighs.followed, sums since_of);
          rested_carrying = R.none;
          refused_moved = omega (arith, S.refused_moved, T.weighs.refused);
          tallies_followed =
              omega (arith, S.tallies_followed, Y.followed_counts, raised_sum (λ (y : Tally). y.followed) refl (λ (y z : Tally). refl) Y.raised);
          tallies_handed =
              omega (arith, S.tallies_handed, Y.handed_counts, raised_sum (λ (y : Tally). y.handed) refl (λ (y z : Tally). refl) Y.raised);
          tallies_won = omega (arith, S.tallies_won, Y.live_counts, raised_sum (λ (y : Tally). y.won) refl (λ (y z : Tally). refl) Y.raised);
          tallies_claims = λ (i : ℕ). kept_claims Y i;
          holder_below = N.below;
          above_holder = N.clear;
          first_ended = kept_first;
        }

    module _ {l : List ℕ} (F : Fresh G starts g s l) where
      reached : (v : ℕ) → Marked s.marks v ⊎ ((e : ℕ) × (v ≡ target G e) × (u : ℕ) × Marked s.marks u × Leaves G e u) → Reach G starts v
      reached v (inl m) = F.only_reached v m
      reached v (inr r) = rw r.1 (on r.0 (F.only_reached r.2 r.3) r.4)

      fresh_step : Fresh G starts g s' (l ++ t)
      fresh_step =
          record {
            only_reached = λ (v : ℕ) (m : Marked s'.marks v). reached v (T.marking.adds v m);
            once = λ (f : ℕ → ℕ). omega (arith, F.once f, held f, sum_append f l t);
            turn_count = omega (arith, F.turn_count, T.weighs.turn_pays, sums asks?, sums turns_of, length-append l t);
            handed_count = omega (arith, F.handed_count, T.weighs.hand_pays, sums since_of, sums (up_to g.cutoff), length-append l t);
          }

  -- a turn keeps a state sound
  pub sound_turn : (x : Entry) → Sound G starts W g (turn G g s x)
  sound_turn x =
      let m = move A S x in
      let R = rested_move A S m in
      sound_step (step A S m) (tallied_move A S m) R (ringed_move A S m R)

  -- and a collection fresh, with what the turn takes off in its trail
  pub fresh_turn : {l : List ℕ} → Fresh G starts g s l → (x : Entry) → Fresh G starts g (turn G g s x) (l ++ takes (worker s x.worker) G s)
  fresh_turn F x = fresh_step (step A S (move A S x)) F

  -- nothing is carried any more once nothing is
  pub none_turn : (x : Entry) → carried_all s ≡ 0 → carried_all (turn G g s x) ≡ 0
  none_turn x z = kept_none (step A S (move A S x)) z
