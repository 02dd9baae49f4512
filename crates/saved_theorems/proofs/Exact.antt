-- The computed test is exactly the conditions, both ways.
use mathlib.Core.Path.{◌≡◌, refl, ap}
use mathlib.Core.Bool.{Bool, true, false}
use mathlib.Core.List.{List, [], ◌∷◌}
use mathlib.Core.Logic.{◌⊎◌, inl, inr, by_cases}
use Prim.Native.Nat.{ℕ, zero, suc, ◌+◌, ◌*◌, ◌≤◌, ◌<◌}
use native.Mathlib.Decide.{dec_lt}
use native.Mathlib.Omega.{arith}
use lib.ListN.{length, get_or}
use lib.Dec.{leb, ltb, eqb}
use borrow.Author.Tests.{ltb-true, ltb-false, leb-true, leb-false, eqb-true, eqb-false, lt-ltb, le-ltb, le-leb, lt-leb, eq-eqb, ne_eqb}
use Rattle.laws.specs.Choice.{both, either}
use Rattle.laws.specs.Every.{Every}
use Rattle.laws.specs.Grouping.{itself}
use Rattle.laws.specs.Sum.{sum, hit}
use Rattle.laws.specs.Test.{all, all_up_to}
use Rattle.laws.proofs.Sum.{sum_zero_each, sum_positive, sum_share, hit_same, hit_equal}
use Rattle.laws.proofs.Test.{both_true, both_is, tested, all_at, at_all, all_every, every_all, all_hit, hit_all, up_to_each, each_up_to, some_found, found_some}
use Rattle.graph.specs.Graph.{Graph, Leaves, objects, references, first, after, target}
use Rattle.graph.specs.Formed.{Formed}
use Rattle.graph.specs.Leaving.{leaving_unmarked}
use Rattle.graph.proofs.OverMarked.{after_limit}
use Rattle.machine.specs.Ring.{black_below}
use Rattle.machine.specs.Run.{Run, run, carried}
use Rattle.machine.specs.Tally.{no_tally}
use Rattle.machine.specs.Machine.{Setting, State, Worker, idle, asking, denied, ended, given, busy, empty, from, worker, runs_of, carried_by, carries?, carried_all, live, stopped}
use Rattle.machine.specs.Sound.{Marked, Within, Whole, WholeButLast, WholeInside, batch_in, Supplied, holds, waits, since_of, held_sum, carried_times, followed_sum, handed_sum, won_sum, distinct_starts, Sized}
use Rattle.machine.specs.Demand3.{moved_bound, handed_bound}
use Rattle.theorems.proofs.Runs.{within_source}
use Rattle.saved.specs.Sound.{SavedSound}
use Rattle.saved.specs.Test.{marked?, within_at?, whole_at?, within?, whole?, whole_but_last?, whole_inside?, leaves?, target_marked?, supplied?, cell_known?, claims?, clear?, conditions, sound?}

-- one test holds, and those behind it
infixr 4 ◌&◌
◌&◌ : {p q : Bool} → p ≡ true → q ≡ true → both p q ≡ true
◌&◌ = both_is

-- of two tests the second holds where the first does not
otherwise : {p : Bool} (q : Bool) → either p q ≡ true → p ≡ false → q ≡ true
otherwise q h e = rw e at h

or_else : (p : Bool) {q : Bool} → (p ≡ false → q ≡ true) → either p q ≡ true
or_else true f = refl
or_else false f = f refl

some_not_zero : (x : ℕ) → 0 < x → eqb x 0 ≡ false
some_not_zero x p = ne_eqb x 0 (λ (e : x ≡ 0). omega (arith, e))

not_zero_some : (x : ℕ) → eqb x 0 ≡ false → 0 < x
not_zero_some x e = by_cases (dec_lt 0 x) (λ (p : 0 < x). p) (λ (p : ¬ (0 < x)). absurd (eqb-false x 0 e (omega arith)))

-- ---- one run

module _ (G : Graph) where
  within_from : (ms : List ℕ) (r : Run) → within? G ms r ≡ true → Within G ms r
  within_from ms (run f k) h =
      let t = some_found (within_at? G ms (run f k)) (objects G) h in
      let v = t.0 in
      let a = both_true (marked? ms v) (both (leb (first G v) f) (leb (f + suc k) (after G v))) t.2 in
      let b = both_true (leb (first G v) f) (leb (f + suc k) (after G v)) a.1 in
      record {
        object = v;
        is_object = t.1;
        is_marked = ltb-true 0 (get_or ms v 0) a.0;
        begins = leb-true (first G v) f b.0;
        ends = leb-true (f + suc k) (after G v) b.1;
      }

  within_to : (ms : List ℕ) (r : Run) → Within G ms r → within? G ms r ≡ true
  within_to ms (run f k) t =
      let v = t.object in
      found_some (within_at? G ms (run f k)) (objects G) v t.is_object
      (both_is (lt-ltb 0 (get_or ms v 0) t.is_marked) (both_is (le-leb (first G v) f t.begins) (le-leb (f + suc k) (after G v) t.ends)))

  whole_from : (r : Run) → whole? G r ≡ true → Whole G r
  whole_from (run f k) h =
      let t = some_found (whole_at? G (run f k)) (objects G) h in
      let v = t.0 in
      let a = both_true (eqb f (first G v)) (eqb (f + suc k) (after G v)) t.2 in
      record { object = v; is_object = t.1; begins = eqb-true f (first G v) a.0; ends = eqb-true (f + suc k) (after G v) a.1 }

  whole_to : (r : Run) → Whole G r → whole? G r ≡ true
  whole_to (run f k) t =
      let v = t.object in
      found_some (whole_at? G (run f k)) (objects G) v t.is_object
      (both_is (eq-eqb f (first G v) t.begins) (eq-eqb (f + suc k) (after G v) t.ends))

  but_last_from : (rs : List Run) → whole_but_last? G rs ≡ true → WholeButLast G rs
  unfolding whole_but_last?
  but_last_from [] h = tt
  but_last_from (r ∷ []) h = tt
  but_last_from (r ∷ q ∷ rs) h =
      let t = both_true (whole? G r) (whole_but_last? G (q ∷ rs)) h in (whole_from r t.0, but_last_from (q ∷ rs) t.1)

  but_last_to : (rs : List Run) → WholeButLast G rs → whole_but_last? G rs ≡ true
  unfolding whole_but_last?
  but_last_to [] t = refl
  but_last_to (r ∷ []) t = refl
  but_last_to (r ∷ q ∷ rs) t = both_is (whole_to r t.0) (but_last_to (q ∷ rs) t.1)

  inside_from : (rs : List Run) → whole_inside? G rs ≡ true → WholeInside G rs
  inside_from [] h = tt
  inside_from (r ∷ rs) h = but_last_from rs h

  inside_to : (rs : List Run) → WholeInside G rs → whole_inside? G rs ≡ true
  inside_to [] t = refl
  inside_to (r ∷ rs) t = but_last_to rs t

-- ---- one worker

supplied_from : (w : Worker) → supplied? w ≡ true → Supplied w
supplied_from idle h = tt
supplied_from asking h = tt
supplied_from denied h = tt
supplied_from ended h = tt
supplied_from (given rs) h = ltb-true 0 (length rs) h
supplied_from (busy c n p rs) h = ltb-true 0 (length rs) h

supplied_to : (w : Worker) → Supplied w → supplied? w ≡ true
supplied_to idle h = refl
supplied_to asking h = refl
supplied_to denied h = refl
supplied_to ended h = refl
supplied_to (given rs) h = lt-ltb 0 (length rs) h
supplied_to (busy c n p rs) h = lt-ltb 0 (length rs) h

-- nobody from W on is in a known cell
known_none : (W a : ℕ) (w : Worker) → cell_known? W w ≡ true → W ≤ a → holds a w ≡ 0
unfolding hit
known_none W a idle h q = refl
known_none W a asking h q = refl
known_none W a denied h q = refl
known_none W a ended h q = refl
known_none W a (given rs) h q = refl
known_none W a (busy empty n p rs) h q = refl
known_none W a (busy (from b) n p rs) h q =
    by_cases (dec_lt 0 (hit b a))
    (λ (r : 0 < hit b a). absurd (omega (arith, ltb-true b W h, hit_equal b a r)))
    (λ (r : ¬ (0 < hit b a)). omega arith)

-- a cell is known where only those below W are in cells
none_known : (W : ℕ) (w : Worker) → ((a : ℕ) → W ≤ a → holds a w ≡ 0) → cell_known? W w ≡ true
none_known W idle h = refl
none_known W asking h = refl
none_known W denied h = refl
none_known W ended h = refl
none_known W (given rs) h = refl
none_known W (busy empty n p rs) h = refl
none_known W (busy (from b) n p rs) h =
    by_cases (dec_lt b W)
    (λ (r : b < W). lt-ltb b W r)
    (λ (r : ¬ (b < W)). absurd (omega (arith, h b (omega arith), hit_same b)))

-- ---- the state

module _ {G : Graph} (F : Formed G) (starts : List ℕ) (W : ℕ) (g : Setting) (s : State) (z : Sized (objects G) W s) where
  -- a worker that is not there has ended
  beyond : (b : ℕ) → W ≤ b → worker s b ≡ ended
  beyond b h = past s.workers b (omega (arith, z.workers_length))
    where
      past : (l : List Worker) (i : ℕ) → length l ≤ i → get_or l i ended ≡ ended
      past [] i q = refl
      past (x ∷ l) zero q = absurd (omega arith)
      past (x ∷ l) (suc i) q = past l i (omega arith)

  -- only references are carried
  carried_low : ((b : ℕ) → Every (Within G s.marks) (runs_of (worker s b))) → (e : ℕ) → references G ≤ e → carried_times s e ≡ 0
  carried_low w e h =
      by_cases (dec_lt 0 (carried_times s e))
      (λ (p : 0 < carried_times s e).
      let i = sum_positive (held_sum (hit e)) ended s.workers p in
      let v = within_source G s.marks e (runs_of (worker s i.0)) (w i.0) i.2 in
      absurd (omega (arith, after_limit G F v.0 v.2.object, v.2.below)))
      (λ (p : ¬ (0 < carried_times s e)). omega arith)

  targets_from_lem : all_up_to (objects G) (λ (v : ℕ). all_up_to (references G) (target_marked? G s v)) ≡ true
      → (e v : ℕ) → Leaves G e v → Marked s.marks v → carried_times s e ≡ 0 → Marked s.marks (target G e)
  targets_from_lem h e v l m c =
      let t =
      up_to_each (target_marked? G s v) (references G)
      (up_to_each (λ (v : ℕ). all_up_to (references G) (target_marked? G s v)) (objects G) h v l.object) e
      (omega (arith, after_limit G F v l.object, l.below))
      in
      ltb-true 0 (get_or s.marks (target G e) 0)
      (rw (le-leb (first G v) e l.from, lt-ltb e (after G v) l.below, lt-ltb 0 (get_or s.marks v 0) m, c) at t)

  targets_to : ((e v : ℕ) → Leaves G e v → Marked s.marks v → carried_times s e ≡ 0 → Marked s.marks (target G e))
      → all_up_to (objects G) (λ (v : ℕ). all_up_to (references G) (target_marked? G s v)) ≡ true
  targets_to h =
      each_up_to (λ (v : ℕ). all_up_to (references G) (target_marked? G s v)) (objects G)
      (λ (v : ℕ) (p : v < objects G).
      each_up_to (target_marked? G s v) (references G)
      (λ (e : ℕ) (q : e < references G). one v p e (tested (leaves? G e v)) (tested (marked? s.marks v)) (tested (ltb 0 (carried_times s e)))))
    where
      one : (v : ℕ) → v < objects G → (e : ℕ) → (leaves? G e v ≡ true) ⊎ (leaves? G e v ≡ false)
          → (marked? s.marks v ≡ true) ⊎ (marked? s.marks v ≡ false)
          → (ltb 0 (carried_times s e) ≡ true) ⊎ (ltb 0 (carried_times s e) ≡ false) → target_marked? G s v e ≡ true
      one v p e (inr l) m c = rw l refl
      one v p e (inl l) (inr m) c = rw (l, m) refl
      one v p e (inl l) (inl m) (inl c) = rw (l, m, c) refl
      one v p e (inl l) (inl m) (inr c) =
          let a = both_true (leb (first G v) e) (ltb e (after G v)) l in
          let k : Leaves G e v = record { object = p; from = leb-true (first G v) e a.0; below = ltb-true e (after G v) a.1 } in
          let none : carried_times s e ≡ 0 = omega (arith, ltb-false 0 (carried_times s e) c) in
          rw (l, m, c) (lt-ltb 0 (get_or s.marks (target G e) 0) (h e v k (ltb-true 0 (get_or s.marks v 0) m) none))

  -- at each worker, where the test holds of one that has ended
  at_workers : (p : Worker → Bool) → p ended ≡ true → all p s.workers ≡ true → (b : ℕ) → p (worker s b) ≡ true
  at_workers p e h b = all_at p ended e s.workers h b

  cells_from : all (cell_known? W) s.workers ≡ true
      → all_up_to W (λ (a : ℕ). eqb (sum (holds a) s.workers) (waits (worker s a))) ≡ true
      → (a : ℕ) → sum (holds a) s.workers ≡ waits (worker s a)
  cells_from k h a =
      by_cases (dec_lt a W)
      (λ (p : a < W).
      eqb-true (sum (holds a) s.workers) (waits (worker s a))
      (up_to_each (λ (a : ℕ). eqb (sum (holds a) s.workers) (waits (worker s a))) W h a p))
      (λ (p : ¬ (a < W)).
      rw (beyond a (omega arith))
      (sum_zero_each (holds a) ended s.workers (λ (b : ℕ). known_none W a (worker s b) (at_workers (cell_known? W) refl k b) (omega arith))))

  -- whoever is in a cell waits, so it is one of the W workers
  cells_known : ((a : ℕ) → sum (holds a) s.workers ≡ waits (worker s a)) → all (cell_known? W) s.workers ≡ true
  cells_known h =
      at_all (cell_known? W) ended s.workers
      (λ (b : ℕ).
      none_known W (worker s b)
      (λ (a : ℕ) (p : W ≤ a). omega (arith, h a, ap waits (beyond a p), sum_share (holds a) ended refl s.workers b)))

  within_each : all (λ (w : Worker). all (within? G s.marks) (runs_of w)) s.workers ≡ true
      → (b : ℕ) → Every (Within G s.marks) (runs_of (worker s b))
  unfolding all
  within_each h b =
      all_every (within? G s.marks) (Within G s.marks) (within_from G s.marks) (runs_of (worker s b))
      (at_workers (λ (w : Worker). all (within? G s.marks) (runs_of w)) refl h b)

  once_from : ((b : ℕ) → Every (Within G s.marks) (runs_of (worker s b)))
      → all_up_to (references G) (λ (e : ℕ). leb (carried_times s e) 1) ≡ true → (e : ℕ) → carried_times s e ≤ 1
  once_from w h e =
      by_cases (dec_lt e (references G))
      (λ (p : e < references G). leb-true (carried_times s e) 1 (up_to_each (λ (e : ℕ). leb (carried_times s e) 1) (references G) h e p))
      (λ (p : ¬ (e < references G)). omega (arith, carried_low w e (omega arith)))

  stopped_from : either (eqb (sum stopped s.workers) 0) (eqb (carried_all s) 0) ≡ true → 0 < sum stopped s.workers → carried_all s ≡ 0
  stopped_from h p = eqb-true (carried_all s) 0 (otherwise (eqb (carried_all s) 0) h (some_not_zero (sum stopped s.workers) p))

  stopped_to : (0 < sum stopped s.workers → carried_all s ≡ 0) → either (eqb (sum stopped s.workers) 0) (eqb (carried_all s) 0) ≡ true
  stopped_to h =
      or_else (eqb (sum stopped s.workers) 0) (λ (e : eqb (sum stopped s.workers) 0 ≡ false). eq-eqb (carried_all s) 0 (h (not_zero_some (sum stopped s.workers) e)))

  -- the since of worker b, which is there only where it carries nothing
  abbrev rests? : ℕ → Bool
  rests? b = either (eqb (carried_by (worker s b)) 0) (eqb (get_or s.rested b 0) 0)

  rested_from_lem : all_up_to W rests? ≡ true → (b : ℕ) → 0 < carried_by (worker s b) → get_or s.rested b 0 ≡ 0
  unfolding carried sum
  rested_from_lem h b p =
      by_cases (dec_lt b W)
      (λ (q : b < W).
      eqb-true (get_or s.rested b 0) 0
      (otherwise (eqb (get_or s.rested b 0) 0) (up_to_each rests? W h b q) (some_not_zero (carried_by (worker s b)) p)))
      (λ (q : ¬ (b < W)). absurd (omega (arith, ap carried_by (beyond b (omega arith)))))

  rested_to : ((b : ℕ) → 0 < carried_by (worker s b) → get_or s.rested b 0 ≡ 0) → all_up_to W rests? ≡ true
  rested_to h =
      each_up_to rests? W
      (λ (b : ℕ) (q : b < W).
      or_else (eqb (carried_by (worker s b)) 0)
      (λ (e : eqb (carried_by (worker s b)) 0 ≡ false). eq-eqb (get_or s.rested b 0) 0 (h b (not_zero_some (carried_by (worker s b)) e))))

  -- a worker above the holder
  above_from : either (ltb 0 (black_below s.ring)) (all_up_to W (clear? s)) ≡ true → black_below s.ring ≡ 0 → (b : ℕ) → s.ring.holder < b
      → carried_by (worker s b) ≡ 0
  unfolding carried sum
  above_from h z b l =
      let e = otherwise (all_up_to W (clear? s)) h (le-ltb 0 (black_below s.ring) (omega (arith, z))) in
      by_cases (dec_lt b W)
      (λ (q : b < W).
      eqb-true (carried_by (worker s b)) 0
      (otherwise (eqb (carried_by (worker s b)) 0) (up_to_each (clear? s) W e b q) (lt-leb b s.ring.holder l)))
      (λ (q : ¬ (b < W)). ap carried_by (beyond b (omega arith)))

  above_to : (black_below s.ring ≡ 0 → (b : ℕ) → s.ring.holder < b → carried_by (worker s b) ≡ 0)
      → either (ltb 0 (black_below s.ring)) (all_up_to W (clear? s)) ≡ true
  above_to h =
      or_else (ltb 0 (black_below s.ring))
      (λ (z : ltb 0 (black_below s.ring) ≡ false).
      each_up_to (clear? s) W
      (λ (b : ℕ) (q : b < W).
      or_else (leb b s.ring.holder)
      (λ (l : leb b s.ring.holder ≡ false).
      eq-eqb (carried_by (worker s b)) 0 (h (omega (arith, ltb-false 0 (black_below s.ring) z)) b (leb-false b s.ring.holder l)))))

  -- worker 0 has ended, with the token, where some have
  abbrev first? : Bool
  first? = both (eqb (stopped (worker s 0)) 1) (eqb s.ring.holder 0)

  first_from : either (eqb (sum stopped s.workers) 0) first? ≡ true → 0 < sum stopped s.workers → (stopped (worker s 0) ≡ 1) × (s.ring.holder ≡ 0)
  first_from h p =
      let e = otherwise first? h (some_not_zero (sum stopped s.workers) p) in
      let t = both_true (eqb (stopped (worker s 0)) 1) (eqb s.ring.holder 0) e in
      (eqb-true (stopped (worker s 0)) 1 t.0, eqb-true s.ring.holder 0 t.1)

  first_to : (0 < sum stopped s.workers → (stopped (worker s 0) ≡ 1) × (s.ring.holder ≡ 0)) → either (eqb (sum stopped s.workers) 0) first? ≡ true
  first_to h =
      or_else (eqb (sum stopped s.workers) 0)
      (λ (e : eqb (sum stopped s.workers) 0 ≡ false).
      let t = h (not_zero_some (sum stopped s.workers) e) in both_is (eq-eqb (stopped (worker s 0)) 1 t.0) (eq-eqb s.ring.holder 0 t.1))

  -- the test says the conditions
  pub from_test : sound? G starts W g s ≡ true → SavedSound G starts W g s
  unfolding sound? conditions all carried sum
  from_test h =
      let t = all_at (λ (t : Bool). t) true refl (conditions G starts W g s) h in
      let within = within_each (t 4) in
      record {
        sound =
            record {
              sized = z;
              marks_limit = λ (v : ℕ). leb-true (get_or s.marks v 0) W (all_at (λ (x : ℕ). leb x W) 0 (le-leb 0 W (omega arith)) s.marks (t 0) v);
              starts_marked = λ (v : ℕ) (p : 0 < sum (hit v) starts). ltb-true 0 (get_or s.marks v 0) (all_hit (marked? s.marks) starts (t 1) v p);
              live_is = eqb-true s.counts.live (live s.marks) (t 2);
              carrying_is = eqb-true s.counts.carrying (sum carries? s.workers) (t 3);
              runs_within = within;
              runs_whole = λ (b : ℕ). inside_from G (runs_of (worker s b)) (at_workers (λ (w : Worker). whole_inside? G (runs_of w)) refl (t 5) b);
              carried_once = once_from within (t 6);
              total = eqb-true (s.counts.followed + carried_all s + leaving_unmarked G s.marks) (references G) (t 7);
              targets_marked = targets_from_lem (t 8);
              supplied = λ (b : ℕ). supplied_from (worker s b) (at_workers supplied? refl (t 9) b);
              cells = cells_from (t 10) (t 11);
              batch_limit = λ (b : ℕ).
                  leb-true (batch_in (worker s b)) g.batch (at_workers (λ (w : Worker). leb (batch_in w) g.batch) (le-leb 0 g.batch (omega arith)) (t 12) b);
              batch_carried = λ (b : ℕ).
                  leb-true (batch_in (worker s b)) (carried_by (worker s b)) (at_workers (λ (w : Worker). leb (batch_in w) (carried_by w)) refl (t 13) b);
              stopped_empty = stopped_from (t 14);
              since_followed = leb-true (sum since_of s.workers + sum itself s.rested) s.counts.followed (t 17);
              rested_carrying = rested_from_lem (t 18);
              refused_moved = leb-true s.counts.refused s.counts.moved (t 19);
              tallies_followed = eqb-true (followed_sum s) s.counts.followed (t 20);
              tallies_handed = eqb-true (handed_sum s) s.counts.handed (t 21);
              tallies_won = eqb-true (won_sum s + distinct_starts G starts) s.counts.live (t 22);
              tallies_claims = λ (b : ℕ).
                  let y = get_or s.tallies b no_tally in leb-true (y.won + y.lost) y.followed (all_at claims? no_tally refl s.tallies (t 23) b);
              holder_below = ltb-true s.ring.holder W (t 24);
              above_holder = above_from (t 25);
              first_ended = first_from (t 26);
            };
        moved_limit = leb-true s.counts.moved (moved_bound (references G) W) (t 15);
        handed_limit = leb-true (s.counts.handed * g.cutoff) (handed_bound (references G)) (t 16);
      }

  -- and the conditions the test
  pub to_test : SavedSound G starts W g s → sound? G starts W g s ≡ true
  unfolding sound? conditions
  to_test X =
      let S = X.sound in
      at_all (λ (x : ℕ). leb x W) 0 s.marks (λ (v : ℕ). le-leb (get_or s.marks v 0) W (S.marks_limit v))
      & hit_all (marked? s.marks) starts (λ (v : ℕ) (p : 0 < sum (hit v) starts). lt-ltb 0 (get_or s.marks v 0) (S.starts_marked v p))
      & eq-eqb s.counts.live (live s.marks) S.live_is
      & eq-eqb s.counts.carrying (sum carries? s.workers) S.carrying_is
      & at_all (λ (w : Worker). all (within? G s.marks) (runs_of w)) ended s.workers
      (λ (b : ℕ). every_all (within? G s.marks) (Within G s.marks) (within_to G s.marks) (runs_of (worker s b)) (S.runs_within b))
      & at_all (λ (w : Worker). whole_inside? G (runs_of w)) ended s.workers (λ (b : ℕ). inside_to G (runs_of (worker s b)) (S.runs_whole b))
      & each_up_to (λ (e : ℕ). leb (carried_times s e) 1) (references G) (λ (e : ℕ) (p : e < references G). le-leb (carried_times s e) 1 (S.carried_once e))
      & eq-eqb (s.counts.followed + carried_all s + leaving_unmarked G s.marks) (references G) S.total
      & targets_to S.targets_marked
      & at_all supplied? ended s.workers (λ (b : ℕ). supplied_to (worker s b) (S.supplied b))
      & cells_known S.cells
      & each_up_to (λ (a : ℕ). eqb (sum (holds a) s.workers) (waits (worker s a))) W
      (λ (a : ℕ) (p : a < W). eq-eqb (sum (holds a) s.workers) (waits (worker s a)) (S.cells a))
      & at_all (λ (w : Worker). leb (batch_in w) g.batch) ended s.workers (λ (b : ℕ). le-leb (batch_in (worker s b)) g.batch (S.batch_limit b))
      & at_all (λ (w : Worker). leb (batch_in w) (carried_by w)) ended s.workers
      (λ (b : ℕ). le-leb (batch_in (worker s b)) (carried_by (worker s b)) (S.batch_carried b))
      & stopped_to S.stopped_empty
      & le-leb s.counts.moved (moved_bound (references G) W) X.moved_limit
      & le-leb (s.counts.handed * g.cutoff) (handed_bound (references G)) X.handed_limit
      & le-leb (sum since_of s.workers + sum itself s.rested) s.counts.followed S.since_followed
      & rested_to S.rested_carrying
      & le-leb s.counts.refused s.counts.moved S.refused_moved
      & eq-eqb (followed_sum s) s.counts.followed S.tallies_followed
      & eq-eqb (handed_sum s) s.counts.handed S.tallies_handed
      & eq-eqb (won_sum s + distinct_starts G starts) s.counts.live S.tallies_won
      & at_all claims? no_tally s.tallies (λ (b : ℕ). let y = get_or s.tallies b no_tally in le-leb (y.won + y.lost) y.followed (S.tallies_claims b))
      & lt-ltb s.ring.holder W S.holder_below
      & above_to S.above_holder
      & first_to S.first_ended
      & refl
