-- The start is sound and fresh, and so is every state that turns reach from it.
use mathlib.Core.Path.{◌≡◌, refl, sym, ap, ◌∙◌}
use mathlib.Core.List.{List, [], ◌∷◌, ◌++◌, append_assoc, append-nil}
use mathlib.Core.Logic.{by_cases}
use Prim.Native.Nat.{ℕ, zero, suc, ◌+◌, ◌-◌, ◌≤◌, ◌<◌}
use native.Mathlib.Omega.{arith}
use native.Mathlib.Decide.{dec_lt}
use native.Mathlib.Nat.{zero-add, add-zero}
use lib.ListN.{length, get_or, set, take, replicate, length-set, length-replicate}
use lib.Seq.{get_or-set_other}
use Rattle.laws.specs.Every.{Every}
use Rattle.laws.specs.Grouping.{itself}
use Rattle.laws.specs.Span.{span}
use Rattle.laws.specs.Sum.{sum, hit}
use Rattle.laws.proofs.Every.{every_append}
use Rattle.laws.proofs.Sum.{sum_none, each_set, hit_same}
use Rattle.graph.specs.Graph.{Graph, Leaves, objects, references, first, degree}
use Rattle.graph.specs.Chain.{set?, marks_at, reached}
use Rattle.graph.specs.Leaving.{leaving_sum}
use Rattle.graph.proofs.OverMarked.{over_set_again, over_none, over_total, over_once, over_leaves}
use Rattle.graph.proofs.Reached.{rounds_grows, reached_chain, starts_marked}
use Rattle.machine.specs.Run.{Run, carried, leaving}
use Rattle.machine.specs.Tally.{Tally, no_tally}
use Rattle.machine.specs.Ring.{white}
use Rattle.machine.specs.Machine.{Setting, State, Entry, Worker, idle, ended, busy, empty, poll, runs_of, carried_by, worker, carries?, live, new_run, start_runs, with_runs, unmarked, start, turn, turns, trail, stopped}
use Rattle.machine.specs.Accepted.{Accepted}
use Rattle.machine.specs.Sound.{Marked, InTargets, Within, Whole, holds, waits, since_of, runs_sum, held_sum, carried_times, distinct_starts, Sound, asks?, Fresh}
use Rattle.machine.specs.Demand2.{outcome}
use Rattle.machine.specs.Demand3.{trail_of}
use Rattle.theorems.proofs.Runs.{runs_append, runs_from_lem, leaving_runs, inside_all}
use Rattle.theorems.proofs.Marks.{marked_keeps, marked_there, over_more, set_some}
use Rattle.theorems.proofs.Facts.{WorkerSound, without_runs, carried_limit, runs_limit, runs_room}
use Rattle.theorems.proofs.Step.{over}
use Rattle.theorems.proofs.Kept.{carried_all_is, sound_turn, fresh_turn}

-- ---- marks set at a list of objects

-- what one more mark keeps, all keep
marks_at_lem : (P : List ℕ → Type 0) → ((ms : List ℕ) (v : ℕ) → P ms → P (set ms v 1)) → (vs ms : List ℕ) → P ms → P (marks_at vs ms)
unfolding marks_at
marks_at_lem P h [] ms t = t
marks_at_lem P h (v ∷ vs) ms t = marks_at_lem P h vs (set ms v 1) (h ms v t)

marks_at_length_lem : (vs ms : List ℕ) → length (marks_at vs ms) ≡ length ms
marks_at_length_lem vs ms = marks_at_lem (λ (l : List ℕ). length l ≡ length ms) (λ (l : List ℕ) (v : ℕ) (e : length l ≡ length ms). length-set l v 1 ∙ e) vs ms refl

marks_at_keeps : (vs ms : List ℕ) (u : ℕ) → Marked ms u → Marked (marks_at vs ms) u
marks_at_keeps vs ms u = marks_at_lem (λ (l : List ℕ). Marked l u) (λ (l : List ℕ) (v : ℕ). marked_keeps l v 1 u (omega arith)) vs ms

pub none_marked : (n u : ℕ) → get_or (replicate {A = ℕ} n 0) u 0 ≡ 0
none_marked zero u = refl
none_marked (suc n) zero = refl
none_marked (suc n) (suc u) = none_marked n u

-- from no marks on, none is above 1
marks_at_limit : (W : ℕ) → 1 ≤ W → (vs : List ℕ) (n v : ℕ) → get_or (marks_at vs (replicate n 0)) v 0 ≤ W
marks_at_limit W w vs n =
    marks_at_lem (λ (l : List ℕ). (v : ℕ) → get_or l v 0 ≤ W)
    (λ (l : List ℕ) (v : ℕ) (h : (v : ℕ) → get_or l v 0 ≤ W). each_set (λ (x : ℕ). x ≤ W) l v 1 0 h w)
    vs
    (replicate n 0)
    (λ (v : ℕ). omega (arith, none_marked n v))

-- an object that is not in the list keeps its mark
marks_at_other : (vs ms : List ℕ) (u : ℕ) → sum (hit u) vs ≡ 0 → get_or (marks_at vs ms) u 0 ≡ get_or ms u 0
unfolding marks_at sum
marks_at_other [] ms u h = refl
marks_at_other (v ∷ vs) ms u h =
    marks_at_other vs (set ms v 1) u (omega arith)
    ∙ get_or-set_other ms v u 1 0 (λ (q : u ≡ v). omega (arith, hit_same u, ap (hit u) q))

-- live counts the numbers from b on for which h is 1
live_span : (h : ℕ → ℕ) (b : ℕ) (ms : List ℕ) → ((i : ℕ) → i < length ms → set? (get_or ms i 0) ≡ h (b + i)) → live ms ≡ span h b (length ms)
unfolding live sum span
live_span h b [] each = refl
live_span h b (m ∷ ms) each =
    let first = each 0 (omega arith) in
    let later = live_span h (suc b) ms (λ (i : ℕ) (l : i < length ms). each (suc i) (omega arith) ∙ ap h (omega arith)) in
    omega (arith, later, first, ap h (add-zero b))

-- no tally counts anything
each_none : (k i : ℕ) → (get_or (replicate k no_tally) i no_tally).won + (get_or (replicate k no_tally) i no_tally).lost ≤ (get_or (replicate k no_tally) i no_tally).followed
each_none zero i = omega arith
each_none (suc k) zero = omega arith
each_none (suc k) (suc i) = each_none k i

-- ---- the starts' runs

-- the runs rs of the objects that are marked in ms' and not in ms
record Begun (G : Graph) (ms ms' : List ℕ) (rs : List Run) : Type 0 where
  sums : (f : ℕ → ℕ) → runs_sum f rs + over G f ms ≡ over G f ms'
  within : Every (Within G ms') rs
  whole : Every (Whole G) rs

module _ {G : Graph} {starts : List ℕ} {W : ℕ} {g : Setting} (A : Accepted G starts W g) where
  begun : (vs ms : List ℕ) → length ms ≡ objects G → ((v : ℕ) → 0 < sum (hit v) vs → v < objects G) → Begun G ms (marks_at vs ms) (start_runs G vs ms)
  unfolding start_runs marks_at runs_sum sum
  begun [] ms l h = record { sums = λ (f : ℕ → ℕ). omega arith; within = tt; whole = tt }
  begun (v ∷ vs) ms l h =
      by (get_or ms v 1) refl (begun vs (set ms v 1) (length-set ms v 1 ∙ l) (λ (u : ℕ) (p : 0 < sum (hit u) vs). h u (omega arith)))
    where
      by : (x : ℕ) → get_or ms v 1 ≡ x → Begun G (set ms v 1) (marks_at vs (set ms v 1)) (start_runs G vs (set ms v 1))
          → Begun G ms (marks_at vs (set ms v 1)) (new_run x (leaving G v) ++ start_runs G vs (set ms v 1))
      by zero e t =
          let rs = start_runs G vs (set ms v 1) in
          let below : v < objects G = h v (omega (arith, hit_same v)) in
          let m = marks_at_keeps vs (set ms v 1) v (marked_there ms v 1 (omega arith) (omega (arith, below, l))) in
          let own = leaving_runs G (marks_at vs (set ms v 1)) A.formed v below m in
          record {
            sums = λ (f : ℕ → ℕ).
                omega (arith, t.sums f, runs_append f (leaving G v) rs, runs_from_lem f (first G v) (degree G v), over_more (leaving_sum G f) ms v 1 (omega arith) e);
            within = every_append (Within G (marks_at vs (set ms v 1))) (leaving G v) rs own.0 t.within;
            whole = every_append (Whole G) (leaving G v) rs own.1 t.whole;
          }
      by (suc x) e t =
          record {
            sums = λ (f : ℕ → ℕ). omega (arith, t.sums f, over_set_again (leaving_sum G f) 0 ms v 0 x e);
            within = t.within;
            whole = t.whole;
          }

-- one start more
pub marks_at_more : (vs ms : List ℕ) (v : ℕ) → marks_at (vs ++ (v ∷ [])) ms ≡ set (marks_at vs ms) v 1
unfolding marks_at
marks_at_more [] ms v = refl
marks_at_more (u ∷ vs) ms v = marks_at_more vs (set ms u 1) v

pub start_runs_more : (G : Graph) (vs ms : List ℕ) (v : ℕ)
    → start_runs G (vs ++ (v ∷ [])) ms ≡ start_runs G vs ms ++ new_run (get_or (marks_at vs ms) v 1) (leaving G v)
unfolding start_runs marks_at
start_runs_more G [] ms v = append-nil (new_run (get_or ms v 1) (leaving G v))
start_runs_more G (u ∷ vs) ms v =
    ap (λ (rs : List Run). new_run (get_or ms u 1) (leaving G u) ++ rs) (start_runs_more G vs (set ms u 1) v)
    ∙ sym (append_assoc (new_run (get_or ms u 1) (leaving G u)) (start_runs G vs (set ms u 1)) _)

-- a part of a list sums to no more
sum_take : (f : ℕ → ℕ) (k : ℕ) (l : List ℕ) → sum f (take k l) ≤ sum f l
unfolding sum
sum_take f zero l = omega arith
sum_take f (suc k) [] = omega arith
sum_take f (suc k) (x ∷ l) = omega (arith, sum_take f k l)

-- ---- the first worker begins, the others are idle

-- what holds of a worker that begins with runs rs, of an idle one and of one that is not there, holds of each
each_start : (P : Worker → Type 0) (rs : List Run) (k : ℕ) → (0 < length rs → P (busy empty 0 poll rs)) → P idle → P ended → (i : ℕ)
    → P (get_or (with_runs rs ∷ replicate k idle) i ended)
each_start P rs k w d x i = by rs i w
  where
    others : (k i : ℕ) → P (get_or (replicate k idle) i ended)
    others zero i = x
    others (suc k) zero = d
    others (suc k) (suc i) = others k i

    by : (rs : List Run) (i : ℕ) → (0 < length rs → P (busy empty 0 poll rs)) → P (get_or (with_runs rs ∷ replicate k idle) i ended)
    by [] zero w = d
    by (r ∷ rs) zero w = w (omega arith)
    by [] (suc i) w = others k i
    by (r ∷ rs) (suc i) w = others k i

-- only the first worker counts
sum_start : (f : Worker → ℕ) (h : List Run → ℕ) (rs : List Run) (k : ℕ) → f idle ≡ 0 → h [] ≡ 0
    → ((rs : List Run) → f (busy empty 0 poll rs) ≡ h rs) → sum f (with_runs rs ∷ replicate k idle) ≡ h rs
unfolding sum
sum_start f h [] k e z w = omega (arith, sum_none f k idle e)
sum_start f h (r ∷ rs) k e z w = omega (arith, sum_none f k idle e, w (r ∷ rs))

module _ {G : Graph} {starts : List ℕ} {W : ℕ} {g : Setting} (A : Accepted G starts W g) where
  marks_long : length (start G starts W).marks ≡ objects G
  unfolding start
  marks_long = marks_at_length_lem starts (unmarked G) ∙ length-replicate (objects G) 0

  begun_start : Begun G (unmarked G) (start G starts W).marks (start_runs G starts (unmarked G))
  unfolding start
  begun_start = begun A starts (unmarked G) (length-replicate (objects G) 0) A.starts_below

  -- a weight that nobody has at the start
  none_start : (f : Worker → ℕ) → f idle ≡ 0 → ((rs : List Run) → f (busy empty 0 poll rs) ≡ 0) → sum f (start G starts W).workers ≡ 0
  unfolding start
  none_start f e w = sum_start f (λ (rs : List Run). 0) (start_runs G starts (unmarked G)) (W - 1) e refl w

  -- the starts' references are carried, each once
  held_start : (f : ℕ → ℕ) → sum (held_sum f) (start G starts W).workers ≡ over G f (start G starts W).marks
  unfolding start runs_sum sum
  held_start f =
      let all = sum_start (held_sum f) (runs_sum f) (start_runs G starts (unmarked G)) (W - 1) refl refl (λ (rs : List Run). refl) in
      omega (arith, all, begun_start.sums f, over_none (leaving_sum G f) 0 (objects G))

  -- the first worker alone may carry
  carrying_start : (start G starts W).counts.carrying ≡ sum carries? (start G starts W).workers
  unfolding start carried sum
  carrying_start = omega (arith, sum_none carries? (W - 1) idle refl)

  others_start : (b : ℕ) → 0 < b → carried_by (worker (start G starts W) b) ≡ 0
  unfolding start carried sum
  others_start zero h = absurd (omega arith)
  others_start (suc b) h = by (W - 1) b
    where
      by : (k i : ℕ) → carried_by (get_or (replicate k idle) i ended) ≡ 0
      by zero i = refl
      by (suc k) zero = refl
      by (suc k) (suc i) = by k i

  -- the marks set are the distinct starts
  starts_live : live (marks_at starts (unmarked G)) ≡ distinct_starts G starts
  unfolding start
  starts_live =
      let ms = marks_at starts (unmarked G) in
      live_span (λ (v : ℕ). set? (sum (hit v) starts)) 0 ms (λ (v : ℕ) (l : v < length ms).
      by_cases (dec_lt 0 (sum (hit v) starts))
      (λ (h : 0 < sum (hit v) starts).
      set_some (get_or ms v 0) (starts_marked starts (unmarked G) v h (rw length-replicate (A.starts_below v h)))
      ∙ sym (rw zero-add (set_some (sum (hit v) starts) h)))
      (λ (h : ¬ (0 < sum (hit v) starts)).
      let z : sum (hit v) starts ≡ 0 = omega arith in
      rw (zero-add, z, marks_at_other starts (unmarked G) v z, none_marked (objects G) v) refl))
      ∙ ap (λ (k : ℕ). span (λ (v : ℕ). set? (sum (hit v) starts)) 0 k) marks_long

  -- the start is sound
  pub sound_start : Sound G starts W g (start G starts W)
  unfolding start
  sound_start =
      let ms = marks_at starts (unmarked G) in
      let rs = start_runs G starts (unmarked G) in
      let t = begun_start in
      let first : 0 < length rs → WorkerSound G g ms (busy empty 0 poll rs) = λ (h : 0 < length rs).
      record { within = t.within; whole = inside_all G rs t.whole; supplied = h; batch_limit = omega arith; batch_carried = omega arith }
      in
      let each = each_start (WorkerSound G g ms) rs (W - 1) first (without_runs idle refl refl tt) (without_runs ended refl refl tt) in
      record {
        sized =
            record {
              marks_length = marks_long;
              workers_length = omega (arith, length-replicate (W - 1) idle, A.some_worker);
              rested_length = length-replicate W 0;
              colours_length = length-replicate W white;
              tallies_length = length-replicate W no_tally;
            };
        marks_limit = marks_at_limit W A.some_worker starts (objects G);
        starts_marked = λ (v : ℕ) (h : 0 < sum (hit v) starts).
            starts_marked starts (unmarked G) v h (rw length-replicate (A.starts_below v h));
        live_is = refl;
        carrying_is = carrying_start;
        runs_within = λ (b : ℕ). (each b).within;
        runs_whole = λ (b : ℕ). (each b).whole;
        carried_once = λ (e : ℕ). omega (arith, held_start (hit e), over_once G A.formed ms marks_long e);
        total = omega (arith, held_start (λ (e : ℕ). 1), carried_all_is (start G starts W).workers, over_total G A.formed ms marks_long);
        targets_marked = λ (e v : ℕ) (l : Leaves G e v) (m : Marked ms v) (h : carried_times (start G starts W) e ≡ 0).
            absurd (omega (arith, held_start (hit e), over_leaves G A.formed ms marks_long e v m l));
        supplied = λ (b : ℕ). (each b).supplied;
        cells = λ (i : ℕ).
            none_start (holds i) refl (λ (l : List Run). refl)
            ∙ sym (each_start (λ (w : Worker). waits w ≡ 0) rs (W - 1) (λ (h : 0 < length rs). refl) refl refl i);
        batch_limit = λ (b : ℕ). (each b).batch_limit;
        batch_carried = λ (b : ℕ). (each b).batch_carried;
        stopped_empty = λ (h : 0 < sum stopped (start G starts W).workers).
            absurd (omega (arith, none_start stopped refl (λ (l : List Run). refl)));
        since_followed = omega (arith, none_start since_of refl (λ (l : List Run). refl), sum_none itself W 0 refl);
        rested_carrying = λ (b : ℕ) (h : 0 < carried_by (worker (start G starts W) b)). none_marked W b;
        refused_moved = omega arith;
        tallies_followed = sum_none (λ (t : Tally). t.followed) W no_tally refl;
        tallies_handed = sum_none (λ (t : Tally). t.handed) W no_tally refl;
        tallies_won = omega (arith, sum_none (λ (t : Tally). t.won) W no_tally refl, starts_live);
        tallies_claims = each_none W;
        holder_below = omega (arith, A.some_worker);
        above_holder = λ none b h. others_start b (omega arith);
        first_ended = λ (h : 0 < sum stopped (start G starts W).workers).
            absurd (omega (arith, none_start stopped refl (λ (l : List Run). refl)));
      }

  -- what worker 0 carries at the start
  carried_first : runs_of (worker (start G starts W) 0) ≡ start_runs G starts (unmarked G)
  unfolding start
  carried_first = by (start_runs G starts (unmarked G))
    where
      by : (rs : List Run) → runs_of (with_runs rs) ≡ rs
      by [] = refl
      by (r ∷ rs) = refl

  pub start_room : length (start_runs G starts (unmarked G)) ≤ suc (objects G)
  start_room = rw carried_first at (runs_room A sound_start 0)

  pub start_carried : carried (start_runs G starts (unmarked G)) ≤ references G
  start_carried = rw carried_first at (carried_limit A sound_start 0)

  pub start_inside : Every (InTargets G) (start_runs G starts (unmarked G))
  start_inside = rw carried_first at (runs_limit A sound_start 0)

  -- at the start a start's mark is 1, every other mark 0
  pub start_mark : (v : ℕ) → 0 < sum (hit v) starts → get_or (start G starts W).marks v 0 ≡ 1
  unfolding start
  start_mark v h = omega (arith, sound_start.starts_marked v h, marks_at_limit 1 (omega arith) starts (objects G) v)

  pub start_unmarked : (v : ℕ) → sum (hit v) starts ≡ 0 → get_or (start G starts W).marks v 0 ≡ 0
  unfolding start
  start_unmarked v h = marks_at_other starts (unmarked G) v h ∙ none_marked (objects G) v

  -- what is marked at the start is reachable, and nothing is followed yet
  pub fresh_start : Fresh G starts g (start G starts W) []
  unfolding start reached sum
  fresh_start =
      record {
        only_reached = λ (v : ℕ) (m : Marked (marks_at starts (unmarked G)) v).
            reached_chain G starts v (rounds_grows G (objects G) (marks_at starts (unmarked G)) v m);
        once = λ (f : ℕ → ℕ). omega (arith, held_start f);
        turn_count = omega (arith, none_start asks? refl (λ (l : List Run). refl));
        handed_count = omega (arith, none_start since_of refl (λ (l : List Run). refl));
      }

  -- the first k starts alone are accepted
  pub accepted_front : (k : ℕ) → Accepted G (take k starts) W g
  accepted_front k =
      record {
        formed = A.formed;
        some_object = A.some_object;
        some_worker = A.some_worker;
        workers_limit = A.workers_limit;
        some_batch = A.some_batch;
        batch_limit = A.batch_limit;
        some_cutoff = A.some_cutoff;
        cutoff_limit = A.cutoff_limit;
        starts_below = λ (v : ℕ) (h : 0 < sum (hit v) (take k starts)). A.starts_below v (omega (arith, sum_take (hit v) k starts));
      }

  -- ---- over lists of turns

  -- turns keep a state sound
  pub sound_turns : {s : State} → Sound G starts W g s → (xs : List Entry) → Sound G starts W g (turns G g s xs)
  unfolding turns
  sound_turns S [] = S
  sound_turns {s} S (x ∷ xs) = sound_turns {s = turn G g s x} (sound_turn A S x) xs

  -- turns keep a collection fresh; what they take off joins the trail
  pub fresh_turns : {s : State} {l : List ℕ} → Sound G starts W g s → Fresh G starts g s l → (xs : List Entry)
      → Fresh G starts g (turns G g s xs) (l ++ trail G g s xs)
  unfolding turns trail
  fresh_turns {s} {l} S F [] = rw append-nil F
  fresh_turns {s} {l} S F (x ∷ xs) = rw append_assoc at (fresh_turns {s = turn G g s x} (sound_turn A S x) (fresh_turn A S F x) xs)

  -- every state that turns reach from the start is sound, and fresh with the trail of these turns
  pub sound : (xs : List Entry) → Sound G starts W g (outcome G starts W g xs)
  sound xs = sound_turns sound_start xs

  pub fresh : (xs : List Entry) → Fresh G starts g (outcome G starts W g xs) (trail_of G starts W g xs)
  fresh xs = fresh_turns sound_start fresh_start xs
