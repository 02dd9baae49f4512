-- A worker that was asked replies soon: its own turns use up the batch, two for a reference at most, and the poll behind it
-- answers; nobody else's turn changes a worker whose cell is taken. What it carries beyond its batch never falls before the poll.
use mathlib.Core.Path.{◌≡◌, refl, sym, ap, ◌∙◌, subst}
use mathlib.Core.Bool.{Bool, true, false, true≢false}
use mathlib.Core.List.{List, [], ◌∷◌, ◌++◌}
use mathlib.Core.Logic.{◌≢◌, by_cases}
use Prim.Native.Nat.{ℕ, zero, suc, ◌+◌, ◌-◌, ◌*◌, ◌≤◌, ◌<◌}
use native.Mathlib.Decide.{dec_lt}
use native.Mathlib.Omega.{arith}
use borrow.Author.Tests.{lt-ltb}
use lib.ListN.{length, length-set, length-append, set, get_or}
use lib.Seq.{get_or-set_same, get_or-set_other}
use Rattle.laws.specs.Grouping.{itself}
use Rattle.laws.specs.Span.{span, listing}
use Rattle.laws.specs.Sum.{sum, hit}
use Rattle.laws.proofs.Span.{span_hit_one, listing_length}
use Rattle.laws.proofs.Sum.{hit_same, hit_at_most_one, hit_equal, sum_append}
use Rattle.graph.specs.Graph.{Graph, target}
use Rattle.machine.specs.Run.{Run, run, run_from, carried}
use Rattle.machine.specs.Machine.{Setting, State, Entry, Worker, idle, asking, denied, ended, given, busy, Cell, empty, from, Phase, poll, look, claim, phase, worker, mark_of, carried_by}
use Rattle.machine.specs.Machine.{shares, answer, dismiss, Claimed, not_claimed, claims, onward_runs, follows, look_turn, busy_turn, worker_turn, turn, turns}
use Rattle.machine.specs.Accepted.{Accepted}
use Rattle.machine.specs.Sound.{batch_of, holds, waits, Sound}
use Rattle.machine.specs.Move.{Waiting, Move, still, passed, alone, asked, hands, refuses, follow}
use Rattle.machine.specs.Events.{owed?}
use Rattle.machine.specs.Demand2.{outcome}
use Rattle.machine.specs.Demand3.{entries_of}
use Rattle.theorems.specs.Waiting.{reply_bound, replied?, Reply, laps, behind, workers_of, Waits}
use Rattle.theorems.proofs.Facts.{batch_limit, asker_below, asker_other, busy_below, busy_some}
use Rattle.theorems.proofs.Runs.{carried_append, carried_from}
use Rattle.theorems.proofs.Move.{move}
use Rattle.theorems.proofs.Kept.{sound_turn}
use Rattle.theorems.proofs.Start.{sound}

-- the turns of its own that an asked worker makes at most until it replies
abbrev pub patience : Phase → ℕ
patience poll = 1
patience (look k) = 2 * k + 3
patience (claim k) = 2 * k + 2

patience_least : (p : Phase) → 0 < patience p
patience_least poll = omega arith
patience_least (look k) = omega arith
patience_least (claim k) = omega arith

patience_most : (p : Phase) → patience p ≤ 2 * batch_of p + 1
patience_most poll = omega arith
patience_most (look k) = omega arith
patience_most (claim k) = omega arith

-- a phase with k references left of its batch
phase_patience : (k : ℕ) → patience (phase k) ≡ 2 * k + 1
phase_patience zero = omega arith
phase_patience (suc k) = omega arith

phase_batch : (k : ℕ) → batch_of (phase k) ≡ k
phase_batch zero = refl
phase_batch (suc k) = refl

-- more than K carried beyond the batch
abbrev pub Rich : Setting → Phase → List Run → Type 0
Rich g p rs = g.cutoff + batch_of p < carried rs

-- more than K is shared
shares_more : (K n c : ℕ) → K < c → shares K n c ≡ true
shares_more K n c h = rw (lt-ltb K c h) refl

-- a turn of the asked worker b itself, which leaves s': the asker a has its reply, or b goes on and is nearer to it
pub data Own (g : Setting) (s' : State) (a b : ℕ) (p : Phase) (rs : List Run) : Type 0 where
  done : replied? (worker s' a) ≡ 1 → (Rich g p rs → owed? (worker s' a) ≡ 1) → Own g s' a b p rs
  goes : {n : ℕ} {q : Phase} {rs' : List Run} → worker s' b ≡ busy (from a) n q rs' → patience q < patience p
      → (Rich g p rs → Rich g q rs') → Own g s' a b p rs

-- worker b is busy, and a stands in its cell
module _ {G : Graph} {starts : List ℕ} {W : ℕ} {g : Setting} {s : State} (A : Accepted G starts W g) (S : Sound G starts W g s)
    (b : ℕ) {a n : ℕ} {p : Phase} {rs : List Run} (q : worker s b ≡ busy (from a) n p rs) where
  asker_there : a < length s.workers
  asker_there = omega (arith, S.sized.workers_length, asker_below A S b q)

  asked_there : b < length s.workers
  asked_there = omega (arith, S.sized.workers_length, busy_below A S b q)

  -- b and then the asker change
  asker_set : (y z : Worker) → get_or (set (set s.workers b y) a z) a ended ≡ z
  asker_set y z = get_or-set_same (set s.workers b y) a z ended (rw length-set asker_there)

  -- ---- b's own turn

  own_answer : (t : Bool) → shares g.cutoff n (carried rs) ≡ t → Own g (answer t g s b a n rs) a b poll rs
  own_answer true e = done (ap replied? (asker_set _ _)) (λ h. ap owed? (asker_set _ _))
  own_answer false e =
      done (ap replied? (asker_set _ _)) (λ h. absurd (true≢false (sym (shares_more g.cutoff n (carried rs) (omega arith)) ∙ e)))

  -- it follows, and rs' is left: nothing, so the asker is refused; or something
  own_follow : (k : ℕ) (o : Claimed) (rs' : List Run) → carried rs ≤ suc (carried rs') → patience (phase k) < patience p → batch_of p ≡ suc k
      → Own g (follows s b (from a) n k o rs') a b p rs
  unfolding carried sum
  own_follow k o [] h l e = done (ap replied? (asker_set _ _)) (λ r. absurd (omega (arith, h, r, e)))
  own_follow k o (r ∷ rs') h l e =
      goes (get_or-set_same s.workers b _ ended asked_there) l (λ (m : Rich g p rs). omega (arith, h, m, e, phase_batch k))

-- what is left behind the first reference, and what opens
left_carried : (e j : ℕ) (opened rs : List Run) → carried (run e j ∷ rs) ≤ suc (carried (onward_runs e j opened rs))
left_carried e j opened rs =
    omega (
      arith,
      carried_append (run_from (suc e) j) (opened ++ rs),
      carried_append opened rs,
      carried_from (suc e) j,
      carried_append (run e j ∷ []) rs,
      carried_from e (suc j),
    )

module _ {G : Graph} {starts : List ℕ} {W : ℕ} {g : Setting} {s : State} (A : Accepted G starts W g) (S : Sound G starts W g s) where
  own_look : (x b : ℕ) {a n k e j : ℕ} {rs : List Run} → worker s b ≡ busy (from a) n (look k) (run e j ∷ rs)
      → Own g (look_turn x s b (from a) n k e j rs) a b (look k) (run e j ∷ rs)
  own_look zero b q = goes (get_or-set_same s.workers b _ ended (asked_there A S b q)) (omega arith) (λ m. m)
  own_look (suc x) b {k = k} {e} {j} {rs} q =
      own_follow A S b q k (not_claimed s) (onward_runs e j [] rs) (left_carried e j [] rs) (omega (arith, phase_patience k)) refl

  own_busy : (p : Phase) (rs : List Run) (b : ℕ) {a n : ℕ} → worker s b ≡ busy (from a) n p rs
      → Own g (busy_turn p rs G g s b (from a) n) a b p rs
  own_busy poll rs b {a} {n} q = own_answer A S b q (shares g.cutoff n (carried rs)) refl
  own_busy (look k) [] b q = absurd (omega (arith, busy_some A S b q))
  own_busy (look k) (run e j ∷ rs) b q = own_look (mark_of s (target G e)) b q
  own_busy (claim k) [] b q = absurd (omega (arith, busy_some A S b q))
  own_busy (claim k) (run e j ∷ rs) b q =
      let o = claims (mark_of s (target G e)) G s b (target G e) in
      own_follow A S b q k o (onward_runs e j o.opened rs) (left_carried e j o.opened rs) (omega (arith, phase_patience k)) refl

  pub own_turn : (x : Entry) (b : ℕ) {a n : ℕ} {p : Phase} {rs : List Run} → b ≡ x.worker → worker s b ≡ busy (from a) n p rs
      → Own g (turn G g s x) a b p rs
  unfolding turn
  own_turn x b {a} {n} {p} {rs} e q =
      let t : turn G g s x ≡ busy_turn p rs G g s b (from a) n = ap (λ (c : ℕ). worker_turn (worker s c) G g s c x.named) (sym e) ∙ ap (λ (w : Worker). worker_turn w G g s b x.named) q in
      subst (λ (s' : State). Own g s' a b p rs) (sym t) (own_busy p rs b q)

  -- ---- another worker's turn leaves b as it is

  -- workers that differ have different numbers
  apart : (f : Worker → ℕ) (i j : ℕ) {x y : Worker} → worker s i ≡ x → worker s j ≡ y → f x ≢ f y → i ≢ j
  apart f i j q r h e = h (sym (ap f q) ∙ ap (λ (k : ℕ). f (worker s k)) e ∙ ap f r)

  module _ (b : ℕ) {a n : ℕ} {p : Phase} {rs : List Run} (q : worker s b ≡ busy (from a) n p rs) where
    -- one other worker changes, and an asker after it
    other_one : (c : ℕ) (y : Worker) → b ≢ c → get_or (set s.workers c y) b ended ≡ busy (from a) n p rs
    other_one c y h = get_or-set_other s.workers c b y ended h ∙ q

    other_two : (c i : ℕ) (y z : Worker) → b ≢ c → b ≢ i → get_or (set (set s.workers c y) i z) b ended ≡ busy (from a) n p rs
    other_two c i y z h k = get_or-set_other (set s.workers c y) i b z ended k ∙ other_one c y h

    not_asking : (i : ℕ) → worker s i ≡ asking → b ≢ i
    not_asking i r = apart waits b i q r (λ e. omega (arith, e))

    other_follow : (c : ℕ) (cell : Cell) (y : Worker) (rs' : List Run) → b ≢ c → Waiting s cell
        → get_or (dismiss cell rs' (set s.workers c y)) b ended ≡ busy (from a) n p rs
    other_follow c empty y rs' h w = other_one c y h
    other_follow c (from i) y [] h w = other_two c i y denied h (not_asking i w)
    other_follow c (from i) y (r ∷ rs') h w = other_one c y h

    pub other_move : {c : ℕ} {t : List ℕ} {s' : State} → Move G g s c t s' → b ≢ c → worker s' b ≡ busy (from a) n p rs
    other_move (still h) d = q
    other_move (passed r e o h) d = q
    other_move {c} (alone {y = y} r m) d = other_one c y d
    other_move {c} (asked v r m) d = other_two v c _ asking (apart (holds a) b v q r (λ e. omega (arith, e, hit_same a))) d
    other_move {c} (hands i r m h) d = other_two c i _ _ d (not_asking i m)
    other_move {c} (refuses i r m h) d = other_two c i _ denied d (not_asking i m)
    other_move {c} (follow {c = cell} r m w) d = other_follow c cell _ _ d w

-- ---- over lists of turns

module _ {G : Graph} {starts : List ℕ} {W : ℕ} {g : Setting} (A : Accepted G starts W g) where
  -- the reply, where b makes at most its patience of turns
  record Within (s : State) (a b : ℕ) (p : Phase) (rs : List Run) (xs : List Entry) : Type 0 where
    until : List Entry
    later : List Entry
    parts : until ++ later ≡ xs
    own : entries_of b until ≤ patience p
    replied : replied? (worker (turns G g s until) a) ≡ 1
    handed : Rich g p rs → owed? (worker (turns G g s until) a) ≡ 1

  -- one turn before, after which b is no farther from its reply
  further : (s : State) (a b : ℕ) (p p' : Phase) (rs rs' : List Run) (x : Entry) (xs : List Entry) → Within (turn G g s x) a b p' rs' xs
      → hit b x.worker + patience p' ≤ patience p → (Rich g p rs → Rich g p' rs') → Within s a b p rs (x ∷ xs)
  unfolding turns sum
  further s a b p p' rs rs' x xs w l m =
      record {
        until = x ∷ w.until;
        later = w.later;
        parts = ap (λ (ys : List Entry). x ∷ ys) w.parts;
        own = omega (arith, w.own, l);
        replied = w.replied;
        handed = λ r. w.handed (m r);
      }

  -- the same of what the turns behind it bring
  abbrev Further : State → ℕ → ℕ → List Entry → Type 0
  Further s a b xs = (n : ℕ) (p : Phase) (rs : List Run) → worker s b ≡ busy (from a) n p rs → patience p ≤ entries_of b xs → Within s a b p rs xs

  within : {s : State} → Sound G starts W g s → (a b : ℕ) {n : ℕ} {p : Phase} {rs : List Run} → worker s b ≡ busy (from a) n p rs
      → (xs : List Entry) → patience p ≤ entries_of b xs → Within s a b p rs xs
  unfolding turns sum
  within S a b {p = p} q [] h = absurd (omega (arith, patience_least p))
  within {s} S a b {n} {p} {rs} q (x ∷ xs) h =
      let later : Further (turn G g s x) a b xs = λ n p rs q l. within {s = turn G g s x} (sound_turn A S x) a b q xs l in
      by_cases (dec_lt 0 (hit b x.worker))
      (λ (m : 0 < hit b x.worker). by_own later (own_turn A S x b (hit_equal b x.worker m) q))
      (λ (m : ¬ (0 < hit b x.worker)). by_other later m)
    where
      by_own : Further (turn G g s x) a b xs → Own g (turn G g s x) a b p rs → Within s a b p rs (x ∷ xs)
      by_own later (done r d) =
          record {
            until = x ∷ [];
            later = xs;
            parts = refl;
            own = omega (arith, hit_at_most_one b x.worker, patience_least p);
            replied = r;
            handed = d;
          }
      by_own later (goes {n = n'} {q = p'} {rs' = rs'} r l m) =
          let w = later n' p' rs' r (omega (arith, h, l, hit_at_most_one b x.worker)) in
          further s a b p p' rs rs' x xs w (omega (arith, l, hit_at_most_one b x.worker)) m

      by_other : Further (turn G g s x) a b xs → ¬ (0 < hit b x.worker) → Within s a b p rs (x ∷ xs)
      by_other later m =
          let d : b ≢ x.worker = λ e. m (omega (arith, ap (hit b) e, hit_same b)) in
          let w = later n p rs (other_move A S b q (move A S x) d) (omega (arith, h, m)) in
          further s a b p p rs rs x xs w (omega (arith, m)) (λ r. r)

  -- a worker whose cell holds a is busy with it
  asked_reply : {s : State} → Sound G starts W g s → (a b : ℕ) (w : Worker) → worker s b ≡ w → 0 < holds a w → (xs : List Entry)
      → reply_bound g ≤ entries_of b xs → Reply G g s a b (reply_bound g) xs
  asked_reply S a b idle q h xs l = absurd (omega arith)
  asked_reply S a b asking q h xs l = absurd (omega arith)
  asked_reply S a b denied q h xs l = absurd (omega arith)
  asked_reply S a b ended q h xs l = absurd (omega arith)
  asked_reply S a b (given rs) q h xs l = absurd (omega arith)
  asked_reply S a b (busy empty n p rs) q h xs l = absurd (omega arith)
  asked_reply {s} S a b (busy (from c) n p rs) q h xs l =
      let e : worker s b ≡ busy (from a) n p rs = q ∙ ap (λ (i : ℕ). busy (from i) n p rs) (hit_equal c a h) in
      let w = within S a b e xs (omega (arith, l, patience_most p, batch_limit A S b e)) in
      record {
        until = w.until;
        later = w.later;
        parts = w.parts;
        own = omega (arith, w.own, patience_most p, batch_limit A S b e);
        replied = w.replied;
        handed = λ r. w.handed (omega (arith, r, ap carried_by e, batch_limit A S b e));
      }

-- ---- a round-robin loop

-- the numbers from f on, counted
listing_hits : (b f k : ℕ) → sum (hit b) (listing itself f k) ≡ span (hit b) f k
unfolding sum listing span
listing_hits b f zero = refl
listing_hits b f (suc k) = ap (λ (i : ℕ). hit b f + i) (listing_hits b (suc f) k)

laps_length : (W q : ℕ) → length (laps W q) ≡ q * W
unfolding laps
laps_length W zero = omega arith
laps_length W (suc q) = length-append (listing itself 0 W) (laps W q) ∙ omega (arith, laps_length W q, listing_length itself 0 W)

-- each lap has a turn of each worker
laps_hits : (W q b : ℕ) → b < W → sum (hit b) (laps W q) ≡ q
unfolding laps sum
laps_hits W zero b h = refl
laps_hits W (suc q) b h =
    omega (arith, sum_append (hit b) (listing itself 0 W) (laps W q), listing_hits b 0 W, span_hit_one b 0 W (omega arith) (omega arith), laps_hits W q b h)

-- behind a's turn each other worker has one turn more
behind_hits : (W a q b : ℕ) → a < W → b < W → b ≢ a → suc q ≤ sum (hit b) (behind W a q)
unfolding behind
behind_hits W a q b h k d =
    let rest = listing itself (suc a) (W - suc a) in
    let round = listing itself 0 a in
    let all : sum (hit b) (rest ++ (laps W q ++ round)) ≡ span (hit b) (suc a) (W - suc a) + q + span (hit b) 0 a =
    omega (
      arith,
      sum_append (hit b) rest (laps W q ++ round),
      sum_append (hit b) (laps W q) round,
      listing_hits b (suc a) (W - suc a),
      listing_hits b 0 a,
      laps_hits W q b k,
    ) in
    by_cases (dec_lt b a)
    (λ (p : b < a). omega (arith, all, span_hit_one b 0 a (omega arith) (omega arith)))
    (λ (p : ¬ (b < a)). omega (arith, all, span_hit_one b (suc a) (W - suc a) (omega (arith, d)) (omega arith)))

behind_length : (W a q : ℕ) → a < W → suc (length (behind W a q)) ≡ W * suc q
unfolding behind
behind_length W a q h =
    let rest = listing itself (suc a) (W - suc a) in
    let round = listing itself 0 a in
    omega (
      arith,
      length-append rest (laps W q ++ round),
      length-append (laps W q) round,
      listing_length itself (suc a) (W - suc a),
      listing_length itself 0 a,
      laps_length W q,
    )

-- the turns of b, counted by their workers
own_hits : (b : ℕ) (xs : List Entry) → entries_of b xs ≡ sum (hit b) (workers_of xs)
unfolding sum
own_hits b [] = refl
own_hits b (x ∷ xs) = ap (λ (i : ℕ). hit b x.worker + i) (own_hits b xs)

module _ {G : Graph} {starts : List ℕ} {W : ℕ} {g : Setting} {s : State} (A : Accepted G starts W g) (S : Sound G starts W g s) where
  -- a worker that is asked is below W, and another than the asker
  asked_apart : (a b : ℕ) (w : Worker) → worker s b ≡ w → 0 < holds a w → (a < W) × (b < W) × (b ≢ a)
  asked_apart a b idle q h = absurd (omega arith)
  asked_apart a b asking q h = absurd (omega arith)
  asked_apart a b denied q h = absurd (omega arith)
  asked_apart a b ended q h = absurd (omega arith)
  asked_apart a b (given rs) q h = absurd (omega arith)
  asked_apart a b (busy empty n p rs) q h = absurd (omega arith)
  asked_apart a b (busy (from c) n p rs) q h =
      let e = hit_equal c a h in
      (rw e at (asker_below A S b q), busy_below A S b q, λ d. asker_other A S b q (e ∙ sym d))

  pub waits_all : Waits G W g s
  waits_all =
      record {
        replies = λ a b h xs l. asked_reply A S a b (worker s b) refl h xs l;
        in_a_loop = λ a b h xs e.
            let d = asked_apart a b (worker s b) refl h in
            let l = behind_hits W a (2 * g.batch) b d.0 d.1 d.2 in
            asked_reply A S a b (worker s b) refl h xs (omega (arith, own_hits b xs, ap (sum (hit b)) e, l));
        loop_length = λ a h. omega (arith, behind_length W a (2 * g.batch) h);
      }

-- after any turns of a call
pub waits_fresh : {G : Graph} {starts : List ℕ} {W : ℕ} {g : Setting} → Accepted G starts W g → (xs : List Entry) → Waits G W g (outcome G starts W g xs)
waits_fresh A xs = waits_all A (sound A xs)
