-- A saved collection taken up: part by part the memories are those of the state that the words hold.
use mathlib.Core.Path.{◌≡◌, refl, ap, sym, ◌∙◌}
use mathlib.Core.List.{List, [], ◌∷◌}
use Prim.Native.Nat.{ℕ, suc, ◌+◌, ◌-◌, ◌*◌, ◌≤◌, ◌<◌}
use native.Mathlib.Nat.{zero-add}
use native.Mathlib.Omega.{arith}
use lib.ListN.{length, get_or, take, drop}
use Rattle.laws.specs.Blocks.{laid}
use Rattle.laws.specs.Span.{span}
use Rattle.laws.specs.Sum.{sum}
use Rattle.laws.proofs.Blocks.{laid_part}
use Rattle.laws.proofs.Sum.{sum_share}
use Rattle.graph.specs.Graph.{objects}
use Rattle.desk.specs.Limits.{most_workers}
use Rattle.desk.specs.Lengths.{stretch_length, counts_number, counts_place, workers_place, worker_word_count, tallies_place, marks_place, stretches_place, saved_length}
use Rattle.machine.specs.declared.Counts.{Counts}
use Rattle.machine.specs.Row.{count_words}
use Rattle.machine.specs.Tally.{Tally, tallies_words}
use Rattle.machine.specs.Machine.{State, Worker, idle, asking, denied, ended, given, busy, poll, look, claim, worker, stretch, memory as laid_memory}
use Rattle.machine.specs.Sound.{since_of, Sound}
use Rattle.theorems.proofs.Facts.{runs_room, runs_limit, carried_limit, followed_limit, live_below}
use Rattle.worker.specs.Registers.{block_at}
use Rattle.step.specs.declared.Setup.{Setup}
use Rattle.step.specs.declared.Progress.{Progress}
use Rattle.step.specs.declared.ring.Ring.{Ring}
use Rattle.step.specs.Ringing.{ring_of}
use Rattle.step.specs.Counting.{running?, counts_of}
use Rattle.step.specs.Held.{memory, stretch_at, setting_of, Holds}
use Rattle.saved.specs.Layout.{worker_words, workers_words, saved_words, Shaped}
use Rattle.saved_theorems.proofs.Kept.{shaped}
use Rattle.saved_theorems.proofs.RoundTrip.{saved_length_lem, records_told, tallies_told, tallies_count, counts_told, marks_told, stretches_told, stretches_long, workers_word, workers_long, stretch_length_lem}
use Rattle.checkpoint.specs.Copies.{numbers_of, Bytes, Prefix}
use Rattle.checkpoint.specs.Restoring.{runs?, running_in, ring_from, Telling, progress_from, part_of, Resumable}
use Rattle.checkpoint.specs.Workers.{listed, saved_at, Restorable, AllRestorable, AllRestored, Puttable, RunsPut}
use Rattle.checkpoint.proofs.Numbers.{numbers_back}
use Rattle.checkpoint.proofs.Parts.{part_lent}
use Rattle.checkpoint.proofs.Putting.{block_kept}

-- four words are all of a worker's
four_words : (v : Worker) (n : ℕ)
    → get_or (worker_words v n) 0 0 ∷ get_or (worker_words v n) 1 0 ∷ get_or (worker_words v n) 2 0 ∷ get_or (worker_words v n) 3 0 ∷ [] ≡ worker_words v n
four_words idle n = refl
four_words asking n = refl
four_words denied n = refl
four_words ended n = refl
four_words (given rs) n = refl
four_words (busy c k p rs) n = refl

-- whether a worker has ended, by its first word
runs_told : (v : Worker) (n : ℕ) → runs? (get_or (worker_words v n) 0 0) ≡ running? v
runs_told idle n = refl
runs_told asking n = refl
runs_told denied n = refl
runs_told ended n = refl
runs_told (given rs) n = refl
runs_told (busy c k poll rs) n = refl
runs_told (busy c k (look i) rs) n = refl
runs_told (busy c k (claim i) rs) n = refl

-- a sum over places is the sum over the list
span_sum : (f : Worker → ℕ) (g : ℕ → ℕ) (ws : List Worker) (k : ℕ) → ((b : ℕ) → b < length ws → g (k + b) ≡ f (get_or ws b ended))
    → span g k (length ws) ≡ sum f ws
unfolding span sum
span_sum f g [] k h = refl
span_sum f g (w ∷ ws) k h =
    let z : k + 0 ≡ k = omega arith in
    let here : g k ≡ f w = rw z at (h 0 (omega arith)) in
    let rest = span_sum f g ws (suc k) (λ b p. let e : suc k + b ≡ k + suc b = omega arith in ap g e ∙ h (suc b) (omega arith)) in
    omega (arith, here, rest)

-- what the saved counts and the tallies make are the counts
added : (c : Counts) (ts : List Tally) (running : ℕ) (ring : Ring) → sum (λ (t : Tally). t.won) ts ≤ c.live → sum (λ (t : Tally). t.followed) ts ≡ c.followed
    → sum (λ (t : Tally). t.handed) ts ≡ c.handed → counts_of (progress_from (count_words c) ts running ring) ts ≡ c
added c ts running ring h f d =
    let l : c.live - sum (λ (t : Tally). t.won) ts + sum (λ (t : Tally). t.won) ts ≡ c.live = omega arith in rw (l, f, d) refl

module _ {targets : List ℕ} {g : Setup} {w marks work tallies regs : List ℕ} (x : Resumable targets g w marks work tallies regs) where
  abbrev n : ℕ
  n = objects x.graph

  abbrev W : ℕ
  W = g.workers

  abbrev s : State
  s = x.state

  pub S : Sound x.graph x.starts g.workers (setting_of g) x.state
  S = x.run.saved.sound

  pub shape : Shaped (objects x.graph) g.workers x.state
  shape = shaped x.accepted S

  pub long : length w ≡ saved_length (objects x.graph) g.workers
  long = ap length x.run.words_are ∙ saved_length_lem shape

  pub few : g.workers ≤ most_workers
  few = x.accepted.workers_limit

  -- ---- the parts

  pub numbers_are : numbers_of (part_of counts_place (2 * counts_number) w) counts_number ≡ count_words x.state.counts
  numbers_are = rw (x.run.words_are, counts_told shape) (numbers_back (count_words s.counts) counts_number refl)

  pub tallies_are : {at : ℕ} → at ≡ tallies_place g.workers → numbers_of (part_of at (2 * length tallies) w) (length tallies) ≡ tallies_words x.state.tallies
  tallies_are p =
      let e : 2 * length tallies ≡ 8 * W = omega (arith, x.tallies_long) in
      rw (p, e, x.run.words_are, tallies_told shape) (numbers_back (tallies_words s.tallies) (length tallies) (omega (arith, tallies_count shape, x.tallies_long)))

  pub marks_are : {at : ℕ} → at ≡ marks_place g.workers → part_of at (length marks) w ≡ x.state.marks
  marks_are p = rw (p, x.marks_long, x.run.words_are) (marks_told shape)

  pub marks_bytes : {at : ℕ} → at ≡ marks_place g.workers → Bytes (part_of at (length marks) w)
  marks_bytes p i = rw (marks_are p) (omega (arith, S.marks_limit i, few))

  -- the stretches stand last
  pub work_room : length w - length work ≡ stretches_place (objects x.graph) g.workers
  work_room = omega (arith, long, x.work_long, ap (λ (l : ℕ). W * l) x.stretch_is)

  pub work_is : drop (length w - length work) w ≡ laid_memory (objects x.graph) x.state.workers
  work_is = rw (work_room, x.run.words_are) (stretches_told shape)

  -- the workers' words, as they are lent
  pub records_lent : {at : ℕ} → at ≡ tallies_place g.workers
      → take (at - workers_place) (drop workers_place w) ≡ workers_words x.state.workers x.state.rested
  records_lent p = rw p (part_lent w workers_place (worker_word_count * W) ∙ rw x.run.words_are (records_told shape))

  ring_told : ring_from w ≡ ring_of x.state.ring
  unfolding saved_words laid
  ring_told = rw x.run.words_are refl

  -- ---- the registers

  module _ {words stretches : List ℕ} (ew : words ≡ workers_words s.workers s.rested) (es : stretches ≡ laid_memory n s.workers) where
    word_at : (b k : ℕ) → b < W → k < worker_word_count → get_or words (worker_word_count * b + k) 0 ≡ get_or (worker_words (worker s b) (get_or s.rested b 0)) k 0
    word_at b k h i = rw ew (workers_word s.workers s.rested b k (omega (arith, S.sized.workers_length)) i)

    listed_are : (b : ℕ) → b < W → listed (saved_at words b) ≡ worker_words (worker s b) (get_or s.rested b 0)
    listed_are b h =
        rw (word_at b 0 h (omega arith), word_at b 1 h (omega arith), word_at b 2 h (omega arith), word_at b 3 h (omega arith))
        (four_words (worker s b) (get_or s.rested b 0))

    stretch_are : (b : ℕ) → b < W → stretch_at g.stretch b stretches ≡ stretch n (worker s b)
    unfolding laid_memory
    stretch_are b h =
        let here : stretch_at (stretch_length n) b (laid_memory n s.workers) ≡ stretch n (worker s b) =
        laid_part (stretch n) (stretch_length n) ended s.workers b (λ (i : ℕ). stretch_length_lem n (worker s i) (runs_room x.accepted S i))
        (omega (arith, S.sized.workers_length)) in
        ap (λ (l : ℕ). stretch_at l b stretches) x.stretch_is ∙ ap (λ (l : List ℕ). stretch_at (stretch_length n) b l) es ∙ here

    one : (b : ℕ) → b < W
        → Restorable x.graph (worker s b) (get_or s.rested b 0) targets (stretch_at g.stretch b stretches) (saved_at words b)
    one b h =
        record {
          words_are = listed_are b h;
          stretch_is = stretch_are b h;
          targets_are = x.targets_are;
          few = x.objects_limit;
          supplied = S.supplied b;
          room = runs_room x.accepted S b;
          inside = runs_limit x.accepted S b;
          batch_carried = S.batch_carried b;
          carried_limit = omega (arith, carried_limit x.accepted S b, x.references_limit);
          since_limit =
              omega (
                arith,
                sum_share since_of ended refl s.workers b,
                S.since_followed,
                followed_limit x.accepted S,
                x.references_limit,
              );
        }

    pub all_restorable : AllRestorable targets words stretches regs g.workers g.stretch
    all_restorable =
        record {
          graph = x.graph;
          workers = s.workers;
          rested = s.rested;
          few = few;
          small = omega (arith, x.stretch_is, x.objects_limit);
          words_long = ap length ew ∙ workers_long shape;
          stretches_long = ap length es ∙ stretches_long shape ∙ ap (λ (l : ℕ). W * l) (sym x.stretch_is);
          regs_long = x.regs_long;
          each = one;
        }

    -- the words of the runs are there, in stretches of that length
    kept : {regs' work' : List ℕ} → RunsPut stretches regs' W g.stretch work' → (b : ℕ) → b < W
        → (block_at regs' b).used ≤ length (stretch_at g.stretch b stretches)
        → Prefix (stretch_at g.stretch b stretches) (block_at regs' b).used (stretch_at g.stretch b work')
    kept put b h u =
        put.each b h
        (omega (arith, u, ap length (stretch_are b h), stretch_length_lem n (worker s b) (runs_room x.accepted S b), x.stretch_is))

    -- what is put
    pub puttable : {regs' : List ℕ} → length regs' ≡ length regs → Puttable stretches regs' work W g.stretch
    puttable e =
        record {
          few = few;
          small = all_restorable.small;
          stretches_long = all_restorable.stretches_long;
          regs_long = e ∙ x.regs_long;
          work_long = x.work_long;
        }

    -- ---- how far it is

    pub running_is : running_in words g.workers ≡ sum running? x.state.workers
    running_is =
        rw (← S.sized.workers_length)
        (span_sum running? (λ (b : ℕ). runs? (get_or words (4 * b) 0)) s.workers 0
        (λ b h.
        let z : 4 * b + 0 ≡ 4 * b = omega arith in
        let first = rw z at (word_at b 0 (omega (arith, S.sized.workers_length)) (omega arith)) in
        rw (zero-add b, first) (runs_told (worker s b) (get_or s.rested b 0))))

    module _ {numbers tallies' : List ℕ} (en : numbers ≡ count_words s.counts) (et : tallies' ≡ tallies_words s.tallies) where
      pub telling : Telling numbers tallies' g.workers
      telling =
          record {
            tallies = s.tallies;
            words_are = et;
            count = S.sized.tallies_length;
            few = few;
            numbers_long = ap length en;
            small = rw en (omega (arith, live_below x.accepted S, S.live_is, x.objects_limit));
            won_live = rw en (omega (arith, S.tallies_won));
          }

      counted : (ring : Ring) → counts_of (progress_from numbers s.tallies (running_in words W) ring) s.tallies ≡ s.counts
      counted ring =
          ap (λ (l : List ℕ). counts_of (progress_from l s.tallies (running_in words W) ring) s.tallies) en
          ∙ added s.counts s.tallies (running_in words W) ring (omega (arith, S.tallies_won)) S.tallies_followed S.tallies_handed

      pub all_held : {marks' work' regs' : List ℕ} {p : Progress} → marks' ≡ s.marks → RunsPut stretches regs' W g.stretch work'
          → AllRestored targets words stretches regs W g.stretch regs'
          → {k : ℕ} → k ≡ running_in words W → {ring : Ring} → ring ≡ ring_from w → ((y : Telling numbers tallies' W) → p ≡ progress_from numbers y.tallies k ring)
          → Holds x.graph g x.state (memory marks' work' tallies' regs' p)
      unfolding all_restorable telling
      all_held {work' = work'} {regs'} em put r ek er ep =
          let d = r.done all_restorable in
          rw (ep telling, ek, er)
          (record {
            marks_are = em;
            tallies_are = et;
            counts_are = counted (ring_from w);
            running_is = running_is;
            ring_is = ring_told;
            regs_long = r.long ∙ x.regs_long;
            work_long = put.long;
            each = λ b h. block_kept (block_at regs' b) (kept put b h) x.graph (worker s b) (d.blocks b h);
            rests = d.sinces;
          })
