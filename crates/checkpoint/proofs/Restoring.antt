-- A worker's block from its saved words: the uppermost pair of the stretch is the run to be followed first.
use mathlib.Core.Path.{◌≡◌, refl, ap, sym, ◌∙◌}
use mathlib.Core.List.{List, [], ◌∷◌, ◌++◌, append_assoc}
use Prim.Native.Nat.{ℕ, suc, ◌+◌, ◌-◌, ◌*◌, ◌≤◌, ◌<◌, ◌^◌}
use mathlib.Core.Logic.{by_cases}
use native.Mathlib.Decide.{dec_lt}
use native.Mathlib.Omega.{arith}
use lib.ListN.{length, get_or, take, drop, replicate}
use lib.Seq.{get_or-append-add, get_or_at, take_at}
use Rattle.graph.specs.Graph.{Graph, objects}
use Rattle.desk.specs.Lengths.{stretch_length}
use Rattle.machine.specs.Run.{Run, run, carried, pairs}
use Rattle.machine.specs.Machine.{Worker, idle, asking, denied, ended, given, busy, runs_of, carried_by, stretch}
use Rattle.machine.specs.Sound.{batch_in, Supplied}
use Rattle.worker.specs.declared.registers.Block.{Block}
use Rattle.worker.specs.Registers.{status_given, store_at}
use Rattle.worker.specs.Stretch.{top_with, Told}
use Rattle.worker.proofs.Blocks.{store_stored}
use Rattle.worker.proofs.Pairs.{length_pairs}
use Rattle.step.specs.Held.{stretch_at, BlockIs, RestIs}
use Rattle.saved.specs.Layout.{worker_words, runs_in}
use Rattle.saved_theorems.proofs.RoundTrip.{runs_stretch, stretch_length_lem}
use Rattle.saved.specs.declared.WorkerWords.{WorkerWords}
use Rattle.checkpoint.specs.Workers.{listed, Measured, Restorable, Restores, saved_at, AllRestorable, Restored}

-- ---- the uppermost pair of a stretch

module _ (n : ℕ) (w : Worker) (f j : ℕ) (rs : List Run) (is : runs_of w ≡ run f j ∷ rs) (room : length (runs_of w) ≤ suc n) where
  below_words : stretch n w ≡ pairs rs ++ (f ∷ (f + suc j) ∷ replicate (stretch_length n - length (pairs (runs_of w))) 0)
  unfolding stretch pairs
  below_words = rw is (append_assoc (pairs rs) (f ∷ (f + suc j) ∷ []) (replicate (stretch_length n - length (pairs (run f j ∷ rs))) 0))

  pub top_room : 2 * length rs + 2 ≤ length (stretch n w)
  top_room = omega (arith, stretch_length_lem n w room, ap length is)

  pub top_first : get_or (stretch n w) (2 * length rs) 0 ≡ f
  top_first = rw below_words (get_or_at (pairs rs) f _ 0 (2 * length rs) (length_pairs rs))

  pub top_end : get_or (stretch n w) (2 * length rs + 1) 0 ≡ f + suc j
  top_end =
      let tail = replicate {A = ℕ} (stretch_length n - length (pairs (runs_of w))) 0 in
      let e : 2 * length rs + 1 ≡ length (pairs rs) + 1 = omega (arith, length_pairs rs) in
      rw (below_words, e) (get_or-append-add (pairs rs) (f ∷ (f + suc j) ∷ tail) 1 0)

  pub top_told : Told (run f j ∷ rs) (top_with (2 * length rs) f (f + suc j)) (stretch n w)
  top_told =
      record {
        top = refl;
        holds =
            record {
              words = rw below_words (take_at (pairs rs) _ (2 * length rs) (length_pairs rs));
              count = refl;
              room = omega (arith, top_room);
            };
      }

-- ---- what is measured of a stretch

module _ {G : Graph} {u : Worker} {rested : ℕ} {targets s : List ℕ} {w : WorkerWords} (x : Restorable G u rested targets s w) where
  -- the stretch's runs are the worker's
  pub runs_are : runs_in s ≡ runs_of u
  runs_are = rw x.stretch_is (runs_stretch (objects G) u)

  pub long : length s ≡ stretch_length (objects G)
  long = rw x.stretch_is (stretch_length_lem (objects G) u x.room)

  -- word k
  word : (k : ℕ) → get_or (listed w) k 0 ≡ get_or (worker_words u rested) k 0
  word k = ap (λ (l : List ℕ). get_or l k 0) x.words_are

  -- its runs can be measured
  pub measurable : (carried (runs_in s) < 2 ^ 32) × (length s < 2 ^ 32)
  measurable = (omega (arith, ap carried runs_are, x.carried_limit), omega (arith, long, x.few))

  -- one whose status is `given` or above has runs
  pub record Loaded : Type 0 where
    pub first : ℕ
    pub more : ℕ
    pub below : List Run
    pub runs : runs_of u ≡ run first more ∷ below

  pub loaded : status_given ≤ w.status → Loaded
  loaded h = by u refl (word 0) x.supplied
    where
      some : (rs : List Run) → 0 < length rs → runs_of u ≡ rs → Loaded
      some [] l e = absurd (omega arith)
      some (run f j ∷ rs) l e = record { first = f; more = j; below = rs; runs = e }

      by : (v : Worker) → u ≡ v → w.status ≡ get_or (worker_words v rested) 0 0 → Supplied u → Loaded
      by idle e p t = absurd (omega (arith, h, p))
      by asking e p t = absurd (omega (arith, h, p))
      by denied e p t = absurd (omega (arith, h, p))
      by ended e p t = absurd (omega (arith, h, p))
      by (given rs) e p t = some rs (rw e at t) (ap runs_of e)
      by (busy c k i rs) e p t = some rs (rw e at t) (ap runs_of e)

  -- the block that is made of the saved words, where the runs take so many words and hold so many references
  abbrev pub block_with : ℕ → ℕ → Block
  block_with words many =
      record {
        status = w.status;
        batch = w.batch;
        cell = w.cell;
        since = w.since + w.batch;
        carried = many - w.batch;
        used = words - 2;
        first = get_or s (words - 2) 0;
        end = get_or s (words - 2 + 1) 0;
        target = get_or targets (get_or s (words - 2) 0) 0;
      }

  module _ (l : Loaded) {words many : ℕ} (m : Measured s words many) where
    abbrev n : ℕ
    n = objects G

    pub many_are : many ≡ carried_by u
    many_are = m.references_are ∙ ap carried runs_are

    pub words_are : words ≡ 2 * length l.below + 2
    words_are = omega (arith, m.words_are, ap length runs_are, ap length l.runs)

    used_is : words - 2 ≡ 2 * length l.below
    used_is = omega (arith, words_are)

    pub first_is : get_or s (words - 2) 0 ≡ l.first
    first_is = rw (used_is, x.stretch_is) (top_first n u l.first l.more l.below l.runs x.room)

    end_is : get_or s (words - 2 + 1) 0 ≡ l.first + suc l.more
    end_is = rw (used_is, x.stretch_is) (top_end n u l.first l.more l.below l.runs x.room)

    pub top_fits : words ≤ length s
    top_fits = rw x.stretch_is (omega (arith, words_are, top_room n u l.first l.more l.below l.runs x.room))

    pub first_low : get_or s (words - 2) 0 < length targets
    first_low = rw (first_is, x.targets_are) (omega (arith, (rw l.runs at x.inside).0))

    pub batch_low : w.batch ≤ many
    batch_low = omega (arith, many_are, x.batch_carried, batch u (word 3))
      where
        batch : (v : Worker) → w.batch ≡ get_or (worker_words v rested) 3 0 → w.batch ≡ batch_in v
        batch idle p = p
        batch asking p = p
        batch denied p = p
        batch ended p = p
        batch (given rs) p = p
        batch (busy c k i rs) p = p

    told : (rs : List Run) → runs_of u ≡ rs → Told rs (top_with (words - 2) (get_or s (words - 2) 0) (get_or s (words - 2 + 1) 0)) s
    told rs e =
        rw (sym e ∙ l.runs, first_is, end_is, used_is, x.stretch_is)
        (top_told n u l.first l.more l.below l.runs x.room)

    -- a worker with a run is none that has none
    none : {A : Type 0} → runs_of u ≡ [] → A
    none e = let z : ◌≡◌ {A = List Run} [] (run l.first l.more ∷ l.below) = sym e ∙ l.runs in absurd (omega (arith, ap length z))

    pub heavy : BlockIs G u (block_with words many) s × RestIs u rested (block_with words many)
    heavy = by u refl (word 0) (word 1) (word 2) (word 3)
      where
        r : Block
        r = block_with words many

        by : (v : Worker) → u ≡ v → w.status ≡ get_or (worker_words v rested) 0 0 → w.cell ≡ get_or (worker_words v rested) 1 0
            → w.since ≡ get_or (worker_words v rested) 2 0 → w.batch ≡ get_or (worker_words v rested) 3 0
            → BlockIs G u r s × RestIs u rested r
        by idle e a b c d = none (ap runs_of e)
        by asking e a b c d = none (ap runs_of e)
        by denied e a b c d = none (ap runs_of e)
        by ended e a b c d = none (ap runs_of e)
        by (given rs) e a b c d =
            rw e (
              (a, record { number = omega (arith, many_are, d, ap carried_by e); told = told rs (ap runs_of e) }),
              omega (arith, c, d),
            )
        by (busy y k i rs) e a b c d =
            rw e (
              record {
                status = a;
                cell = b;
                since = omega (arith, c, d);
                batch = d;
                carrying = record { number = omega (arith, many_are, batch_low, d, ap carried_by e); told = told rs (ap runs_of e) };
                target = rw (first_is, x.targets_are, sym (ap runs_of e) ∙ l.runs) refl;
              },
              tt,
            )

-- ---- all workers

module _ {targets words stretches regs₀ : List ℕ} {W L : ℕ} (x : AllRestorable targets words stretches regs₀ W L) where
  -- the blocks of the first k workers are there
  pub record Taking (k : ℕ) (regs : List ℕ) : Type 0 where
    pub long : length regs ≡ length regs₀
    pub done : Restored x.graph x.workers x.rested stretches regs L k

  module _ {k : ℕ} (low : k < W) where
    pub part_is : {e : ℕ} → e ≡ k * L + L → take (e - k * L) (drop (k * L) stretches) ≡ stretch_at L k stretches
    part_is {e} end = let m : e - k * L ≡ L = omega (arith, end) in ap (λ (m : ℕ). take m (drop (k * L) stretches)) m

    pub taking_next : {regs : List ℕ} (r : Block) → Taking k regs
        → BlockIs x.graph (get_or x.workers k ended) r (stretch_at L k stretches) × RestIs (get_or x.workers k ended) (get_or x.rested k 0) r
        → Taking (k + 1) (store_at regs k r)
    taking_next {regs} r t is =
        let st = store_stored regs k (omega (arith, t.long, x.regs_long)) r in
        record {
          long = st.long ∙ t.long;
          done =
              record {
                blocks = λ (b : ℕ) (h : b < k + 1).
                    by_cases (dec_lt b k)
                    (λ (p : b < k). rw (st.others b (λ (e : b ≡ k). omega arith)) (t.done.blocks b p))
                    (λ (p : ¬ (b < k)). let e : b ≡ k = omega arith in rw (e, st.here) is.0);
                sinces = λ (b : ℕ) (h : b < k + 1).
                    by_cases (dec_lt b k)
                    (λ (p : b < k). rw (st.others b (λ (e : b ≡ k). omega arith)) (t.done.sinces b p))
                    (λ (p : ¬ (b < k)). let e : b ≡ k = omega arith in rw (e, st.here) is.1);
              };
        }

    -- the part that is lent goes up to e, and w are the words that were read
    module _ {e : ℕ} (end : e ≡ k * L + L) {w : WorkerWords} (is : w ≡ saved_at words k) where
      lent : Restorable x.graph (get_or x.workers k ended) (get_or x.rested k 0) targets (take (e - k * L) (drop (k * L) stretches)) w
      lent = rw (part_is end, is) (x.each k low)

      pub one_restored : {regs regs' : List ℕ} (r : Block) → Restores targets (take (e - k * L) (drop (k * L) stretches)) w r → Taking k regs
          → regs' ≡ store_at regs k r → Taking (k + 1) regs'
      one_restored r done t put =
          rw put
          (taking_next r t
          (rw (part_is end) at (done x.graph (get_or x.workers k ended) (get_or x.rested k 0) lent)))

  pub taking_all : {k : ℕ} {regs : List ℕ} → Taking k regs → W ≤ k → Restored x.graph x.workers x.rested stretches regs L W
  taking_all t h =
      record { blocks = λ b p. t.done.blocks b (omega arith); sinces = λ b p. t.done.sinces b (omega arith) }
