-- Polls: a batch begins, an asker is refused, and references are shared.
use mathlib.Core.Path.{◌≡◌, refl, sym, ap, ◌∙◌}
use mathlib.Core.Bool.{Bool, true, false}
use mathlib.Core.Logic.{◌≢◌}
use mathlib.Core.List.{List, [], ◌∷◌}
use Prim.Native.Nat.{ℕ, zero, suc, ◌+◌, ◌-◌, ◌≤◌, ◌<◌, ◌^◌, min}
use native.Mathlib.Omega.{arith}
use lib.ListN.{length}
use lib.Seq.{get_or-set_other}
use lib.Dec.{ltb}
use Rattle.laws.specs.Choice.{pick}
use Rattle.laws.specs.Every.{Every}
use Rattle.graph.specs.Graph.{Graph, target}
use Rattle.machine.specs.Run.{Run, run, run_from, carried, keep, half}
use Rattle.machine.specs.Tally.{tally}
use Rattle.machine.specs.Machine.{State, asking, denied, busy, Cell, empty, from, poll, phase, worker, giver, receiver, answer, shares}
use Rattle.theorems.proofs.Facts.{busy_below, busy_carried, busy_carried_limit, since_limit, followed_limit, asker_asking, asker_below, asker_other}
use Rattle.theorems.proofs.Rested.{written_there}
use Rattle.theorems.proofs.Runs.{halves}
use Rattle.theorems.proofs.Step.{phase_batch, share_pays}
use Rattle.worker.specs.declared.stretch.Top.{Top}
use Rattle.worker.specs.Registers.{block_at, put_at, store_at, Word, word, begin_words, puts_at, Stored}
use Rattle.worker.specs.declared.registers.Block.{Block}
use Rattle.worker.proofs.Blocks.{put_stored, puts_stored, store_stored}
use Rattle.worker.specs.Status.{phase_word}
use Rattle.step.specs.declared.Setup.{Setup}
use Rattle.step.specs.declared.Progress.{Progress}
use Rattle.machine.specs.Ring.{blackened}
use Rattle.step.specs.declared.ring.Ring.{Ring as Words}
use Rattle.step.specs.Counting.{moved_on, with_ring}
use Rattle.step.specs.Ringing.{ring_of}
use Rattle.poll.specs.Polling.{batched_block, shared_block, given_block}
use Rattle.worker.specs.Stretch.{Sharing}
use Rattle.step.specs.Held.{memory, setting_of, stretch_at, next_target, top_of, BusyIs, Holds, Scene}
use Rattle.step.specs.Turned.{turned, Ready}
use Rattle.poll.specs.Polling.{IsPolling, IsAsked}
use Rattle.poll.specs.Dividing.{Dividing, Divided}
use Rattle.step.proofs.Bounds.{block_room, stretch_room}
use Rattle.step.proofs.Counting.{moved_counts, shared_counts}
use Rattle.step.specs.Raising.{raised_words}
use Rattle.step.proofs.Raising.{there, raised_held}
use Rattle.step.proofs.Each.{all_same, hold_one, hold_two}
use Rattle.step.proofs.Turned.{turn_as}

-- the words of a batch that begins with this block, and the registers then
abbrev pub batch_words : Setup → Block → List Word
batch_words g r = begin_words (min g.batch r.carried) (r.since + min g.batch r.carried) (r.carried - min g.batch r.carried)

abbrev pub begun : Setup → List ℕ → ℕ → List ℕ
begun g regs b = puts_at regs b (batch_words g (block_at regs b))

-- the same, and the cell empties
abbrev pub emptied : Setup → List ℕ → ℕ → List ℕ
emptied g regs b = puts_at regs b (word 2 0 ∷ batch_words g (block_at regs b))

-- a batch that is not over is a look
phase_look : (k : ℕ) → 0 < k → 6 ≡ phase_word (phase k)
phase_look zero h = absurd (omega arith)
phase_look (suc k) h = refl

module _ {G : Graph} {g : Setup} {s : State} {marks work tallies regs : List ℕ} {p : Progress} (c : Scene G g s) (h : Holds G g s (memory marks work tallies regs p)) where
  long : length s.workers ≡ g.workers
  long = c.sound.sized.workers_length

  module _ (b : ℕ) {cell : Cell} {n : ℕ} {rs : List Run} (e : worker s b ≡ busy cell n poll rs) where
    pub poll_low : b < g.workers
    poll_low = busy_below c.accepted c.sound b e

    pub poll_is : BusyIs G cell n poll rs (block_at regs b) (stretch_at g.stretch b work)
    poll_is = rw e at (h.each b poll_low)

    -- no batch is begun
    pub poll_carried : (block_at regs b).carried ≡ carried rs
    poll_carried = omega (arith, poll_is.carrying.number)

    pub poll_since : (block_at regs b).since ≡ n
    poll_since = omega (arith, poll_is.since)

    -- a batch can be added to since
    pub batch_fits : (block_at regs b).since + min g.batch (block_at regs b).carried < 2 ^ 32
    batch_fits =
        omega (
          arith,
          poll_since,
          poll_carried,
          since_limit c.accepted c.sound b e,
          followed_limit c.accepted c.sound,
          busy_carried_limit c.accepted c.sound b e,
          c.references_limit,
        )

    -- the block with a batch begun
    batched_is : BusyIs G empty n (phase (min g.batch (carried rs))) rs (batched_block (block_at regs b) (min g.batch (block_at regs b).carried))
        (stretch_at g.stretch b work)
    batched_is =
        let t = poll_is in
        let some : 0 < min g.batch (carried rs) = omega (arith, c.accepted.some_batch, busy_carried c.accepted c.sound b e) in
        let number = poll_carried in
        let k : min g.batch (block_at regs b).carried ≡ min g.batch (carried rs) = ap (λ (k : ℕ). min g.batch k) number in
        let batch = phase_batch (min g.batch (carried rs)) in
        record {
          status = phase_look (min g.batch (carried rs)) some;
          cell = refl;
          since = omega (arith, t.since, k, batch);
          batch = k ∙ sym batch;
          carrying = record { number = omega (arith, number, k, batch); told = t.carrying.told };
          target = t.target;
        }

    batched_stored : Stored regs b (batched_block (block_at regs b) (min g.batch (block_at regs b).carried)) (emptied g regs b)
    batched_stored =
        puts_stored regs b (block_room c h b poll_low).long (word 2 0 ∷ batch_words g (block_at regs b))
        (omega arith, (omega arith, (omega arith, (omega arith, (omega arith, tt)))))

  -- nobody asks: four words of the block change
  pub holds_polled : (b v : ℕ) {n : ℕ} {rs : List Run} → worker s b ≡ busy empty n poll rs
      → Holds G g (turned g b v G s)
      (memory marks work tallies (begun g regs b) (moved_on p 0 0))
  holds_polled b v {n} {rs} e =
      let r = block_room c h b (poll_low b e) in
      let low : Every (λ (w : Word). w.place < 9) (batch_words g (block_at regs b)) = (omega arith, (omega arith, (omega arith, (omega arith, tt)))) in
      let t = batched_is b e in
      rw (turn_as g b v G s e)
      (hold_one h long b (poll_low b e) e (busy empty n (phase (min g.batch (carried rs))) rs) work
      (puts_stored regs b r.long (batch_words g (block_at regs b)) low) refl (all_same g.workers g.stretch b work)
      (record {
        status = t.status;
        cell = (poll_is b e).cell;
        since = t.since;
        batch = t.batch;
        carrying = record { number = t.carrying.number; told = t.carrying.told };
        target = t.target;
      })
      refl
      refl
      h.marks_are
      h.tallies_are
      (moved_counts h 0)
      h.ring_is
      (λ i k. refl)
      tt)

  -- a worker with an asker
  module _ (b : ℕ) {a n : ℕ} {rs : List Run} (e : worker s b ≡ busy (from a) n poll rs) where
    asker : worker s a ≡ asking
    asker = asker_asking c.accepted c.sound b e

    pub asker_low : a < g.workers
    asker_low = asker_below c.accepted c.sound b e

    other : a ≢ b
    other = asker_other c.accepted c.sound b e

    pub asker_word : (block_at regs b).cell ≡ suc a
    asker_word = (poll_is b e).cell

    turn_answers : (t : Bool) (v : ℕ) → shares g.cutoff n (carried rs) ≡ t → turned g b v G s ≡ answer t (setting_of g) s b a n rs
    turn_answers t v q = turn_as g b v G s e ∙ ap (λ (x : Bool). answer x (setting_of g) s b a n rs) q

    -- it is refused
    pub holds_refused : shares g.cutoff n (carried rs) ≡ false → (v : ℕ)
        → Holds G g (turned g b v G s)
        (memory marks work tallies
        (put_at (emptied g regs b) ((block_at regs b).cell - 1) 0 2)
        (moved_on p 0 1))
    holds_refused q v =
        let i : (block_at regs b).cell - 1 ≡ a = omega (arith, asker_word) in
        let st = batched_stored b e in
        rw (turn_answers false v q, i)
        (hold_two h long b (poll_low b e) e (busy empty n (phase (min g.batch (carried rs))) rs) st a asker_low other asker denied work
        (put_stored _ a (rw st.long (block_room c h a asker_low).long) 0 2 (omega arith))
        refl
        (λ i l k m. refl)
        (batched_is b e)
        refl
        refl
        refl
        h.marks_are
        h.tallies_are
        (moved_counts h 1)
        h.ring_is
        s.rested
        (λ i k. refl)
        tt
        (λ i k. refl)
        (ap (λ (r : Block). r.since) (st.others a other) ∙ (rw asker at (h.rests a asker_low))))

    -- ---- sharing

    module _ (q : shares g.cutoff n (carried rs) ≡ true) where
      pub two_carried : 2 ≤ carried rs
      two_carried = (share_pays g.cutoff n (carried rs) c.accepted.some_cutoff q).0

      -- the work memory can be divided
      abbrev dividing : (k : ℕ) → k ≡ half (carried rs) → Dividing g.stretch work b a (top_of (block_at regs b)) k
      dividing k is =
          record {
            runs = rs;
            told = (poll_is b e).carrying.told;
            some = omega (arith, is, two_carried);
            enough = omega (arith, is, two_carried);
            other = other;
            giver_room = stretch_room c h b (poll_low b e);
            asker_room = stretch_room c h a asker_low;
          }

      -- the first reference stays the first
      first_stays : (k : ℕ) → 0 < k → next_target G rs ≡ next_target G (keep k rs)
      unfolding keep
      first_stays k some = by rs
        where
          runs : (t : Bool) (f j : ℕ) (rs : List Run) (k : ℕ) → 0 < k
              → target G f ≡ next_target G (pick t (run f j ∷ keep (k - suc j) rs) (run_from f k))
          runs true f j rs k some = refl
          runs false f j rs zero some = absurd (omega arith)
          runs false f j rs (suc k) some = refl

          by : (rs : List Run) → next_target G rs ≡ next_target G (keep k rs)
          by [] = refl
          by (run f j ∷ rs) = runs (ltb j k) f j rs k some

      holds_shared_runs : (v : ℕ) (work' : List ℕ) (kept gave : Top) {w : Words} → w ≡ ring_of (blackened b s.ring)
          → Divided g.stretch work b a (top_of (block_at regs b)) (half (carried rs)) work' kept gave
          → Holds G g (turned g b v G s)
          (memory marks work' (raised_words tallies b (tally 0 0 0 1))
          (store_at (store_at regs b (shared_block (block_at regs b) (min g.batch (half (carried rs))) (half (carried rs)) kept)) a
          (given_block gave (carried rs - half (carried rs))))
          (moved_on (with_ring p w) 1 0))
      holds_shared_runs v work' kept gave r d =
          let k = half (carried rs) in
          let x = dividing k refl in
          let st = store_stored regs b (block_room c h b (poll_low b e)).long (shared_block (block_at regs b) (min g.batch k) k kept) in
          let hk = halves rs in
          let m = min g.batch (carried (keep k rs)) in
          let some : 0 < m = omega (arith, c.accepted.some_batch, hk, two_carried) in
          let l : min g.batch k ≡ m = ap (λ (i : ℕ). min g.batch i) (sym hk.0) in
          rw (turn_answers true v q)
          (hold_two h long b (poll_low b e) e (giver (setting_of g) n rs) st a asker_low other asker (receiver rs) work'
          (store_stored _ a (rw st.long (block_room c h a asker_low).long) _)
          d.long
          (λ i l k m. d.others i k m)
          (record {
            status = phase_look m some;
            cell = refl;
            since = omega (arith, l, phase_batch m);
            batch = l ∙ sym (phase_batch m);
            carrying = record { number = omega (arith, l, phase_batch m, hk); told = d.giver x };
            target = (poll_is b e).target ∙ first_stays k (omega (arith, two_carried));
          })
          (refl, record { number = omega (arith, hk); told = d.receiver x })
          refl
          refl
          h.marks_are
          (raised_held c h b (poll_low b e) (tally 0 0 0 1))
          (shared_counts h b (there c h b (poll_low b e)))
          r
          s.rested
          (λ i k. refl)
          tt
          (λ i k. get_or-set_other s.rested a i 0 0 k)
          (sym (written_there s.rested a)))

      -- the same, as the words tell it
      words : ((block_at regs b).cell - 1 ≡ a) × ((block_at regs b).carried ≡ carried rs)
      words = (omega (arith, asker_word), poll_carried b e)

      pub sharing_words : Sharing (stretch_at g.stretch b work) (top_of (block_at regs b)) (half (block_at regs b).carried)
          ((block_at regs b).carried - half (block_at regs b).carried)
      sharing_words =
          rw words.1
          (record {
            runs = rs;
            told = (poll_is b e).carrying.told;
            some = omega (arith, two_carried);
            number = omega arith;
          })

      pub dividing_words : Dividing g.stretch work b ((block_at regs b).cell - 1) (top_of (block_at regs b)) (half (block_at regs b).carried)
      dividing_words = rw (words.0, words.1) (dividing (half (carried rs)) refl)

      pub holds_shared : (v : ℕ) (work' : List ℕ) (kept gave : Top) {w : Words} → w ≡ ring_of (blackened b s.ring)
          → Divided g.stretch work b ((block_at regs b).cell - 1) (top_of (block_at regs b)) (half (block_at regs b).carried) work' kept gave
          → Holds G g (turned g b v G s)
          (memory marks work' (raised_words tallies b (tally 0 0 0 1))
          (store_at
          (store_at regs b (shared_block (block_at regs b) (min g.batch (half (block_at regs b).carried)) (half (block_at regs b).carried) kept))
          ((block_at regs b).cell - 1)
          (given_block gave ((block_at regs b).carried - half (block_at regs b).carried)))
          (moved_on (with_ring p w) 1 0))
      holds_shared v work' kept gave r d =
          rw (words.0, words.1) (holds_shared_runs v work' kept gave r (rw (words.0, words.1) at d))

-- ---- the two kinds of a poll

-- a worker that polls with a cell that is not empty is asked, and answers as its words tell
pub asked_here : {g : Setup} {marks work tallies regs : List ℕ} {p : Progress} (b : ℕ) (t : Bool) → (block_at regs b).cell ≢ 0
    → shares g.cutoff (block_at regs b).since (block_at regs b).carried ≡ t → (x : Ready (IsPolling b) g (memory marks work tallies regs p))
    → IsAsked g t b x.graph x.state
asked_here {g} {marks} {work} {tallies} {regs} b t m q x = by x.here.cell x.here.is
  where
    is : {cell : Cell} → worker x.state b ≡ busy cell x.here.since poll x.here.runs
        → BusyIs x.graph cell x.here.since poll x.here.runs (block_at regs b) (stretch_at g.stretch b work)
    is e = poll_is x.scene x.holds b e

    by : (cell : Cell) → worker x.state b ≡ busy cell x.here.since poll x.here.runs → IsAsked g t b x.graph x.state
    by empty e = absurd (m (is e).cell)
    by (from a) e =
        record {
          asker = a;
          since = x.here.since;
          runs = x.here.runs;
          is = e;
          answers = rw (poll_since x.scene x.holds b e, poll_carried x.scene x.holds b e) at q;
        }

abbrev pub asked : {g : Setup} {marks work tallies regs : List ℕ} {p : Progress} (b : ℕ) (t : Bool) → (block_at regs b).cell ≢ 0
    → shares g.cutoff (block_at regs b).since (block_at regs b).carried ≡ t → Ready (IsPolling b) g (memory marks work tallies regs p)
    → Ready (IsAsked g t b) g (memory marks work tallies regs p)
asked b t m q x =
    record { graph = x.graph; state = x.state; scene = x.scene; holds = x.holds; here = asked_here b t m q x }

-- and one whose cell is empty is not
pub unasked : {g : Setup} {marks work tallies regs : List ℕ} {p : Progress} (b v : ℕ) → (block_at regs b).cell ≡ 0
    → (x : Ready (IsPolling b) g (memory marks work tallies regs p))
    → Holds x.graph g (turned g b v x.graph x.state)
    (memory marks work tallies (begun g regs b) (moved_on p 0 0))
unasked {g} {marks} {work} {tallies} {regs} {p} b v z x = by x.here.cell x.here.is
  where
    by : (cell : Cell) → worker x.state b ≡ busy cell x.here.since poll x.here.runs
        → Holds x.graph g (turned g b v x.graph x.state)
        (memory marks work tallies (begun g regs b) (moved_on p 0 0))
    by empty e = holds_polled x.scene x.holds b v e
    by (from a) e = absurd (omega (arith, z, (poll_is x.scene x.holds b e).cell))
