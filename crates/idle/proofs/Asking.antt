-- The turns of an idle worker, in which registers alone change: passing the token, ending, asking.
use mathlib.Core.Path.{◌≡◌, refl, sym, ap, ◌∙◌}
use mathlib.Core.Logic.{◌≢◌, ◌⊎◌, inl, inr}
use mathlib.Core.List.{List}
use Prim.Native.Nat.{ℕ, zero, suc, ◌+◌, ◌≤◌, ◌<◌}
use native.Mathlib.Omega.{arith}
use lib.ListN.{length}
use lib.Dec.{eqb}
use borrow.Author.Tests.{eq-eqb, ne_eqb}
use Rattle.laws.proofs.Sum.{sum_at}
use Rattle.graph.specs.Graph.{Graph}
use Rattle.machine.specs.Ring.{Colour, white, black, shade, colour_of, passed_on}
use Rattle.machine.specs.Run.{Run}
use Rattle.machine.specs.Machine.{State, Worker, idle, asking, denied, ended, given, busy, empty, from, Phase, poll, look, claim, worker, runs_of, stopped, becomes, passes, asks, home_turn, holder_turn, idle_turn}
use Rattle.theorems.proofs.Facts.{below_workers, busy_below, busy_some}
use Rattle.theorems.proofs.Colours.{shade_limit}
use Rattle.worker.specs.declared.registers.Block.{Block}
use Rattle.worker.specs.Registers.{block_at, put_at}
use Rattle.worker.proofs.Blocks.{put_stored}
use Rattle.worker.specs.Status.{phase_word}
use Rattle.step.specs.declared.Setup.{Setup}
use Rattle.step.specs.declared.Progress.{Progress}
use Rattle.step.specs.declared.ring.Ring.{Ring as Words}
use Rattle.step.specs.Counting.{moved_on, ended_one, with_ring}
use Rattle.step.specs.Ringing.{ring_of, RingAt}
use Rattle.step.specs.Held.{memory, stretch_at, BusyIs, BlockIs, Holds, Scene}
use Rattle.step.specs.Turned.{turned, Ready}
use Rattle.idle.specs.Idle.{IsIdle, IsHolder, IsAsking}
use Rattle.step.proofs.Bounds.{block_room, running_at, ring_at}
use Rattle.step.proofs.Counting.{moved_counts, ended_counts}
use Rattle.step.proofs.Each.{SameBut, all_same, hold_one, hold_two}
use Rattle.step.proofs.Turned.{turn_as, told_as}

module _ {G : Graph} {g : Setup} {s : State} {marks work tallies regs : List ℕ} {p : Progress} (c : Scene G g s) (h : Holds G g s (memory marks work tallies regs p)) where
  long : length s.workers ≡ g.workers
  long = c.sound.sized.workers_length

  -- a block with another status and no more to say
  stays : (b : ℕ) → SameBut g.workers g.stretch b work work
  stays b = all_same g.workers g.stretch b work

  module _ (b v : ℕ) (e : worker s b ≡ idle) where
    pub idle_low : b < g.workers
    idle_low = below_workers c.accepted c.sound b (rw e (omega arith))

    pub idle_running : 1 ≤ p.running
    idle_running = rw e at (running_at c h b)

    -- ---- it ends

    pub holds_ended : turned g b v G s ≡ becomes s b ended → Holds G g (turned g b v G s) (memory marks work tallies (put_at regs b 0 3) (ended_one p))
    holds_ended z =
        rw z
        (hold_one h long b idle_low e ended work (put_stored regs b (block_room c h b idle_low).long 0 3 (omega arith)) refl (stays b) refl
        (omega (arith, rw e at (running_at c h b))) refl
        h.marks_are
        h.tallies_are
        (ended_counts h)
        h.ring_is
        (λ i k. refl)
        (rw e at (h.rests b idle_low)))

    -- where worker 0 has ended
    pub ends_behind : stopped (worker s 0) ≡ 1 → turned g b v G s ≡ becomes s b ended
    ends_behind z = turn_as g b v G s e ∙ ap (λ (k : ℕ). idle_turn k (eqb b s.ring.holder) s b v) z

    -- ---- it holds the token

    module _ (going : stopped (worker s 0) ≡ 0) (own : b ≡ s.ring.holder) where
      holder_as : turned g b v G s ≡ holder_turn b s
      holder_as = turn_as g b v G s e ∙ rw (going, eq-eqb b s.ring.holder own) refl

      -- worker 0 ends where the token and it are white
      pub ends_home : b ≡ 0 → shade s.ring.token + shade (colour_of s.ring b) ≡ 0 → turned g b v G s ≡ becomes s b ended
      ends_home z none = holder_as ∙ rw z (by s.ring.token (colour_of s.ring 0) (rw z at none))
        where
          by : (t d : Colour) → shade t + shade d ≡ 0 → home_turn t d s ≡ becomes s 0 ended
          by white white n = refl
          by white black n = absurd (omega arith)
          by black d n = absurd (omega arith)

      -- otherwise it passes the token, as any other worker does
      passes_as : (b ≡ 0 → 0 < shade s.ring.token + shade (colour_of s.ring b)) → turned g b v G s ≡ passes s b
      passes_as some = holder_as ∙ by b some
        where
          home : (t d : Colour) → 0 < shade t + shade d → home_turn t d s ≡ passes s 0
          home white white n = absurd (omega arith)
          home white black n = refl
          home black d n = refl

          by : (i : ℕ) → (i ≡ 0 → 0 < shade s.ring.token + shade (colour_of s.ring i)) → holder_turn i s ≡ passes s i
          by zero n = home s.ring.token (colour_of s.ring 0) (n refl)
          by (suc i) n = refl

      pub holds_passed : (b ≡ 0 → 0 < shade s.ring.token + shade (colour_of s.ring b)) → {w : Words}
          → w ≡ ring_of (passed_on g.workers b s.ring) → Holds G g (turned g b v G s) (memory marks work tallies regs (with_ring p w))
      holds_passed some q =
          rw (passes_as some)
          (record {
            marks_are = h.marks_are;
            tallies_are = h.tallies_are;
            counts_are = h.counts_are;
            running_is = h.running_is;
            ring_is = q ∙ ap (λ (n : ℕ). ring_of (passed_on n b s.ring)) (sym long);
            regs_long = h.regs_long;
            work_long = h.work_long;
            each = h.each;
            rests = h.rests;
          })

    -- ---- it asks, by what the named worker is

    asks_as : stopped (worker s 0) ≡ 0 → b ≢ s.ring.holder → turned g b v G s ≡ asks (worker s v) s b v
    asks_as going other = turn_as g b v G s e ∙ rw (going, ne_eqb b s.ring.holder other) refl

    -- nobody is asked where the named worker is not busy with an empty cell
    pub holds_still : stopped (worker s 0) ≡ 0 → b ≢ s.ring.holder → ((n : ℕ) (q : Phase) (rs : List Run) → worker s v ≡ busy empty n q rs → ⊥)
        → Holds G g (turned g b v G s) (memory marks work tallies regs p)
    holds_still going n none = rw (asks_as going n ∙ still (worker s v) refl) h
      where
        still : (w : Worker) → worker s v ≡ w → asks w s b v ≡ s
        still idle q = refl
        still asking q = refl
        still denied q = refl
        still ended q = refl
        still (given rs) q = refl
        still (busy empty n r rs) q = absurd (none n r rs q)
        still (busy (from a) n r rs) q = refl

    -- it is asked
    pub holds_asked : stopped (worker s 0) ≡ 0 → b ≢ s.ring.holder → v < g.workers → (n : ℕ) (q : Phase) (rs : List Run) → worker s v ≡ busy empty n q rs
        → Holds G g (turned g b v G s) (memory marks work tallies (put_at (put_at regs v 2 (b + 1)) b 0 1) (moved_on p 0 0))
    holds_asked going m lv n q rs f =
        let r = block_room c h v lv in
        let st = put_stored regs v r.long 2 (b + 1) (omega arith) in
        let is : BusyIs G empty n q rs (block_at regs v) (stretch_at g.stretch v work) = rw f at (h.each v lv) in
        let other : b ≢ v = λ z.
        omega (arith, ap (λ (w : Worker). length (runs_of w)) (sym e ∙ ap (λ (i : ℕ). worker s i) z ∙ f), busy_some c.accepted c.sound v f)
        in
        rw (asks_as going m, f)
        (hold_two h long v lv f (busy (from b) n q rs) st b idle_low other e asking work
        (put_stored (put_at regs v 2 (b + 1)) b (rw st.long (block_room c h b idle_low).long) 0 1 (omega arith))
        refl
        (λ i l k m. refl)
        (record {
          status = is.status;
          cell = omega arith;
          since = is.since;
          batch = is.batch;
          carrying = record { number = is.carrying.number; told = is.carrying.told };
          target = is.target;
        })
        refl
        refl
        refl
        h.marks_are
        h.tallies_are
        (moved_counts h 0)
        h.ring_is
        s.rested
        (λ i k. refl)
        tt
        (λ i k. refl)
        (ap (λ (r : Block). r.since) (st.others b other) ∙ (rw e at (h.rests b idle_low))))

  -- ---- what a block tells of its worker

  pub phase_limit : (q : Phase) → 5 ≤ phase_word q
  phase_limit poll = omega arith
  phase_limit (look k) = omega arith
  phase_limit (claim k) = omega arith

  -- whether a worker has ended, by its status
  pub stopped_if : (v : ℕ) → v < g.workers → ((block_at regs v).status ≡ 3 → stopped (worker s v) ≡ 1) × ((block_at regs v).status ≢ 3 → stopped (worker s v) ≡ 0)
  stopped_if v lv = by (worker s v) (h.each v lv)
    where
      by : (w : Worker) → BlockIs G w (block_at regs v) (stretch_at g.stretch v work)
          → ((block_at regs v).status ≡ 3 → stopped w ≡ 1) × ((block_at regs v).status ≢ 3 → stopped w ≡ 0)
      by idle t = (λ z. absurd (omega (arith, t, z)), λ z. refl)
      by asking t = (λ z. absurd (omega (arith, t, z)), λ z. refl)
      by denied t = (λ z. absurd (omega (arith, t, z)), λ z. refl)
      by ended t = (λ z. refl, λ z. absurd (z t))
      by (given rs) t = (λ z. absurd (omega (arith, t.0, z)), λ z. refl)
      by (busy c n q rs) t = (λ z. absurd (omega (arith, t.status, z, phase_limit q)), λ z. refl)

  -- a worker whose status is that of a busy one, with an empty cell
  pub record Free (v : ℕ) : Type 0 where
    pub since : ℕ
    pub phase : Phase
    pub runs : List Run
    pub is : worker s v ≡ busy empty since phase runs

  pub free_if : (v : ℕ) → v < g.workers → 5 ≤ (block_at regs v).status → (block_at regs v).cell ≡ 0 → Free v
  free_if v lv st ce = by (worker s v) refl (h.each v lv)
    where
      by : (w : Worker) → worker s v ≡ w → BlockIs G w (block_at regs v) (stretch_at g.stretch v work) → Free v
      by idle q t = absurd (omega (arith, t))
      by asking q t = absurd (omega (arith, t))
      by denied q t = absurd (omega (arith, t))
      by ended q t = absurd (omega (arith, t))
      by (given rs) q t = absurd (omega (arith, t.0))
      by (busy empty n r rs) q t = record { since = n; phase = r; runs = rs; is = q }
      by (busy (from a) n r rs) q t = absurd (omega (arith, t.cell, ce))

  pub not_free : (v : ℕ) → ((block_at regs v).status < 5) ⊎ ((block_at regs v).cell ≢ 0) → (n : ℕ) (q : Phase) (rs : List Run)
      → worker s v ≡ busy empty n q rs → ⊥
  not_free v (inl l) n q rs f =
      let t : BusyIs G empty n q rs _ _ = rw f at (h.each v (busy_below c.accepted c.sound v f)) in
      omega (arith, t.status, phase_limit q)
  not_free v (inr m) n q rs f =
      let t : BusyIs G empty n q rs _ _ = rw f at (h.each v (busy_below c.accepted c.sound v f)) in
      m t.cell

  pub not_there : (v : ℕ) → g.workers ≤ v → (n : ℕ) (q : Phase) (rs : List Run) → worker s v ≡ busy empty n q rs → ⊥
  not_there v l n q rs f = omega (arith, busy_below c.accepted c.sound v f)

-- ---- what an idle worker is told of the ring

module _ {g : Setup} {marks work tallies regs : List ℕ} {p : Progress} {b : ℕ} (x : Ready (IsIdle b) g (memory marks work tallies regs p)) where
  pub first_there : 0 < g.workers
  first_there = x.scene.accepted.some_worker

  -- worker 0 has ended
  pub over_here : (block_at regs 0).status ≡ 3 → stopped (worker x.state 0) ≡ 1
  over_here z = (stopped_if x.scene x.holds 0 first_there).0 z

  pub holder_here : p.ring.holder ≡ x.state.ring.holder
  holder_here = ap (λ (w : Words). w.holder) x.holds.ring_is

  -- an idle worker that holds the token: worker 0 has not ended
  pub holder_going : b ≡ x.state.ring.holder → stopped (worker x.state 0) ≡ 0
  holder_going e = by (stopped (worker x.state 0)) refl
    where
      by : (k : ℕ) → stopped (worker x.state 0) ≡ k → k ≡ 0
      by zero q = refl
      by (suc k) q =
          let S = x.scene.sound in
          let there : 0 < length x.state.workers = omega (arith, S.sized.workers_length, first_there) in
          let first = S.first_ended (omega (arith, q, sum_at stopped ended x.state.workers 0 (worker x.state 0) refl there)) in
          absurd (omega (arith, q, ap (λ (i : ℕ). stopped (worker x.state i)) (sym (e ∙ first.1)) ∙ ap stopped x.here))

  abbrev pub holding : p.ring.holder ≡ b → Ready (IsHolder b) g (memory marks work tallies regs p)
  holding e =
      let here = sym e ∙ holder_here in
      told_as x (record { is = x.here; going = holder_going here; holds = here })

  abbrev pub asking_here : (block_at regs 0).status ≢ 3 → p.ring.holder ≢ b → Ready (IsAsking b) g (memory marks work tallies regs p)
  asking_here z n =
      told_as x (record { is = x.here; going = (stopped_if x.scene x.holds 0 first_there).1 z; other = λ e. n (holder_here ∙ sym e) })

-- the colours of the token and of worker b, as they are added up
module _ {g : Setup} {marks work tallies regs : List ℕ} {p : Progress} {b : ℕ} (x : Ready (IsHolder b) g (memory marks work tallies regs p)) where
  pub holder_low : b < g.workers
  holder_low = idle_low x.scene x.holds b 0 x.here.is

  abbrev pub holder_ring : RingAt p.ring b
  holder_ring = ring_at x.scene x.holds b holder_low

  pub token_is : p.ring.token ≡ shade x.state.ring.token
  token_is = ap (λ (w : Words). w.token) x.holds.ring_is

  pub both_low : {c : ℕ} → c ≡ shade (colour_of x.state.ring b) → p.ring.token + c ≤ 2
  both_low e = omega (arith, token_is, e, shade_limit x.state.ring.token, shade_limit (colour_of x.state.ring b))
