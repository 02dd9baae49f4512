-- One worker alone begins and ends: its runs, its tally and its block, and the state that they hold.
use Prim.Native.Nat.{ℕ, zero, suc, ◌*◌, ◌≤◌, ◌<◌, ◌^◌}
use mathlib.Core.Path.{◌≡◌, refl, sym, ap, subst, ◌∙◌}
use mathlib.Core.List.{List, [], ◌∷◌}
use native.Mathlib.Nat.{zero-add}
use native.Mathlib.Omega.{arith}
use borrow.Author.Tests.{lt-ltb, le-ltb}
use lib.ListN.{length, set, get_or, take, length-set}
use lib.Seq.{get_or-set_same, get_or-set_other, take-length}
use Rattle.laws.specs.Blocks.{laid}
use Rattle.laws.specs.Sum.{sum}
use Rattle.graph.specs.Chain.{marks_at}
use Rattle.graph.specs.Graph.{Graph, graph, objects}
use Rattle.desk.specs.Lengths.{stretch_length}
use Rattle.machine.specs.Run.{Run, carried}
use Rattle.machine.specs.Machine.{State, ended, start, start_runs, unmarked, with_runs, turns, entries, all_ended}
use Rattle.machine.specs.declared.Counts.{Counts}
use Rattle.machine.specs.Accepted.{Accepted}
use Rattle.step.specs.declared.Setup.{Setup}
use Rattle.step.specs.Held.{Memory, memory, setting_of, stretch_at, BlockIs, RestIs, Holds}
use Rattle.step.specs.Turned.{Ready}
use Rattle.alone.specs.declared.Load.{Load}
use Rattle.rounds.specs.Whole.{IsStart, rounds_of, enough_rounds}
use Rattle.alone.specs.Alone.{starts_of, Alone, load_with, load_for, Endable, Ends, Going}
use Rattle.alone.proofs.Turns.{alone_ended, begins, ended_is}
use Rattle.rounds.proofs.Rounds.{own_rounds, enough_same}
use Rattle.alone.proofs.Going.{none_of, counts_few}
use Rattle.marker.specs.Stages.{top_for, scheduled}
use Rattle.step.specs.declared.Progress.{Progress}
use Rattle.step.specs.Counting.{counts_of}
use Rattle.step.specs.Ringing.{ring_of}
use Rattle.worker.specs.declared.stretch.Top.{Top}
use Rattle.worker.specs.Stretch.{Told}
use Rattle.worker.proofs.Pairs.{holds_none}
use Rattle.worker.specs.Registers.{block_at, status_given}
use Rattle.machine.specs.Tally.{tally, no_tally, tallies_words}
use Rattle.worker.specs.Registers.{block_words, put_at, status_ended}
use Rattle.step.specs.Raising.{Raisable, raised_words}
use Rattle.step.proofs.Raising.{raised}

module _ {tallies : List ℕ} (is : tallies ≡ tallies_words (no_tally ∷ [])) (f w : ℕ) where
  pub raisable : f < 2 ^ 64 → w < 2 ^ 64 → Raisable tallies 0 (tally f w 0 0)
  unfolding tallies_words laid
  raisable hf hw =
      rw is (record { low = omega arith; room = omega arith; followed = omega (arith, hf); won = omega (arith, hw); lost = omega arith; handed = omega arith })

  pub raised_one : raised_words tallies 0 (tally f w 0 0) ≡ tallies_words (tally f w 0 0 ∷ [])
  raised_one = rw is (raised (no_tally ∷ []) 0 (omega arith) (tally f w 0 0) ∙ rw (zero-add f, zero-add w) refl)

-- the words of the block
module _ (regs : List ℕ) (long : length regs ≡ block_words) (f : ℕ) where
  pub ended_status : get_or (put_at (put_at regs 0 3 f) 0 0 status_ended) 0 0 ≡ status_ended
  ended_status = get_or-set_same (set regs 3 f) 0 status_ended 0 (simp length-set (omega (arith, long)))

  pub ended_since : get_or (put_at (put_at regs 0 3 f) 0 0 status_ended) 3 0 ≡ f
  ended_since = get_or-set_other (set regs 3 f) 0 3 status_ended 0 (λ e. omega (arith, e)) ∙ get_or-set_same regs 3 f 0 (omega (arith, long))

-- counts with nothing handed over and nobody carrying
counts_same : {l l' f f' r r' m m' : ℕ} → l ≡ l' → f ≡ f' → r ≡ r' → m ≡ m'
    → ◌≡◌ {A = Counts} (record { live = l; followed = f; handed = 0; refused = r; moved = m; carrying = 0 })
    (record { live = l'; followed = f'; handed = 0; refused = r'; moved = m'; carrying = 0 })
counts_same p q r m = rw (p, q, r, m) refl

-- ---- the start

take_whole : (L : ℕ) (l : List ℕ) → length l ≡ L → take L l ≡ l
take_whole L l e = rw (sym e) (take-length l)

module _ {offsets targets : List ℕ} {g : Setup} {μ : Memory} (one : g.workers ≡ 1) (x : Ready (IsStart g offsets targets) g μ) where
  abbrev starts : List ℕ
  starts = x.here.starts

  accepted_one : Accepted x.graph starts 1 (setting_of g)
  accepted_one = rw one at x.here.accepted

  start_is : x.state ≡ start x.graph starts 1
  start_is = x.here.state_is ∙ ap (λ (W : ℕ). start x.graph starts W) one

  work_long : length μ.work ≡ stretch_length (objects x.graph)
  work_long = omega (arith, x.holds.work_long, ap (λ (W : ℕ). W * g.stretch) one, x.scene.stretch_is)

  abbrev runs : List Run
  runs = start_runs x.graph starts (unmarked x.graph)

  -- the only stretch is the work memory
  stretch_is : stretch_at g.stretch 0 μ.work ≡ μ.work
  stretch_is = let z : 0 * g.stretch ≡ 0 = omega arith in rw z (take_whole g.stretch μ.work (omega (arith, work_long, x.scene.stretch_is)))

  block_is : BlockIs x.graph (with_runs runs) (block_at μ.regs 0) μ.work
  unfolding start
  block_is =
      subst (λ (s : List ℕ). BlockIs x.graph (with_runs runs) (block_at μ.regs 0) s) stretch_is
      (subst (λ (s : State). BlockIs x.graph (get_or s.workers 0 ended) (block_at μ.regs 0) (stretch_at g.stretch 0 μ.work)) start_is
      (x.holds.each 0 (omega (arith, one))))

  -- what the block tells of them
  going_by : (rs : List Run) → BlockIs x.graph (with_runs rs) (block_at μ.regs 0) μ.work
      → Told rs (top_for (block_at μ.regs 0)) μ.work × (load_for (block_at μ.regs 0) ≡ load_with 0 (carried rs) 0)
  unfolding carried sum
  going_by [] b =
      let l = lt-ltb (block_at μ.regs 0).status status_given (omega (arith, b)) in
      (rw l (record { top = refl; holds = holds_none μ.work }), rw l refl)
  going_by (r ∷ rs) b =
      let l = le-ltb (block_at μ.regs 0).status status_given (omega (arith, b.status)) in
      let c : (block_at μ.regs 0).carried ≡ carried (r ∷ rs) = omega (arith, b.carrying.number) in
      (rw l b.carrying.told, rw (l, c) refl)

  going_start : Going x.graph starts (setting_of g) μ.marks μ.work (top_for (block_at μ.regs 0)) (load_for (block_at μ.regs 0)) 0 0
  unfolding start
  going_start =
      let b = going_by runs block_is in
      let m : μ.marks ≡ marks_at starts (unmarked x.graph) = x.holds.marks_are ∙ ap (λ (s : State). s.marks) start_is in
      let t = top_for (block_at μ.regs 0) in
      subst (λ (l : Load). Going x.graph starts (setting_of g) μ.marks μ.work t l 0 0) (sym b.1)
      (subst (λ (ms : List ℕ). Going x.graph starts (setting_of g) ms μ.work t (load_with 0 (carried runs) 0) 0 0) (sym m)
      (record {
        runs = runs;
        here = begins accepted_one x.scene.objects_limit x.scene.references_limit;
        told = b.0;
        long = work_long;
        number = omega arith;
      }))

  pub going_begins : Going (graph offsets targets) starts (setting_of g) μ.marks μ.work (top_for (block_at μ.regs 0)) (load_for (block_at μ.regs 0)) 0 0
  going_begins =
      subst (λ (G : Graph). Going G starts (setting_of g) μ.marks μ.work (top_for (block_at μ.regs 0)) (load_for (block_at μ.regs 0)) 0 0) x.here.graph_is going_start

  -- what the state at the start says of the progress
  abbrev begun : State
  begun = start x.graph starts 1

  began : counts_of μ.progress begun.tallies ≡ begun.counts
  began = subst (λ (s : State). counts_of μ.progress s.tallies ≡ s.counts) start_is x.holds.counts_are

  ring_began : μ.progress.ring ≡ ring_of begun.ring
  ring_began = x.holds.ring_is ∙ ap (λ (s : State). ring_of s.ring) start_is

  moved_none : μ.progress.moved ≡ 0
  unfolding start
  moved_none = ap (λ (c : Counts). c.moved) began

  tallies_none : μ.tallies ≡ tallies_words (no_tally ∷ [])
  unfolding start
  tallies_none = x.holds.tallies_are ∙ ap (λ (s : State). tallies_words s.tallies) start_is

  -- ---- the end

  module _ {marks' work' : List ℕ} {t : Top} {l : Load} {f w : ℕ} (y : Going (graph offsets targets) starts (setting_of g) marks' work' t l f w) (none : t.end ≤ t.first) where
    abbrev ended_state : State
    ended_state = alone_ended x.graph starts (setting_of g) marks' f w l.polls

    pub endable : Endable μ.tallies μ.regs μ.progress f w l.polls
    endable =
        record {
          tallies_are = tallies_none;
          regs_long = omega (arith, x.holds.regs_long, one);
          fits = omega (arith, moved_none, counts_few y, y.here.references_limit);
        }

    all_rounds : scheduled g (enough_rounds x.graph starts g.workers) x.graph x.state ≡ ended_state
    unfolding all_ended
    all_rounds =
        let z = subst (λ (G : Graph). Going G starts (setting_of g) marks' work' t l f w) (sym x.here.graph_is) y in
        let a : Alone x.graph starts (setting_of g) marks' l.batch [] f w l.polls = rw (none_of z.runs t work' z.told none) at z.here in
        let e : turns x.graph (setting_of g) (start x.graph starts 1) (entries (rounds_of 1 (suc a.made))) ≡ ended_state =
        ap (turns x.graph (setting_of g) (start x.graph starts 1)) (own_rounds (suc a.made)) ∙ ended_is a
        in
        ap (λ (s : State). scheduled g (enough_rounds x.graph starts g.workers) x.graph s) start_is
        ∙ ap (λ (W : ℕ). scheduled g (enough_rounds x.graph starts W) x.graph (start x.graph starts 1)) one
        ∙ enough_same accepted_one (suc a.made) (rw e refl)
        ∙ e

    module _ {tallies' regs' : List ℕ} {p' : Progress} (n : Ends μ.tallies μ.regs μ.progress f w l.polls tallies' regs' p')
        (regs_same : length regs' ≡ length μ.regs) where
      counts_ended : counts_of p' ended_state.tallies ≡ ended_state.counts
      unfolding start sum
      counts_ended =
          let s : μ.progress.starts ≡ starts_of x.graph starts = omega (arith, ap (λ (c : Counts). c.live) began) in
          let r : μ.progress.refused ≡ 0 = ap (λ (c : Counts). c.refused) began in
          ap (λ (p : Progress). counts_of p ended_state.tallies) n.progress_is
          ∙ counts_same (omega (arith, s)) (omega arith) r (omega (arith, moved_none))

      each_ended : (b : ℕ) → b < 1 → BlockIs x.graph (get_or ended_state.workers b ended) (block_at regs' b) (stretch_at g.stretch b work')
      each_ended zero h = n.status_is
      each_ended (suc b) h = absurd (omega arith)

      rests_ended : (b : ℕ) → b < 1 → RestIs (get_or ended_state.workers b ended) (get_or ended_state.rested b 0) (block_at regs' b)
      rests_ended zero h = n.since_is
      rests_ended (suc b) h = absurd (omega arith)

      pub holds_ended : Holds x.graph g (scheduled g (enough_rounds x.graph starts g.workers) x.graph x.state) (memory marks' work' tallies' regs' p')
      unfolding start sum
      holds_ended =
          subst (λ (s : State). Holds x.graph g s (memory marks' work' tallies' regs' p')) (sym all_rounds)
          (record {
            marks_are = refl;
            tallies_are = n.tallies_are;
            counts_are = counts_ended;
            running_is = ap (λ (p : Progress). p.running) n.progress_is;
            ring_is = ap (λ (p : Progress). p.ring) n.progress_is ∙ ring_began;
            regs_long = regs_same ∙ x.holds.regs_long;
            work_long =
                omega (
                  arith,
                  y.long,
                  ap (λ (G : Graph). objects G) x.here.graph_is,
                  x.scene.stretch_is,
                  ap (λ (W : ℕ). W * g.stretch) one,
                );
            each = λ b h. each_ended b (omega (arith, h, one));
            rests = λ b h. rests_ended b (omega (arith, h, one));
          })
