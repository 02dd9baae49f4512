-- Following a reference: the worker goes on, or is left with nothing and refuses an asker in its cell.
use mathlib.Core.Path.{◌≡◌, refl, sym, ap, ◌∙◌, subst}
use mathlib.Core.Bool.{Bool, true, false}
use mathlib.Core.Logic.{◌≢◌}
use mathlib.Core.List.{List, [], ◌∷◌, ◌++◌}
use Prim.Native.Nat.{ℕ, zero, suc, ◌+◌, ◌-◌, ◌*◌, ◌≤◌, ◌<◌}
use native.Mathlib.Omega.{arith}
use borrow.Author.Tests.{ltb-false, ne_eqb}
use lib.ListN.{length, get_or, set, take, drop}
use lib.Seq.{get_or-set_same, get_or-set_other}
use lib.Dec.{ltb, eqb}
use Rattle.laws.specs.Choice.{pick}
use Rattle.laws.specs.Every.{Every}
use Rattle.laws.specs.Sum.{sum}
use Rattle.laws.proofs.Every.{every_append}
use Rattle.graph.specs.Graph.{Graph, references}
use Rattle.machine.specs.Row.{count_follow}
use Rattle.machine.specs.declared.Counts.{Counts}
use Rattle.machine.specs.Run.{Run, run, run_from, carried}
use Rattle.machine.specs.Tally.{tally, tallied}
use Rattle.machine.specs.Machine.{Worker, idle, denied, busy, Cell, empty, from, phase, worker, onward, dismiss, dismissed, emptied, resting, onward_runs, follows}
use Rattle.machine.specs.Sound.{InTargets}
use Rattle.theorems.proofs.Facts.{busy_below, busy_sound, busy_carried, busy_carried_limit, busy_room, busy_runs_limit, first_run_limit, asker_asking, asker_below, asker_other, carrying_at}
use Rattle.theorems.proofs.Runs.{carried_append, carried_from}
use Rattle.theorems.proofs.Step.{phase_batch}
use Rattle.worker.specs.declared.registers.Block.{Block}
use Rattle.worker.specs.declared.stretch.Top.{Top}
use Rattle.worker.specs.Registers.{Room, block_at, put_at, Stored}
use Rattle.worker.specs.Stretch.{Holds as Words, Told, Nextable, goes_on, next_top, next_words}
use Rattle.worker.proofs.Blocks.{put_stored}
use Rattle.worker.proofs.Pairs.{pop_first}
use Rattle.worker.proofs.Next.{some?, next_told, next_goes_on, length_next}
use Rattle.worker.specs.Status.{cell_word, phase_word}
use Rattle.step.specs.declared.Setup.{Setup}
use Rattle.step.specs.declared.Progress.{Progress}
use Rattle.follow.specs.declared.Opened.{Opened}
use Rattle.step.specs.Counting.{counts_of, followed_on}
use Rattle.follow.specs.Claiming.{next_word, advanced_block, Advanceable, stopped_count, stopped_at}
use Rattle.step.specs.Held.{memory, stretch_at, top_of, BusyIs, Holds, Scene}
use Rattle.step.specs.Turned.{turned, Ready}
use Rattle.follow.specs.Following.{IsFollowing}
use Rattle.step.proofs.Bounds.{block_room, stretch_room, stretch_limit}
use Rattle.step.proofs.Counting.{followed_counts}
use Rattle.step.proofs.Raising.{there}
use Rattle.step.proofs.Parts.{length_stretch, length_back, back_here, back_other}
use Rattle.step.proofs.Each.{SameBut, hold_one, hold_two}
use Rattle.follow.proofs.Taking.{first_told}

-- a status by the batch
word_phase : (k : ℕ) → next_word k ≡ phase_word (phase k)
word_phase zero = refl
word_phase (suc k) = refl

-- where nothing is left behind a reference, it was the only one
onward_none : (e j : ℕ) (os rs : List Run) → onward_runs e j os rs ≡ [] → (j ≡ 0) × (rs ≡ [])
onward_none e (suc j) os rs h = absurd (omega (arith, ap length h))
onward_none e zero (r ∷ os) rs h = absurd (omega (arith, ap length h))
onward_none e zero [] rs h = (refl, h)

single : (e j : ℕ) (rs : List Run) → (j ≡ 0) × (rs ≡ []) → carried (run e j ∷ rs) ≡ 1
unfolding carried sum
single e j rs h = rw h.1 (omega (arith, h.0))

-- a worker that goes on, and one that is left with nothing
gone_on : (ws : List Worker) (b n k : ℕ) (cell : Cell) (rs : List Run) → 0 < length rs
    → (dismiss cell rs (set ws b (onward cell n k rs)) ≡ set ws b (busy cell n (phase k) rs))
    × ((c : Counts) (w : ℕ) → count_follow c w (dismissed cell rs) (emptied rs) ≡ count_follow c w 0 0)
    × ((ns : List ℕ) (m : ℕ) → resting rs ns b m ≡ ns)
gone_on ws b n k cell [] some = absurd (omega arith)
gone_on ws b n k empty (r ∷ rs) some = (refl, (λ c w. refl), λ ns m. refl)
gone_on ws b n k (from a) (r ∷ rs) some = (refl, (λ c w. refl), λ ns m. refl)

some_runs : (rs : List Run) → some? rs ≡ true → 0 < length rs
some_runs [] e = let z : ◌≡◌ {A = ℕ} 0 1 = cc in absurd (omega arith)
some_runs (r ∷ rs) e = omega arith

no_runs : (rs : List Run) → some? rs ≡ false → rs ≡ []
no_runs [] e = refl
no_runs (r ∷ rs) e = let z : ◌≡◌ {A = ℕ} 0 1 = cc in absurd (omega arith)

-- the run that comes up next lies among the targets
below_first : (G : Graph) (rs : List Run) (s : List ℕ) → Words s (2 * length rs) rs → Every (InTargets G) rs → (u : ℕ) → u ≡ 2 * length rs → 2 ≤ u
    → get_or s (u - 2) 0 < references G
below_first G [] s h l u e two = absurd (omega (arith, e))
below_first G (run f j ∷ rs) s h l u e two = rw e (omega (arith, pop_first s (2 * suc (length rs)) f j rs h, l.0))

-- at most one asker is refused
pub stopped_one : (cell : ℕ) → stopped_count cell ≤ 1
stopped_one cell = by (eqb cell 0)
  where
    by : (t : Bool) → pick t 0 1 ≤ 1
    by true = omega arith
    by false = omega arith

-- what opens is added
opened_sum : (f g c : ℕ) → pick (ltb f g) (c + (g - f)) c ≡ c + (g - f)
opened_sum f g c = by (ltb f g) refl
  where
    by : (t : Bool) → ltb f g ≡ t → pick t (c + (g - f)) c ≡ c + (g - f)
    by true q = refl
    by false q = omega (arith, ltb-false f g q)

from_limit : (G : Graph) (f k : ℕ) → f + k ≤ references G → Every (InTargets G) (run_from f k)
from_limit G f zero l = tt
from_limit G f (suc k) l = (l, tt)

module _ {g : Setup} {targets marks' tallies' : List ℕ} {o : Opened} {b : ℕ} {marks work tallies regs : List ℕ} {p : Progress}
    (x : Ready (IsFollowing g targets marks' tallies' o b) g (memory marks work tallies regs p)) where
  abbrev c : Scene x.graph g x.state
  c = x.scene

  abbrev y : IsFollowing g targets marks' tallies' o b x.graph x.state
  y = x.here

  abbrev block : Block
  block = block_at regs b

  abbrev part : List ℕ
  part = stretch_at g.stretch b work

  -- the runs afterwards
  abbrev runs : List Run
  runs = onward_runs y.first y.more (run_from o.first (o.end - o.first)) y.below

  pub follow_low : b < g.workers
  follow_low = busy_below c.accepted c.sound b y.is

  is : BusyIs x.graph y.cell y.since y.phase (run y.first y.more ∷ y.below) block part
  is = rw y.is at (x.holds.each b follow_low)

  part_long : length part ≡ g.stretch
  part_long = length_stretch g.stretch b work (stretch_room c x.holds b follow_low)

  room : 2 * length y.below + 2 ≤ length part
  room = omega (arith, part_long, busy_room c.accepted c.sound b y.is, c.stretch_is)

  pub nextable : Nextable part (top_of block)
  nextable =
      let t = is.carrying.told.top in
      record {
        room = omega (arith, ap (λ (t : Top). t.used) t, room);
        small = omega (arith, ap (λ (t : Top). t.used) t, room, part_long, stretch_limit c);
        fits = omega (arith, ap (λ (t : Top). t.first) t, first_run_limit c.accepted c.sound b y.is, c.references_limit);
      }

  abbrev top : Top
  top = next_top part (top_of block) o.first o.end

  abbrev words : List ℕ
  words = next_words part (top_of block) o.first o.end

  told : Told runs top words
  told =
      subst (λ (t : Top). Told runs (next_top part t o.first o.end) (next_words part t o.first o.end)) (sym is.carrying.told.top)
      (next_told part y.first y.below is.carrying.told.holds room o.first o.end y.more y.order)

  -- one reference fewer, and what has opened
  carried_next : carried runs ≡ block.carried + (o.end - o.first) + y.left
  unfolding carried sum
  carried_next =
      omega (
        arith,
        is.carrying.number,
        y.batch_is,
        carried_append (run_from (suc y.first) y.more) (run_from o.first (o.end - o.first) ++ y.below),
        carried_append (run_from o.first (o.end - o.first)) y.below,
        carried_from (suc y.first) y.more,
        carried_from o.first (o.end - o.first),
      )

  limits : Every (InTargets x.graph) runs
  limits =
      let l = busy_runs_limit c.accepted c.sound b y.is in
      every_append (InTargets x.graph) (run_from (suc y.first) y.more) _
      (from_limit x.graph (suc y.first) y.more (omega (arith, l.0)))
      (every_append (InTargets x.graph) (run_from o.first (o.end - o.first)) y.below
      (from_limit x.graph o.first (o.end - o.first) (omega (arith, y.order, y.limit)))
      l.1)

  -- it counts as carrying
  pub carries_one : 1 ≤ p.carrying
  carries_one =
      omega (
        arith,
        ap (λ (n : Counts). n.carrying) x.holds.counts_are,
        carrying_at c.accepted c.sound b (rw y.is (busy_carried c.accepted c.sound b y.is)),
      )

  -- an asker in the cell has a block
  pub asker_room : block.cell ≢ 0 → Room regs (block.cell - 1)
  asker_room z = by y.cell y.is is.cell
    where
      by : (cell : Cell) → worker x.state b ≡ busy cell y.since y.phase (run y.first y.more ∷ y.below)
          → block.cell ≡ cell_word cell → Room regs (block.cell - 1)
      by empty e q = absurd (z q)
      by (from a) e q =
          let i : block.cell - 1 ≡ a = omega (arith, q) in
          rw i (block_room c x.holds a (asker_below c.accepted c.sound b e))

  -- the words let it follow
  pub advanceable : {r : Block} → r ≡ block → Advanceable targets part regs b r o.first o.end
  advanceable e =
      let l = busy_runs_limit c.accepted c.sound b y.is in
      let m = ap length y.targets_are in
      let t = is.carrying.told.top in
      rw e
      (record {
        is = refl;
        room = block_room c x.holds b follow_low;
        next = nextable;
        batch_some = omega (arith, is.batch, y.batch_is);
        carried_small =
            omega (arith, is.carrying.number, busy_carried_limit c.accepted c.sound b y.is, y.limit, c.references_limit);
        goes_on = λ h. omega (arith, h, m, l.0, ap (λ (t : Top). t.first) t, ap (λ (t : Top). t.end) t);
        opens = λ h. omega (arith, h, m, y.limit);
        comes_up = λ h.
            omega (
              arith,
              m,
              below_first x.graph y.below part is.carrying.told.holds l.1 block.used (ap (λ (t : Top). t.used) t) h,
            );
      })

  -- whether something is left, as the words tell
  left_is : goes_on (top_of block) o.first o.end ≡ some? runs
  left_is =
      subst (λ (t : Top). goes_on t o.first o.end ≡ some? runs) (sym is.carrying.told.top)
      (next_goes_on part y.first y.below is.carrying.told.holds room o.first o.end y.more y.order)

  -- the work memory afterwards
  abbrev after : List ℕ
  after = take (b * g.stretch) work ++ (words ++ drop g.stretch (drop (b * g.stretch) work))

  -- as the stretch is written back
  whole : b * g.stretch + g.stretch - b * g.stretch ≡ g.stretch
  whole = omega arith

  words_long : length words ≡ g.stretch
  words_long = length_next part (top_of block) o.first o.end ∙ part_long

  here : stretch_at g.stretch b after ≡ words
  here = rw whole at (back_here g.stretch b work words (stretch_room c x.holds b follow_low) words_long (b * g.stretch + g.stretch) refl)

  after_long : length after ≡ length work
  after_long = rw whole at (length_back g.stretch b work words (stretch_room c x.holds b follow_low) words_long (b * g.stretch + g.stretch) refl)

  others : SameBut g.workers g.stretch b work after
  others a l n =
      rw whole at (back_other g.stretch b work words (stretch_room c x.holds b follow_low) words_long (b * g.stretch + g.stretch) refl a n)

  -- the counts afterwards
  counts : (k m : ℕ) → counts_of (followed_on p k m) (tallied x.state.tallies b (tally 1 y.found.won y.found.lost 0))
      ≡ count_follow x.state.counts y.found.won k m
  counts k m = followed_counts x.holds b (there c x.holds b follow_low) y.found.won y.found.lost k m

  state : (v : ℕ) → turned g b v x.graph x.state ≡ follows x.state b y.cell y.since y.left y.found runs
  state v = y.turn_is v ∙ ap (λ (l : List Run). follows x.state b y.cell y.since y.left y.found (onward_runs y.first y.more l y.below)) y.opened_is

  -- something is left
  pub holds_onward : goes_on (top_of block) o.first o.end ≡ true → {regs' : List ℕ}
      → Stored regs b (advanced_block block o.first o.end top (get_or targets top.first 0)) regs' → (v : ℕ)
      → Holds x.graph g (turned g b v x.graph x.state) (memory marks' after tallies' regs' (followed_on p 0 0))
  holds_onward l st v =
      let some = some_runs runs (sym left_is ∙ l) in
      let on = gone_on x.state.workers b (suc y.since) y.left y.cell runs some in
      let k : block.batch - 1 ≡ y.left = omega (arith, is.batch, y.batch_is) in
      rw (state v)
      (hold_one x.holds c.sound.sized.workers_length b follow_low y.is (busy y.cell (suc y.since) (phase y.left) runs) after
      st
      after_long
      others
      (rw here
      (record {
        status = rw k (word_phase y.left);
        cell = is.cell;
        since = omega (arith, is.since, y.batch_is, phase_batch y.left);
        batch = k ∙ sym (phase_batch y.left);
        carrying =
            record {
              number = omega (arith, opened_sum o.first o.end block.carried, carried_next, phase_batch y.left);
              told = told;
            };
        target =
            ap (λ (l : List ℕ). get_or l top.first 0) y.targets_are
            ∙ (first_told x.graph runs top some limits told.top).1;
      }))
      refl
      on.0
      y.marks_are
      y.tallies_are
      (counts 0 0 ∙ sym (on.1 x.state.counts y.found.won))
      x.holds.ring_is
      (λ i k. ap (λ (ns : List ℕ). get_or ns i 0) (on.2 x.state.rested (suc y.since)))
      tt)

  -- where nothing is left, the batch is over with that reference, so its since is not ahead any more
  last_since : goes_on (top_of block) o.first o.end ≡ false → block.since ≡ suc y.since
  last_since l =
      let none = onward_none y.first y.more (run_from o.first (o.end - o.first)) y.below (no_runs runs (sym left_is ∙ l)) in
      let w = busy_sound c.accepted c.sound b y.is in
      omega (arith, is.since, y.batch_is, w.batch_carried, single y.first y.more y.below none)

  rested_room : b < length x.state.rested
  rested_room = omega (arith, c.sound.sized.rested_length, follow_low)

  -- nothing is left
  pub holds_stopped : goes_on (top_of block) o.first o.end ≡ false → (v : ℕ) → {work' regs' : List ℕ} {q : Progress} → work' ≡ after
      → regs' ≡ stopped_at regs b block.cell → q ≡ followed_on p (stopped_count block.cell) 1
      → Holds x.graph g (turned g b v x.graph x.state) (memory marks' work' tallies' regs' q)
  holds_stopped l v ew er eq = rw (emptied v, ew, er, eq) (by y.cell y.is is.cell)
    where
      emptied : (v : ℕ) → turned g b v x.graph x.state ≡ follows x.state b y.cell y.since y.left y.found []
      emptied v =
          state v
          ∙ ap (λ (rs : List Run). follows x.state b y.cell y.since y.left y.found rs) (no_runs runs (sym left_is ∙ l))

      by : (cell : Cell) → worker x.state b ≡ busy cell y.since y.phase (run y.first y.more ∷ y.below)
          → block.cell ≡ cell_word cell
          → Holds x.graph g (follows x.state b cell y.since y.left y.found [])
          (memory marks' after tallies' (stopped_at regs b block.cell) (followed_on p (stopped_count block.cell) 1))
      by empty e q =
          rw q
          (hold_one x.holds c.sound.sized.workers_length b follow_low y.is idle after
          (put_stored regs b (block_room c x.holds b follow_low).long 0 0 (omega arith))
          after_long
          others
          refl
          refl
          refl
          y.marks_are
          y.tallies_are
          (counts 0 1)
          x.holds.ring_is
          (λ i k. get_or-set_other x.state.rested b i (suc y.since) 0 k)
          (last_since l ∙ sym (get_or-set_same x.state.rested b (suc y.since) 0 rested_room)))
      by (from a) e q =
          let la = asker_below c.accepted c.sound b e in
          let st = put_stored regs b (block_room c x.holds b follow_low).long 0 0 (omega arith) in
          let i : suc a - 1 ≡ a = omega arith in
          let other = asker_other c.accepted c.sound b e in
          let asks = asker_asking c.accepted c.sound b e in
          rw (q, ne_eqb (suc a) 0 (λ z. omega (arith, z)), i)
          (hold_two x.holds c.sound.sized.workers_length b follow_low e idle st a la
          other
          asks
          denied
          after
          (put_stored (put_at regs b 0 0) a (rw st.long (block_room c x.holds a la).long) 0 2 (omega arith))
          after_long
          (λ j lj nb na. others j lj nb)
          refl
          refl
          refl
          refl
          y.marks_are
          y.tallies_are
          (counts 1 1)
          x.holds.ring_is
          (set x.state.rested b (suc y.since))
          (λ j k. get_or-set_other x.state.rested b j (suc y.since) 0 k)
          (last_since l ∙ sym (get_or-set_same x.state.rested b (suc y.since) 0 rested_room))
          (λ j k. refl)
          (ap (λ (r : Block). r.since) (st.others a other)
          ∙ (rw asks at (x.holds.rests a la))
          ∙ sym (get_or-set_other x.state.rested b a (suc y.since) 0 other)))
