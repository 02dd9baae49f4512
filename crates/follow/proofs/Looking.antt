-- Looks and claims: what is found at the target, and that the turn then is following.
use mathlib.Core.Path.{◌≡◌, refl, sym, ap, ◌∙◌, subst}
use mathlib.Core.Bool.{Bool, true, false}
use mathlib.Core.Logic.{◌≢◌}
use mathlib.Core.List.{List, [], ◌∷◌}
use Prim.Native.Nat.{ℕ, zero, suc, ◌-◌, ◌≤◌, ◌<◌}
use native.Mathlib.Numerals.{add-one}
use native.Mathlib.Omega.{arith}
use lib.ListN.{length, get_or, set}
use Rattle.laws.proofs.Sum.{default}
use Rattle.graph.specs.Graph.{Graph, objects, references, first, after, target}
use Rattle.graph.proofs.OverMarked.{after_limit}
use Rattle.desk.specs.Limits.{most_workers}
use Rattle.machine.specs.Run.{Run, run, run_from, leaving}
use Rattle.machine.specs.Tally.{Tally, tally, tallied, tallies_words}
use Rattle.machine.specs.Machine.{busy, look, claim, worker, mark_of, claim_mark, look_turn, Claimed, claims, not_claimed, onward_runs, follows}
use Rattle.machine.specs.Owners.{claim_tells}
use Rattle.theorems.proofs.Facts.{busy_below, busy_some, first_target}
use Rattle.worker.specs.Registers.{block_at, put_at}
use Rattle.worker.proofs.Blocks.{put_stored}
use Rattle.step.specs.declared.Setup.{Setup}
use Rattle.step.specs.declared.Progress.{Progress}
use Rattle.follow.specs.declared.Opened.{Opened}
use Rattle.step.specs.Counting.{moved_on}
use Rattle.follow.specs.Claiming.{opened_none, opened_by, opened_at, claim_tally, tally_at_claim, marks_by, claimed_marks}
use Rattle.step.specs.Held.{memory, stretch_at, BusyIs, Holds}
use Rattle.step.specs.Turned.{turned, Ready}
use Rattle.follow.specs.Following.{IsLooking, IsClaiming, IsFollowing}
use Rattle.step.proofs.Bounds.{block_room}
use Rattle.step.proofs.Counting.{moved_counts}
use Rattle.step.specs.Raising.{Raisable, raised_words}
use Rattle.step.proofs.Raising.{raisable, raised_held}
use Rattle.step.proofs.Each.{all_same, hold_one}
use Rattle.step.proofs.Turned.{turn_as}

-- runs that are some, by the first
record First (rs : List Run) : Type 0 where
  pub first : ℕ
  pub more : ℕ
  pub below : List Run
  pub is : rs ≡ run first more ∷ below

first_of : (rs : List Run) → 0 < length rs → First rs
first_of [] h = absurd (omega arith)
first_of (run f j ∷ rs) h = record { first = f; more = j; below = rs; is = refl }

-- ---- a look

module _ {g : Setup} {targets : List ℕ} {b : ℕ} {marks work tallies regs : List ℕ} {p : Progress}
    (x : Ready (IsLooking targets b) g (memory marks work tallies regs p)) where
  pub look_low : b < g.workers
  look_low = busy_below x.scene.accepted x.scene.sound b x.here.is

  f : First x.here.runs
  f = first_of x.here.runs (busy_some x.scene.accepted x.scene.sound b x.here.is)

  is : worker x.state b ≡ busy x.here.cell x.here.since (look x.here.left) (run f.first f.more ∷ f.below)
  is = rw f.is at x.here.is

  held : BusyIs x.graph x.here.cell x.here.since (look x.here.left) (run f.first f.more ∷ f.below)
      (block_at regs b) (stretch_at g.stretch b work)
  held = rw is at (x.holds.each b look_low)

  -- the target is an object, and its mark is what is read
  pub look_there : (block_at regs b).target < length marks
  look_there =
      omega (
        arith,
        held.target,
        ap (λ (l : List ℕ). length l) x.holds.marks_are,
        first_target x.scene.accepted x.scene.sound b is,
        x.scene.sound.sized.marks_length,
      )

  mark_read : mark_of x.state (target x.graph f.first) ≡ get_or marks (block_at regs b).target 0
  mark_read =
      default x.state.marks (target x.graph f.first) 1 0
      (omega (arith, first_target x.scene.accepted x.scene.sound b is, x.scene.sound.sized.marks_length))
      ∙ ap (λ (l : List ℕ). get_or l (target x.graph f.first) 0) (sym x.holds.marks_are)
      ∙ ap (λ (i : ℕ). get_or marks i 0) (sym held.target)

  look_as : (v : ℕ) → turned g b v x.graph x.state
      ≡ look_turn (get_or marks (block_at regs b).target 0) x.state b x.here.cell x.here.since x.here.left f.first f.more f.below
  look_as v =
      turn_as g b v x.graph x.state is
      ∙ ap (λ (k : ℕ). look_turn k x.state b x.here.cell x.here.since x.here.left f.first f.more f.below) mark_read

  -- a marked target: the reference is followed
  pub seen_here : get_or marks (block_at regs b).target 0 ≢ 0 → IsFollowing g targets marks (raised_words tallies b (tally 1 0 0 0)) opened_none b x.graph x.state
  seen_here n =
      record {
        cell = x.here.cell;
        since = x.here.since;
        phase = look x.here.left;
        left = x.here.left;
        first = f.first;
        more = f.more;
        below = f.below;
        is = is;
        batch_is = refl;
        found = not_claimed x.state;
        order = omega arith;
        limit = omega arith;
        opened_is = refl;
        marks_are = x.holds.marks_are;
        tallies_are = raised_held x.scene x.holds b look_low (tally 1 0 0 0);
        turn_is = λ v. look_as v ∙ by (get_or marks (block_at regs b).target 0) n;
        targets_are = x.here.targets_are;
      }
    where
      by : (k : ℕ) → k ≢ 0
          → look_turn k x.state b x.here.cell x.here.since x.here.left f.first f.more f.below
          ≡ follows x.state b x.here.cell x.here.since x.here.left (not_claimed x.state) (onward_runs f.first f.more [] f.below)
      by zero n = absurd (n refl)
      by (suc k) n = refl

  abbrev pub seen : get_or marks (block_at regs b).target 0 ≢ 0 → Ready (IsFollowing g targets marks (raised_words tallies b (tally 1 0 0 0)) opened_none b) g (memory marks work tallies regs p)
  seen n = record { graph = x.graph; state = x.state; scene = x.scene; holds = x.holds; here = seen_here n }

  -- an unmarked one: the next turn is a claim
  pub holds_claims : get_or marks (block_at regs b).target 0 ≡ 0 → (v : ℕ)
      → Holds x.graph g (turned g b v x.graph x.state) (memory marks work tallies (put_at regs b 0 7) (moved_on p 0 0))
  holds_claims z v =
      rw (look_as v, z)
      (hold_one x.holds x.scene.sound.sized.workers_length b look_low is
      (busy x.here.cell x.here.since (claim x.here.left) (run f.first f.more ∷ f.below)) work
      (put_stored regs b (block_room x.scene x.holds b look_low).long 0 7 (omega arith))
      refl
      (all_same g.workers g.stretch b work)
      (record {
        status = refl;
        cell = held.cell;
        since = held.since;
        batch = held.batch;
        carrying = record { number = held.carrying.number; told = held.carrying.told };
        target = held.target;
      })
      refl
      refl
      x.holds.marks_are
      x.holds.tallies_are
      (moved_counts x.holds 0)
      x.holds.ring_is
      (λ i k. refl)
      tt)

-- ---- a claim

module _ {g : Setup} {offsets targets : List ℕ} {b : ℕ} {marks work tallies regs : List ℕ} {p : Progress}
    (x : Ready (IsClaiming offsets targets b) g (memory marks work tallies regs p)) where
  pub claim_low : b < g.workers
  claim_low = busy_below x.scene.accepted x.scene.sound b x.here.is

  cf : First x.here.runs
  cf = first_of x.here.runs (busy_some x.scene.accepted x.scene.sound b x.here.is)

  cis : worker x.state b ≡ busy x.here.cell x.here.since (claim x.here.left) (run cf.first cf.more ∷ cf.below)
  cis = rw cf.is at x.here.is

  -- the target
  abbrev t : ℕ
  t = target x.graph cf.first

  target_word : (block_at regs b).target ≡ t
  target_word = let held : BusyIs x.graph _ _ _ _ _ _ = rw cis at (x.holds.each b claim_low) in held.target

  is_object : t < objects x.graph
  is_object = first_target x.scene.accepted x.scene.sound b cis

  pub claim_there : ((block_at regs b).target < length marks) × (b < most_workers)
  claim_there =
      omega (
        arith,
        target_word,
        is_object,
        x.scene.sound.sized.marks_length,
        ap (λ (l : List ℕ). length l) x.holds.marks_are,
        claim_low,
        x.scene.accepted.workers_limit,
      )

  -- its tally can be raised, whether it is won or lost
  pub claim_raisable : (t : Bool) → Raisable tallies b (claim_tally t)
  claim_raisable true = raisable x.scene x.holds b claim_low _ (omega arith) (omega arith) (omega arith) (omega arith)
  claim_raisable false = raisable x.scene x.holds b claim_low _ (omega arith) (omega arith) (omega arith) (omega arith)

  -- what the claim finds, by the mark that is read
  abbrev found : Claimed
  found = claims (mark_of x.state t) x.graph x.state b t

  read : mark_of x.state t ≡ get_or marks t 0
  read =
      default x.state.marks t 1 0 (omega (arith, is_object, x.scene.sound.sized.marks_length))
      ∙ ap (λ (l : List ℕ). get_or l t 0) (sym x.holds.marks_are)

  -- what opens, as the words tell it
  record Finds (o : Opened) (d : Claimed) : Type 0 where
    pub order : o.first ≤ o.end
    pub limit : o.end ≤ references x.graph
    pub opened_is : d.opened ≡ run_from o.first (o.end - o.first)

  finds : (k : ℕ) → Finds (opened_by (claim_tells k b).won offsets t) (claims k x.graph x.state b t)
  finds zero =
      let r = x.scene.accepted.formed in
      let a = ap (λ (G : Graph). after G t) x.here.graph_is in
      let q = ap (λ (G : Graph). first G t) x.here.graph_is in
      rw (add-one t)
      (record {
        order = omega (arith, r.rises t is_object, a, q);
        limit = omega (arith, after_limit x.graph r t is_object, a);
        opened_is = ap (λ (G : Graph). leaving G t) x.here.graph_is;
      })
  finds (suc k) = record { order = omega arith; limit = omega arith; opened_is = refl }

  claim_as : (v : ℕ) → turned g b v x.graph x.state
      ≡ follows x.state b x.here.cell x.here.since x.here.left found (onward_runs cf.first cf.more found.opened cf.below)
  claim_as v = turn_as g b v x.graph x.state cis

  -- the marks that it leaves
  marks_claimed : claimed_marks marks b t ≡ found.marks
  marks_claimed = by (get_or marks t 0) ∙ ap (λ (k : ℕ). (claims k x.graph x.state b t).marks) (sym read)
    where
      by : (k : ℕ) → marks_by k marks b t ≡ (claims k x.graph x.state b t).marks
      by zero = ap (λ (l : List ℕ). set l t (claim_mark b)) x.holds.marks_are
      by (suc k) = x.holds.marks_are

  -- the tallies that it leaves
  abbrev found_tally : ℕ → Tally
  found_tally k = tally 1 (claims k x.graph x.state b t).won (claims k x.graph x.state b t).lost 0

  tally_claimed : raised_words tallies b (tally_at_claim marks b t) ≡ tallies_words (tallied x.state.tallies b (tally 1 found.won found.lost 0))
  tally_claimed =
      raised_held x.scene x.holds b claim_low (tally_at_claim marks b t)
      ∙ ap (λ (y : Tally). tallies_words (tallied x.state.tallies b y)) (by (get_or marks t 0) ∙ ap found_tally (sym read))
    where
      by : (k : ℕ) → claim_tally (claim_tells k b).won ≡ found_tally k
      by zero = refl
      by (suc k) = refl

  claimed_at : IsFollowing g targets (claimed_marks marks b t) (raised_words tallies b (tally_at_claim marks b t)) (opened_at offsets marks b t) b x.graph x.state
  claimed_at =
      let d = subst (λ (k : ℕ). Finds (opened_at offsets marks b t) (claims k x.graph x.state b t)) (sym read) (finds (get_or marks t 0)) in
      record {
        cell = x.here.cell;
        since = x.here.since;
        phase = claim x.here.left;
        left = x.here.left;
        first = cf.first;
        more = cf.more;
        below = cf.below;
        is = cis;
        batch_is = refl;
        found = found;
        order = d.order;
        limit = d.limit;
        opened_is = d.opened_is;
        marks_are = marks_claimed;
        tallies_are = tally_claimed;
        turn_is = claim_as;
        targets_are = sym (ap (λ (G : Graph). G.targets) x.here.graph_is);
      }

  pub claimed_here : IsFollowing g targets (claimed_marks marks b (block_at regs b).target) (raised_words tallies b (tally_at_claim marks b (block_at regs b).target)) (opened_at offsets marks b (block_at regs b).target) b x.graph x.state
  claimed_here =
      subst (λ (i : ℕ). IsFollowing g targets (claimed_marks marks b i) (raised_words tallies b (tally_at_claim marks b i)) (opened_at offsets marks b i) b x.graph x.state) (sym target_word) claimed_at

  abbrev pub claimed : Ready (IsFollowing g targets (claimed_marks marks b (block_at regs b).target) (raised_words tallies b (tally_at_claim marks b (block_at regs b).target)) (opened_at offsets marks b (block_at regs b).target) b) g (memory marks work tallies regs p)
  claimed = record { graph = x.graph; state = x.state; scene = x.scene; holds = x.holds; here = claimed_here }
