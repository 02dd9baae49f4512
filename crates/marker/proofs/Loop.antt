-- The loop over the schedule: at each entry the turns that are left give the answer.
use mathlib.Core.Path.{◌≡◌, refl, sym, ap, ◌∙◌, subst}
use mathlib.Core.Bool.{true, false}
use mathlib.Core.List.{List, [], ◌∷◌, ◌++◌}
use Prim.Native.Nat.{ℕ, suc, ◌+◌, ◌≤◌, ◌<◌, ◌^◌}
use native.Mathlib.Nat.{zero-add}
use native.Mathlib.Omega.{arith}
use borrow.Author.Tests.{ltb-true, ne_eqb}
use lib.ListN.{length, get_or}
use lib.Dec.{ltb, eqb}
use Rattle.laws.specs.Sum.{sum}
use Rattle.laws.proofs.Test.{both_true}
use Rattle.graph.specs.Graph.{Graph}
use Rattle.machine.specs.Machine.{Setting, State, Worker, idle, asking, denied, ended, given, busy, Entry, all_ended, entries, turn, turns}
use Rattle.machine.specs.Accepted.{Accepted}
use Rattle.machine.specs.Sound.{Sound}
use Rattle.desk.specs.Checks.{schedule_fits}
use Rattle.theorems.proofs.Kept.{sound_turn}
use Rattle.theorems.proofs.Progress.{counts_grow}
use Rattle.theorems.proofs.Ended.{ended_turns}
use Rattle.step.specs.declared.Setup.{Setup}
use Rattle.step.specs.Counting.{running?}
use Rattle.step.specs.Held.{Memory, setting_of, Holds}
use Rattle.step.specs.Turned.{Ready, Does}
use Rattle.turns.specs.Lent.{IsLent}
use Rattle.marker.specs.Stages.{IsScheduled, scheduled}

-- ---- what is left of a schedule that fits

-- an entry and what is left behind it
module _ {rest : List ℕ} (pair rest' : List ℕ) (is : rest ≡ pair ++ rest') (two : length pair ≡ 2) where
  entry_is : rest ≡ get_or pair 0 0 ∷ get_or pair 1 0 ∷ rest'
  entry_is = is ∙ by pair two
    where
      by : (l : List ℕ) → length l ≡ 2 → l ++ rest' ≡ get_or l 0 0 ∷ get_or l 1 0 ∷ rest'
      by [] e = absurd (omega arith)
      by (b ∷ []) e = absurd (omega arith)
      by (b ∷ v ∷ []) e = refl
      by (b ∷ v ∷ x ∷ l) e = absurd (omega arith)

  entry_fits : (W : ℕ) → schedule_fits W rest ≡ true → (ltb (get_or pair 0 0) W ≡ true) × (schedule_fits W rest' ≡ true)
  unfolding schedule_fits
  entry_fits W ok =
      both_true (ltb (get_or pair 0 0) W) (schedule_fits W rest') (sym (ap (λ (t : List ℕ). schedule_fits W t) entry_is) ∙ ok)

-- where not two bytes are left, none is
none_left : (W : ℕ) (rest : List ℕ) → schedule_fits W rest ≡ true → length rest < 2 → rest ≡ []
unfolding schedule_fits
none_left W [] ok h = refl
none_left W (b ∷ []) ok h = absurd (cc)
none_left W (b ∷ v ∷ rest) ok h = absurd (omega arith)

-- ---- nobody is running

some_running : (k : ℕ) → eqb (1 + k) 0 ≡ false
some_running k = ne_eqb (1 + k) 0 (λ e. omega arith)

-- then all workers have ended
pub all_ended_lem : (ws : List Worker) → eqb (sum running? ws) 0 ≡ all_ended ws
unfolding all_ended sum
all_ended_lem [] = refl
all_ended_lem (idle ∷ ws) = some_running (sum running? ws)
all_ended_lem (asking ∷ ws) = some_running (sum running? ws)
all_ended_lem (denied ∷ ws) = some_running (sum running? ws)
all_ended_lem (ended ∷ ws) = ap (λ (k : ℕ). eqb k 0) (zero-add (sum running? ws)) ∙ all_ended_lem ws
all_ended_lem (given rs ∷ ws) = some_running (sum running? ws)
all_ended_lem (busy c n p rs ∷ ws) = some_running (sum running? ws)

-- ---- the loop

module _ {g : Setup} {offsets targets schedule : List ℕ} {μ₀ : Memory} where
  -- what is held where so much of the schedule is left
  pub record LoopAt (x : Ready (IsScheduled g offsets targets schedule) g μ₀) (rest : List ℕ) (μ : Memory) : Type 0 where
    pub state : State
    pub sound : Sound x.graph x.scene.starts g.workers (setting_of g) state
    pub holds : Holds x.graph g state μ
    pub fits : schedule_fits g.workers rest ≡ true
    pub left : turns x.graph (setting_of g) state (entries rest) ≡ scheduled g schedule x.graph x.state
    pub handed_room : state.counts.handed + length (entries rest) < 2 ^ 64
    pub moved_room : state.counts.moved + length (entries rest) < 2 ^ 64

  module _ (x : Ready (IsScheduled g offsets targets schedule) g μ₀) where
    pub at_start : LoopAt x schedule μ₀
    at_start =
        record {
          state = x.state;
          sound = x.scene.sound;
          holds = x.holds;
          fits = x.here.fits;
          left = refl;
          handed_room = x.here.handed_room;
          moved_room = x.here.moved_room;
        }

    module _ {rest : List ℕ} {μ : Memory} (r : LoopAt x rest μ) where
      -- no entry is left, or nobody is running: the state is the answer
      abbrev Done : Type 0
      Done = Holds x.graph g (scheduled g schedule x.graph x.state) μ

      done_by : r.state ≡ scheduled g schedule x.graph x.state → Done
      done_by e = subst (λ (t : State). Holds x.graph g t μ) e r.holds

      pub at_end : length rest < 2 → Done
      unfolding turns entries
      at_end h =
          let d : entries rest ≡ [] = ap entries (none_left g.workers rest r.fits h) in
          done_by (ap (λ (t : List Entry). turns x.graph (setting_of g) r.state t) (sym d) ∙ r.left)

      pub at_stop : μ.progress.running ≡ 0 → Done
      at_stop e =
          let none = sym r.holds.running_is ∙ e in
          let all : all_ended r.state.workers ≡ true = sym (all_ended_lem r.state.workers) ∙ ap (λ (k : ℕ). eqb k 0) none in
          done_by (sym (ended_turns x.graph (setting_of g) r.state all (entries rest)) ∙ r.left)

      -- a turn: the next two bytes are an entry
      module _ (pair rest' : List ℕ) (is : rest ≡ pair ++ rest') (two : length pair ≡ 2) where
        abbrev here : Entry
        here = record { worker = get_or pair 0 0; named = get_or pair 1 0 }

        next_is : entries rest ≡ here ∷ entries rest'
        unfolding entries
        next_is = ap entries (entry_is pair rest' is two)

        next_count : length (entries rest) ≡ suc (length (entries rest'))
        next_count = ap length next_is

        pub at_turn : Ready (IsLent g offsets targets (get_or pair 0 0)) g μ
        at_turn =
            record {
              graph = x.graph;
              state = r.state;
              scene =
                  record {
                    starts = x.scene.starts;
                    accepted = x.scene.accepted;
                    sound = r.sound;
                    objects_limit = x.scene.objects_limit;
                    references_limit = x.scene.references_limit;
                    stretch_is = x.scene.stretch_is;
                    handed_room = omega (arith, r.handed_room, next_count);
                    moved_room = omega (arith, r.moved_room, next_count);
                  };
              holds = r.holds;
              here =
                  record {
                    graph_is = x.here.graph_is;
                    low = ltb-true (get_or pair 0 0) g.workers (entry_fits pair rest' is two g.workers r.fits).0;
                  };
            }

        pub at_next : {μ' : Memory} → Does (IsLent g offsets targets (get_or pair 0 0)) g (get_or pair 0 0) (get_or pair 1 0) μ μ'
            → LoopAt x rest' μ'
        unfolding at_turn turns
        at_next does =
            let grown = counts_grow x.scene.accepted r.sound here in
            record {
              state = turn x.graph (setting_of g) r.state here;
              sound = sound_turn x.scene.accepted r.sound here;
              holds = does at_turn;
              fits = (entry_fits pair rest' is two g.workers r.fits).1;
              left = sym (ap (λ (l : List Entry). turns x.graph (setting_of g) r.state l) next_is) ∙ r.left;
              handed_room = omega (arith, r.handed_room, next_count, grown.0);
              moved_room = omega (arith, r.moved_room, next_count, grown.1);
            }

-- ---- after the loop

-- handed rises by 1 a turn at most
handed_turns : {G : Graph} {starts : List ℕ} {W : ℕ} {d : Setting} {s : State} → Accepted G starts W d → Sound G starts W d s → (es : List Entry)
    → (turns G d s es).counts.handed ≤ s.counts.handed + length es
unfolding turns
handed_turns a n [] = omega arith
handed_turns {G} {starts} {W} {d} {s} a n (e ∷ es) =
    omega (arith, (counts_grow a n e).0, handed_turns {s = turn G d s e} a (sound_turn a n e) es)

-- so it does not wrap over the schedule
pub handed_fits : {g : Setup} {offsets targets schedule : List ℕ} {μ : Memory} (x : Ready (IsScheduled g offsets targets schedule) g μ)
    → (scheduled g schedule x.graph x.state).counts.handed < 2 ^ 64
handed_fits {schedule = schedule} x = omega (arith, handed_turns x.scene.accepted x.scene.sound (entries schedule), x.here.handed_room)

-- an entry is two bytes
pub entries_few : (l : List ℕ) → length (entries l) ≤ length l
unfolding entries
entries_few [] = omega arith
entries_few (b ∷ []) = omega arith
entries_few (b ∷ v ∷ l) = omega (arith, entries_few l)
