-- Rounds on the lent memories, until all workers have ended.
use Prim.Native.Nat.{ℕ, suc, ◌+◌, ◌*◌, ◌≤◌, ◌<◌}
use mathlib.Core.Path.{◌≡◌, refl, sym, ap, subst, ◌∙◌}
use mathlib.Core.Bool.{true}
use mathlib.Core.Logic.{◌≢◌, by_cases}
use mathlib.Core.List.{List, ◌++◌}
use native.Mathlib.Decide.{dec_le}
use native.Mathlib.Nat.{mul-le-mul_left}
use native.Mathlib.Omega.{arith}
use borrow.Author.Tests.{eq-eqb, eqb-true}
use lib.ListN.{length, take}
use lib.Seq.{take_at}
use Rattle.laws.specs.Sum.{sum}
use Rattle.graph.specs.Graph.{Graph, references}
use Rattle.graph.specs.Chain.{leaving_reached}
use Rattle.machine.specs.Machine.{State, start, turns, entries, all_ended}
use Rattle.machine.specs.Demand3.{stretch_bound}
use Rattle.theorems.proofs.Start as starting
use Rattle.theorems.proofs.Demand3.{reached_limit, demand3}
use Rattle.step.specs.declared.Setup.{Setup}
use Rattle.step.specs.Counting.{running?}
use Rattle.step.specs.Held.{Memory, setting_of, Holds}
use Rattle.step.specs.Turned.{Ready}
use Rattle.marker.specs.Stages.{IsScheduled, scheduled, DoesAll}
use Rattle.marker.proofs.Loop.{all_ended_lem, entries_few}
use Rattle.rounds.specs.Whole.{round_from, rounds_of, enough_rounds, IsStart}
use Rattle.rounds.proofs.Rounds.{round_fits_alone, round_long, after_one, enough_end, enough_same}

-- a round, written at the beginning of longer bytes
pub round_front : (W : ℕ) {round : List ℕ} (rest : List ℕ) → round ≡ round_from W 0 W → take (2 * W) (round ++ rest) ≡ round_from W 0 W
round_front W {round} rest e = take_at round rest (2 * W) (ap (λ (l : List ℕ). length l) e ∙ round_long W 0 W) ∙ e

module _ {offsets targets : List ℕ} {g : Setup} {μ₀ : Memory} (x : Ready (IsStart g offsets targets) g μ₀) where
  abbrev starts : List ℕ
  starts = x.here.starts

  abbrev W : ℕ
  W = g.workers

  -- the state after so many rounds
  abbrev after : ℕ → State
  after i = turns x.graph (setting_of g) (start x.graph starts W) (entries (rounds_of W i))

  abbrev enough : ℕ
  enough = stretch_bound (leaving_reached x.graph starts) W

  -- the memories hold it
  pub record RoundsAt (i : ℕ) (μ : Memory) : Type 0 where
    pub few : i ≤ enough
    pub holds : Holds x.graph g (after i) μ

  pub rounds_begun : RoundsAt 0 μ₀
  unfolding rounds_of turns entries
  rounds_begun = record { few = omega arith; holds = subst (λ (s : State). Holds x.graph g s μ₀) x.here.state_is x.holds }

  pub rounds_most : enough ≤ 7 * length targets + 4 * W + 2
  rounds_most = omega (arith, reached_limit x.here.accepted, ap (λ (G : Graph). references G) x.here.graph_is)

  module _ {i : ℕ} {μ : Memory} (r : RoundsAt i μ) where
    ended_now : (k : ℕ) → μ.progress.running ≡ k → k ≡ 0 → all_ended (after i).workers ≡ true
    ended_now k e z = sym (all_ended_lem (after i).workers) ∙ eq-eqb (sum running? (after i).workers) 0 (sym r.holds.running_is ∙ e ∙ z)

    -- somebody is running: another round
    module _ (some : μ.progress.running ≢ 0) where
      pub fewer : i < enough
      fewer = by_cases (dec_le (suc i) enough) (λ (p : suc i ≤ enough). p) (λ (p : ¬ (suc i ≤ enough)). absurd (some (none (omega (arith, p, r.few)))))
        where
          none : i ≡ enough → μ.progress.running ≡ 0
          none e =
              r.holds.running_is
              ∙ eqb-true (sum running? (after i).workers) 0
              (all_ended_lem (after i).workers ∙ ap (λ (k : ℕ). all_ended (after k).workers) e ∙ enough_end x.here.accepted)

      module _ {schedule : List ℕ} (is : schedule ≡ round_from W 0 W) where
        unfoldable pub round_ready : Ready (IsScheduled g offsets targets schedule) g μ
        round_ready =
            let d = demand3 x.here.accepted (entries (rounds_of W i)) in
            let n = reached_limit x.here.accepted in
            let h : (after i).counts.handed * 1 ≤ (after i).counts.handed * g.cutoff = mul-le-mul_left (after i).counts.handed x.here.accepted.some_cutoff in
            let few = entries_few schedule in
            let long = ap (λ (l : List ℕ). length l) is ∙ round_long W 0 W in
            record {
              graph = x.graph;
              state = after i;
              scene =
                  record {
                    starts = starts;
                    accepted = x.here.accepted;
                    sound = starting.sound x.here.accepted (entries (rounds_of W i));
                    objects_limit = x.scene.objects_limit;
                    references_limit = x.scene.references_limit;
                    stretch_is = x.scene.stretch_is;
                    handed_room = omega (arith, h, d.handed, n, x.scene.references_limit);
                    moved_room = omega (arith, d.moved, n, x.scene.references_limit, x.here.accepted.workers_limit);
                  };
              holds = r.holds;
              here =
                  record {
                    graph_is = x.here.graph_is;
                    fits = rw is (round_fits_alone W);
                    handed_room = omega (arith, h, d.handed, n, x.scene.references_limit, few, long, x.here.accepted.workers_limit);
                    moved_room = omega (arith, d.moved, n, x.scene.references_limit, few, long, x.here.accepted.workers_limit);
                  };
            }

        pub round_done : {μ' : Memory} → DoesAll (IsScheduled g offsets targets schedule) g schedule μ μ' → RoundsAt (i + 1) μ'
        unfolding round_ready
        round_done {μ'} does =
            record {
              few = omega (arith, fewer);
              holds =
                  subst (λ (s : State). Holds x.graph g s μ')
                  (ap (λ (l : List ℕ). turns x.graph (setting_of g) (after i) (entries l)) is ∙ sym (after_one x.here.accepted i))
                  (does round_ready);
            }

    -- nobody is: these were enough
    pub rounds_over : μ.progress.running ≡ 0
        → Holds x.graph g (scheduled g (enough_rounds x.graph starts W) x.graph x.state) μ
    rounds_over e =
        subst (λ (s : State). Holds x.graph g s μ)
        (sym (enough_same x.here.accepted i (ended_now 0 e refl))
        ∙ ap (λ (s : State). scheduled g (enough_rounds x.graph starts W) x.graph s) (sym x.here.state_is))
        r.holds
