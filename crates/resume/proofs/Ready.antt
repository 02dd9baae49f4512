-- From saved words to the turns.
use mathlib.Core.Path.{◌≡◌}
use mathlib.Core.Bool.{true}
use mathlib.Core.List.{List, [], ◌∷◌}
use Prim.Native.Nat.{ℕ, ◌+◌, ◌*◌, ◌≤◌, ◌<◌, ◌^◌}
use native.Mathlib.Nat.{mul-le-mul_left, mul-one}
use native.Mathlib.Omega.{arith}
use lib.ListN.{length}
use Rattle.graph.specs.Graph.{graph}
use Rattle.graph.specs.Limits.{most_references}
use Rattle.machine.specs.Machine.{entries}
use Rattle.desk.specs.Checks.{schedule_fits}
use Rattle.step.specs.declared.Setup.{Setup}
use Rattle.step.specs.declared.Progress.{Progress}
use Rattle.step.specs.Held.{memory}
use Rattle.step.specs.Turned.{Ready}
use Rattle.marker.specs.Stages.{IsScheduled}
use Rattle.checkpoint.specs.Restoring.{Resumable, Resumes}

-- an entry is two bytes
pub entries_half : (l : List ℕ) → 2 * length (entries l) ≤ length l
unfolding entries
entries_half [] = omega arith
entries_half (b ∷ []) = omega arith
entries_half (b ∷ v ∷ l) = omega (arith, entries_half l)

module _ {g : Setup} {targets marks work tallies regs w : List ℕ} (x : Resumable targets g w marks work tallies regs) where
  -- no hand-overs beyond 3m
  pub handed_few : x.state.counts.handed ≤ 3 * most_references
  handed_few =
      omega (
        arith,
        mul-le-mul_left x.state.counts.handed x.accepted.some_cutoff,
        mul-one x.state.counts.handed,
        x.run.saved.handed_limit,
        x.references_limit,
      )

  pub moved_few : x.state.counts.moved ≤ 7 * most_references + 16
  moved_few = omega (arith, x.run.saved.moved_limit, x.references_limit, x.accepted.workers_limit)

  unfoldable pub resume_ready : {offsets schedule : List ℕ} → x.graph ≡ graph offsets targets → schedule_fits g.workers schedule ≡ true
      → length schedule < 2 ^ 64 → {marks₁ work₁ tallies₁ regs₁ : List ℕ} {p₁ : Progress}
      → Resumes targets g w marks work tallies regs marks₁ work₁ tallies₁ regs₁ p₁
      → Ready (IsScheduled g offsets targets schedule) g (memory marks₁ work₁ tallies₁ regs₁ p₁)
  resume_ready {schedule = schedule} e fits short d =
      record {
        graph = x.graph;
        state = x.state;
        scene =
            record {
              starts = x.starts;
              accepted = x.accepted;
              sound = x.run.saved.sound;
              objects_limit = x.objects_limit;
              references_limit = x.references_limit;
              stretch_is = x.stretch_is;
              handed_room = omega (arith, handed_few);
              moved_room = omega (arith, moved_few);
            };
        holds = d x;
        here =
            record {
              graph_is = e;
              fits = fits;
              handed_room = omega (arith, handed_few, entries_half schedule, short);
              moved_room = omega (arith, moved_few, entries_half schedule, short);
            };
      }
