-- The count of workers that carry references: `Sound` keeps it.
use mathlib.Core.Path.{◌≡◌, ap}
use mathlib.Core.Bool.{true}
use mathlib.Core.List.{List}
use Prim.Native.Nat.{ℕ}
use lib.ListN.{take}
use Rattle.laws.specs.Sum.{sum}
use Rattle.laws.proofs.Sum.{sum_zero_each}
use Rattle.graph.specs.Graph.{Graph}
use Rattle.machine.specs.Run.{carried}
use Rattle.machine.specs.Machine.{Setting, State, Entry, ended, carried_by, carried_all, all_ended, result}
use Rattle.machine.specs.Accepted.{Accepted}
use Rattle.machine.specs.Demand2.{outcome}
use Rattle.machine.specs.Lamp.{Lamp}
use Rattle.theorems.proofs.Facts.{carried_none}
use Rattle.theorems.proofs.Start.{sound}
use Rattle.theorems.proofs.Ended.{ended_at}
use Rattle.theorems.proofs.Unread.{turn_unread}

module _ {G : Graph} {starts : List ℕ} {W : ℕ} {g : Setting} (A : Accepted G starts W g) where
  -- in a finished collection nobody carries anything
  none_carried : (s : State) → all_ended s.workers ≡ true → carried_all s ≡ 0
  unfolding carried sum
  none_carried s done = sum_zero_each carried_by ended s.workers (λ (i : ℕ). ap carried_by (ended_at s.workers done i))

  pub lamp : (xs : List Entry) → Lamp G starts W g xs (result (outcome G starts W g xs))
  lamp xs =
      record {
        counted = λ k. (sound A (take k xs)).carrying_is;
        reported = (sound A xs).carrying_is;
        finished_none = λ done. carried_none A (sound A xs) (none_carried (outcome G starts W g xs) done);
        unread = λ s c x. turn_unread G g s c x;
      }
