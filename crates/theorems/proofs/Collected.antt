-- What is promised of a collection's turns, each part by its theorem. R counts the trail of a schedule that is long enough to finish.
use mathlib.Core.Path.{sym, ◌∙◌}
use mathlib.Core.List.{List}
use Prim.Native.Nat.{ℕ}
use lib.ListN.{take}
use Rattle.graph.specs.Graph.{Graph}
use Rattle.graph.specs.Chain.{leaving_reached}
use Rattle.graph.specs.Leaving.{ReachedReferences}
use Rattle.machine.specs.Machine.{Setting, Entry, entries, result}
use Rattle.machine.specs.Accepted.{Accepted}
use Rattle.machine.specs.Demand2.{outcome}
use Rattle.machine.specs.Demand3.{trail_of, long_schedule}
use Rattle.theorems.specs.Collected.{Collected}
use Rattle.theorems.proofs.Start.{sound}
use Rattle.theorems.proofs.Demand2.{demand2}
use Rattle.theorems.proofs.Demand3.{demand3}
use Rattle.theorems.proofs.Instances.{long_finished}
use Rattle.theorems.proofs.Lamp.{lamp}
use Rattle.theorems.proofs.Owners.{owners}
use Rattle.theorems.proofs.Tallies.{tallies}
use Rattle.theorems.proofs.Waiting.{waits_fresh}

module _ {G : Graph} {starts : List ℕ} {W : ℕ} {g : Setting} (A : Accepted G starts W g) where
  reached_references : ReachedReferences G starts (leaving_reached G starts)
  reached_references =
      let xs = entries (long_schedule G starts W) in
      let d = demand3 A xs in
      let done = long_finished A in
      record {
        numbers = trail_of G starts W g xs;
        once = d.once;
        exactly = d.exactly done;
        many = sym d.followed ∙ d.whole done;
      }

  pub collected : (xs : List Entry)
      → Collected G starts W g xs (result (outcome G starts W g xs)) (outcome G starts W g xs).marks (outcome G starts W g xs).tallies
  collected xs =
      record {
        demand2 = demand2 A xs;
        demand3 = demand3 A xs;
        R_is = reached_references;
        lamp = lamp A xs;
        owners = owners A xs;
        counted = tallies A xs;
        waits = λ k. waits_fresh A (take k xs);
        ended_empty = λ k. (sound A (take k xs)).stopped_empty;
      }
