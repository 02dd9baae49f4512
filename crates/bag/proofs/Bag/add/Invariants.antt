-- before each turn the pennant in hand and the slots from k on hold the bag's objects and the new one
use Rattle.std.proofs.Common.{◌≡◌, ◌-◌}
use Rattle.bag.specs.Bag.{slot_count}
use Rattle.bag.proofs.Adding.{Adding}
use Rattle.bag.proofs.Bag.add.Given as goal

abbrev pub invariant-loop-self : goal.invariant-loop-self
invariant-loop-self l = record {
  adding : Adding l.fn.links l.fn.self l.x l.links l.self.slots l.root l.k;
  size_same : l.self.size ≡ l.fn.self.size;
}

abbrev pub decreases-loop-self : goal.decreases-loop-self
decreases-loop-self l = slot_count - l.k
