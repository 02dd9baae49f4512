-- before each turn the slots below k, the carry and the slots of both bags from k on hold the objects of both
use Rattle.std.proofs.Common.{◌≡◌}
use Rattle.bag.proofs.Joining.{Joining}
use Rattle.bag.proofs.Bag.join.Given as goal

abbrev pub invariant-loop-k : goal.invariant-loop-k
invariant-loop-k l = record {
  joining : Joining l.fn.links l.fn.self l.fn.other l.links l.self.slots l.carry l.k l.rest;
  size_same : l.self.size ≡ l.fn.self.size;
}
