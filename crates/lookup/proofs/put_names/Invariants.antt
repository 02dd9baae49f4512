use Rattle.lookup.proofs.Gathering.{IndexedTo}
use Rattle.lookup.proofs.put_names.Given as goal

-- before turn k the tails of the first k names are in the index, and hints behind the set
abbrev pub invariant-loop-k : goal.invariant-loop-k
invariant-loop-k l = IndexedTo l.names l.width l.k l.index
