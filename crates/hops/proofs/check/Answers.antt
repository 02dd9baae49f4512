-- At each exit the checks before it found nothing, and this one what it says.
use Rattle.std.proofs.Common.{length, arith}
use Rattle.graph.specs.Graph.{graph, objects}
use Rattle.desk.proofs.Checks.{so, counts_low}
use Rattle.hops.proofs.Checks.{finds_4, finds_7, finds_store}
use Rattle.hops.proofs.check.Goals as goal

pub returns-then-graph_outside : goal.returns-then-graph_outside
returns-then-graph_outside c = finds_4 (so c.graph_outside.ensures c.if-graph_outside.true)

pub overflow_sub-offsets : goal.overflow_sub-offsets
overflow_sub-offsets c =
    let low = counts_low (objects (graph c.args.offsets.now c.args.targets.now)) (length c.args.targets.now) (so c.graph_outside.ensures c.if-graph_outside.false) in
    omega arith

pub buffers_wrong-requires : goal.buffers_wrong-requires
buffers_wrong-requires c = (counts_low _ _ (so c.graph_outside.ensures c.if-graph_outside.false)).1

pub returns-then-buffers_wrong : goal.returns-then-buffers_wrong
returns-then-buffers_wrong c =
    finds_7 (so c.graph_outside.ensures c.if-graph_outside.false) (so c.buffers_wrong.ensures c.if-buffers_wrong.true)

pub returns : goal.returns
returns c =
    finds_store (so c.graph_outside.ensures c.if-graph_outside.false) (so c.buffers_wrong.ensures c.if-buffers_wrong.false) c.check_store.ensures
