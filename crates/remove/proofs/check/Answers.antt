-- At each exit the checks before it found nothing, and this one what it says.
use Rattle.std.proofs.Common.{sym}
use Rattle.updates.proofs.Checks.{remove_4, remove_5, remove_7, remove_by}
use Rattle.remove.proofs.check.Goals as goal

pub returns-then-graph_outside : goal.returns-then-graph_outside
returns-then-graph_outside c = remove_4 (sym c.if-graph_outside.ensures)

pub returns-then-not-is_below : goal.returns-then-not-is_below
returns-then-not-is_below c = remove_5 (sym c.if-graph_outside.ensures) (sym c.if-not-is_below.ensures)

pub returns-then-lengths_wrong : goal.returns-then-lengths_wrong
returns-then-lengths_wrong c =
    remove_7 (sym c.if-graph_outside.ensures) (sym c.if-not-is_below.ensures) c.count_named-named.ensures.0 (sym c.if-lengths_wrong.ensures)

pub returns : goal.returns
returns c =
    remove_by (sym c.if-graph_outside.ensures) (sym c.if-not-is_below.ensures) c.count_named-named.ensures.0 (sym c.if-lengths_wrong.ensures) _ c.check_store.ensures
