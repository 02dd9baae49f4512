use Rattle.std.proofs.Common.{arith, sym, ◌∙◌}
use Rattle.graph.proofs.Formed.{formed}
use Rattle.checks.proofs.check_store.Goals as goal

-- a graph has an offset
pub overflow_sub-offsets : goal.overflow_sub-offsets
overflow_sub-offsets c = omega (arith, (formed _ (sym c.well_formed-2.ensures ∙ c.if-not-well_formed.false)).some)
