use Rattle.std.proofs.Common.{arith}
use Rattle.sweep.proofs.Dead.{at_start, at_here, at_since, at_skip, at_end, live_block}
use Rattle.sweep.proofs.list_dead.Goals as goal

pub loop-from-init : goal.loop-from-init
loop-from-init c = at_start c.requires

-- a block with a dead object
pub list_part-found-requires : goal.list_part-found-requires
list_part-found-requires c =
    let a = c.loop-from.invariant in (at_here a, omega arith, omega (arith, a.low, c.loop-from-test.true))

pub loop-from-preserved-then-not-block_live : goal.loop-from-preserved-then-not-block_live
loop-from-preserved-then-not-block_live c = at_since c.loop-from.invariant c.list_part-found.ensures

-- or without one
pub loop-from-preserved : goal.loop-from-preserved
loop-from-preserved c = at_skip 16 c.loop-from.invariant (omega (arith, c.loop-from.invariant.low, c.loop-from-test.true))
    (live_block _ _ (omega (arith, c.loop-from.invariant.low, c.loop-from-test.true)) (c.block_live.ensures c.if-not-block_live.false))

pub list_part-requires : goal.list_part-requires
list_part-requires c = let a = c.loop-from.invariant in (at_here a, a.low, omega arith)

pub returns : goal.returns
returns c = at_end (at_since c.loop-from.invariant c.list_part.ensures) (omega arith)
