-- After each round the memories hold the state after so many.
use Rattle.std.proofs.Common.{ap, arith}
use Rattle.graph.specs.Graph.{Graph, references}
use Rattle.mark_all.proofs.Taking.{rounds_begun, rounds_most, fewer, round_ready, round_done, rounds_over, round_front}
use Rattle.mark_all.proofs.take_rounds.Goals as goal

pub loop-p-init : goal.loop-p-init
loop-p-init c = λ x. rounds_begun x

pub take_turns-p-requires : goal.take_turns-p-requires
take_turns-p-requires c =
    let x = c.requires in
    round_ready x (c.loop-p.invariant x) c.loop-p-test.true (round_front _ _ c.put_round.ensures)

pub overflow_add-i : goal.overflow_add-i
overflow_add-i c =
    let x = c.requires in
    omega (
      arith,
      fewer x (c.loop-p.invariant x) c.loop-p-test.true,
      rounds_most x,
      x.here.accepted.workers_limit,
      x.scene.references_limit,
      ap (λ (G : Graph). references G) x.here.graph_is,
    )

pub loop-p-smaller : goal.loop-p-smaller
loop-p-smaller c =
    let x = c.requires in
    omega (arith, fewer x (c.loop-p.invariant x) c.loop-p-test.true, rounds_most x)

pub loop-p-preserved : goal.loop-p-preserved
loop-p-preserved c = λ x.
    round_done x (c.loop-p.invariant x) c.loop-p-test.true (round_front _ _ c.put_round.ensures) c.take_turns-p.ensures

pub returns : goal.returns
returns c = λ x. rounds_over x (c.loop-p.invariant x) (omega (arith, c.loop-p-test.false))
