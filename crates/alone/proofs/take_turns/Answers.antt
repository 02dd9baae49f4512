-- What is carried is followed in parts, until nothing is left.
use Rattle.std.proofs.Common.{arith}
use Rattle.alone.proofs.Going.{polls_as, counts_few, load_few, part_ready, part_size, part_followed}
use Rattle.alone.proofs.Ending.{going_begins, endable, holds_ended}
use Rattle.alone.proofs.take_turns.Goals as goal

pub loop-top-init : goal.loop-top-init
loop-top-init c = λ x. rw (c.load_of-load.ensures, c.top_of-top.ensures, c.load-block.ensures) (going_begins c.requires.workers_value x)

pub poll-l-requires : goal.poll-l-requires
poll-l-requires c =
    let g = c.loop-top.invariant c.requires.ready in
    omega (arith, counts_few g, g.here.references_limit)

pub follow-found-requires-clause-some : goal.follow-found-requires-clause-some
follow-found-requires-clause-some c =
    (part_size (c.loop-top.invariant c.requires.ready) c.loop-top-test.true c.poll-l.ensures c.min-size.ensures).0

pub follow-found-requires-clause-ready : goal.follow-found-requires-clause-ready
follow-found-requires-clause-ready c =
    part_ready (c.loop-top.invariant c.requires.ready) c.loop-top-test.true c.poll-l.ensures c.min-size.ensures

pub next-top-requires : goal.next-top-requires
next-top-requires c =
    let x = part_ready (c.loop-top.invariant c.requires.ready) c.loop-top-test.true c.poll-l.ensures c.min-size.ensures in
    (c.follow-found.ensures x).holds.room

pub overflow_add-load : goal.overflow_add-load
overflow_add-load c =
    let n =
    part_followed (c.loop-top.invariant c.requires.ready) c.loop-top-test.true c.poll-l.ensures c.min-size.ensures c.follow-found.ensures
    c.next-top.ensures
    in
    omega (arith, load_few n, n.here.references_limit)

pub overflow_add-followed : goal.overflow_add-followed
overflow_add-followed c =
    let n =
    part_followed (c.loop-top.invariant c.requires.ready) c.loop-top-test.true c.poll-l.ensures c.min-size.ensures c.follow-found.ensures
    c.next-top.ensures
    in
    omega (arith, counts_few n, n.here.references_limit)

pub overflow_add-won : goal.overflow_add-won
overflow_add-won c =
    let n =
    part_followed (c.loop-top.invariant c.requires.ready) c.loop-top-test.true c.poll-l.ensures c.min-size.ensures c.follow-found.ensures
    c.next-top.ensures
    in
    omega (arith, counts_few n, n.here.references_limit)

pub loop-top-smaller : goal.loop-top-smaller
loop-top-smaller c =
    let g = c.loop-top.invariant c.requires.ready in
    let h = c.loop-top-test.true in
    let n = part_followed g h c.poll-l.ensures c.min-size.ensures c.follow-found.ensures c.next-top.ensures in
    omega (arith, counts_few n, (part_size g h c.poll-l.ensures c.min-size.ensures).0, polls_as g h c.poll-l.ensures)

pub loop-top-preserved : goal.loop-top-preserved
loop-top-preserved c = λ x.
    part_followed (c.loop-top.invariant x) c.loop-top-test.true c.poll-l.ensures c.min-size.ensures c.follow-found.ensures
    c.next-top.ensures

pub end-requires : goal.end-requires
end-requires c =
    endable c.requires.workers_value c.requires.ready (c.loop-top.invariant c.requires.ready) (omega (arith, c.loop-top-test.false))

pub returns : goal.returns
returns c = λ x.
    holds_ended c.requires.workers_value x (c.loop-top.invariant x) (omega (arith, c.loop-top-test.false)) c.end.ensures c.end.auto.regs
