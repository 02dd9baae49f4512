-- At each entry the turns that are left give the answer; where nobody is running they change nothing.
use Rattle.std.proofs.Common.{refl, ◌∙◌, arith}
use Rattle.marker.proofs.Loop.{at_start, at_stop, at_end, at_turn, at_next}
use Rattle.marker.proofs.take_turns.Goals as goal

pub returns-then-begun-eq0 : goal.returns-then-begun-eq0
returns-then-begun-eq0 c = λ x. at_stop x (at_start x) c.if-begun-eq0.true

pub loop-pair-init : goal.loop-pair-init
loop-pair-init c =
    rw (c.into_iter-pair-iterator.ensures.into_iter_gives, c.chunks_exact-pair-items.ensures.size, c.chunks_exact-pair-items.ensures.rest)
    (refl, omega arith, tt, λ x. at_start x)

pub turn-requires : goal.turn-requires
turn-requires c =
    let x = c.requires in
    let s = c.in-Some.ensures.steps in
    at_turn x (c.loop-pair.invariant.3 x) c.in-Some.pair.now _ s.1.0 (s.1.1 ∙ c.loop-pair.invariant.0)

pub loop-pair-preserved : goal.loop-pair-preserved
loop-pair-preserved c =
    let s = c.in-Some.ensures.steps in
    let four = s.0 ∙ c.loop-pair.invariant.0 in (
      four,
      omega arith,
      tt,
      λ x. at_next x (c.loop-pair.invariant.3 x) c.in-Some.pair.now _ s.1.0 (s.1.1 ∙ c.loop-pair.invariant.0) c.in-Continue.ensures.does,
    )

pub returns-in-Break : goal.returns-in-Break
returns-in-Break c =
    let s = c.in-Some.ensures.steps in
    λ x. at_stop x
    (at_next x (c.loop-pair.invariant.3 x) c.in-Some.pair.now _ s.1.0 (s.1.1 ∙ c.loop-pair.invariant.0) c.in-Break.ensures.does)
    c.in-Break.ensures.told_over

pub returns : goal.returns
returns c = λ x. at_end x (c.loop-pair.invariant.3 x) (omega (arith, c.in-None.ensures.steps.1.0, c.loop-pair.invariant.0))
