-- The words are those of so many tallies, and four come at a time.
use Rattle.std.proofs.Common.{◌∙◌, ◌*◌, refl, arith, length-take}
use Rattle.step.proofs.Counting.{words_length, left_all, left_next, left_none}
use Rattle.step.proofs.counts.total.Goals as goal

pub slice_bounds-chunks_exact-end : goal.slice_bounds-chunks_exact-end
slice_bounds-chunks_exact-end c = omega (arith, words_length c.requires, length-take (4 * c.args.workers) c.args.tallies.now)

pub loop-tally-init : goal.loop-tally-init
loop-tally-init c =
    rw (c.into_iter-tally-iterator.ensures.into_iter_gives, c.chunks_exact-tally-items.ensures.size, c.chunks_exact-tally-items.ensures.rest)
    (refl, omega arith, tt, λ x. left_all x)

pub overflow_add-all : goal.overflow_add-all
overflow_add-all c =
    let x = c.requires in
    let s = c.in-Some.ensures.steps in
    let n = left_next c.in-Some.tally.now (c.loop-tally.invariant.3 x) s.1.0 (s.1.1 ∙ c.loop-tally.invariant.0) in
    omega (arith, n.low, x.fits)

pub loop-tally-preserved : goal.loop-tally-preserved
loop-tally-preserved c =
    let s = c.in-Some.ensures.steps in
    let four = s.0 ∙ c.loop-tally.invariant.0 in
    (four, omega arith, tt, λ x. (left_next c.in-Some.tally.now (c.loop-tally.invariant.3 x) s.1.0 (s.1.1 ∙ c.loop-tally.invariant.0)).left)

pub returns : goal.returns
returns c = λ x. left_none (c.loop-tally.invariant.3 x) (omega (arith, c.in-None.ensures.steps.1.0, c.loop-tally.invariant.0))
