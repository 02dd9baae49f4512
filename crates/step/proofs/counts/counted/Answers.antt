-- Three sums, and what is kept by value.
use Rattle.std.proofs.Common.{refl, arith}
use Rattle.step.proofs.Counting.{won_sums, followed_sums, handed_sums}
use Rattle.step.proofs.counts.counted.Goals as goal

pub overflow_add-result : goal.overflow_add-result
overflow_add-result c = omega (arith, c.total.ensures (won_sums c.requires), c.requires.live_fits)

pub returns : goal.returns
returns c = λ x. rw (c.total.ensures (won_sums x), c.total-2.ensures (followed_sums x), c.total-3.ensures (handed_sums x)) refl
