-- What is added up and what is left make the sum.
use Rattle.std.proofs.Common.{◌≡◌}
use Rattle.laws.specs.Sum.{sum}
use Rattle.step.specs.Counting.{tally_word, Summable}
use Rattle.step.proofs.Counting.{Left}
use Rattle.step.proofs.counts.total.Given as goal

abbrev pub invariant-loop-tally : goal.invariant-loop-tally
invariant-loop-tally l =
    (l.tally-iterator.size ≡ 4)
    × (goal.iterator-loop-tally).can_next l.tally-iterator
    × (goal.iterator-loop-tally).is_finite l.tally-iterator
    × ((x : Summable l.tallies l.workers l.k) → Left l.k l.tally-iterator.rest.now l.all (sum (tally_word l.k) x.tallies))
