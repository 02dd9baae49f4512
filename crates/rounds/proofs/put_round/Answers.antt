-- The round of the workers passed is written.
use Rattle.std.proofs.Common.{◌≡◌, ◌+◌, ◌*◌, ◌≤◌, length, refl, ◌∙◌, arith}
use Rattle.rounds.specs.Whole.{round_from}
use Rattle.rounds.proofs.Rounds.{round_put, round_whole, next_low}
use Rattle.rounds.proofs.put_round.Goals as goal

pub loop-b-init : goal.loop-b-init
unfolding round_from
loop-b-init c = refl

pub overflow_cast-round-in-loop-b : goal.overflow_cast-round-in-loop-b
overflow_cast-round-in-loop-b c =
    omega (arith, c.loop-b-test.true, c.requires.0, c.next_of.ensures, next_low c.args.workers c.loop-b.b)

pub loop-b-preserved : goal.loop-b-preserved
loop-b-preserved c =
    let room : 2 * c.loop-b.b + 2 ≤ length c.loop-b.round = omega (arith, c.loop-b-test.true, c.loop-b.auto.round, c.requires.1) in
    rw c.next_of.ensures (round_put _ _ c.loop-b.round room c.loop-b.invariant)

pub returns : goal.returns
returns c =
    let e : c.loop-b.b ≡ c.args.workers = omega arith in
    round_whole _ _ c.loop-b.round e (c.loop-b.auto.round ∙ c.requires.1) c.loop-b.invariant
