-- The claim, its tally, what opens then, and following.
use Rattle.worker.specs.Registers.{block_at}
use Rattle.follow.specs.Claiming.{tally_at_claim, claim_row, claimed_marks}
use Rattle.step.specs.Raising.{raised_words}
use Rattle.follow.proofs.Looking.{claim_there, claim_raisable, claimed}
use Rattle.follow.proofs.claim.Goals as goal

pub claim_target-told-requires : goal.claim_target-told-requires
claim_target-told-requires c =
    rw c.load-first.ensures (claim_there c.requires)

pub count_claim-requires : goal.count_claim-requires
count_claim-requires c =
    claim_raisable c.requires (claim_row c.claim_target-told.result).won

pub follow-requires-clause-by_index : goal.follow-requires-clause-by_index
follow-requires-clause-by_index c =
    let a = c.args in
    let b = a.step.entry.worker in
    let t = (block_at a.regs.now b).target in
    let marks' = claimed_marks a.marks.now b t in
    let tallies' = raised_words a.tallies.now b (tally_at_claim a.marks.now b t) in
    (a.marks.now, (marks', (a.tallies.now, (tallies', rw (c.opens-found.ensures, c.claim_target-told.ensures.row_is, c.load-first.ensures) (claimed c.requires)))))

pub returns : goal.returns
returns c =
    let d = rw (c.opens-found.ensures, c.claim_target-told.ensures.row_is, c.load-first.ensures) at c.follow.ensures in
    λ v x.
    rw (c.count_claim.ensures, c.claim_target-told.ensures.row_is, c.claim_target-told.ensures.marks_are, c.load-first.ensures)
    (d _ _ _ _ v (claimed x))
