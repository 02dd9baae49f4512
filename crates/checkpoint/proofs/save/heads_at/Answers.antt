use Rattle.checkpoint.proofs.Saving.{begins_head}
use Rattle.checkpoint.proofs.save.heads_at.Goals as goal

pub returns : goal.returns
returns c =
    let a = c.args in
    begins_head a.saved.now a.counts a.ring c.requires.0 c.numbers_at.ensures c.put_counts.ensures
