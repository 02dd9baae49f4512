use Rattle.seed_deal.proofs.Drawing.{drew_zeros}
use Rattle.seed_deal.proofs.put_seed.Goals as goal

pub returns-in-1 : goal.returns-in-1
returns-in-1 c = drew_zeros c.args.schedule.now c.in-1.is c.requires c.after.ensures (c.fill.ensures.after (λ y e. e))
