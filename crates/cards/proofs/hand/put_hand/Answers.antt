use Rattle.cards.proofs.Zeros.{zeros}
use Rattle.cards.proofs.hand.put_hand.Goals as goal

pub returns-in-1 : goal.returns-in-1
returns-in-1 c = zeros c.args.schedule.now c.in-1.is c.requires (c.fill.ensures.after (λ y e. e))
