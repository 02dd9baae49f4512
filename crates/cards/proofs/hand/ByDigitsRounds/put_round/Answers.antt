use Rattle.cards.proofs.Rounds.{seatable, closed}
use Rattle.cards.proofs.hand.ByDigitsRounds.put_round.Goals as goal

pub put_round-requires : goal.put_round-requires
put_round-requires c = seatable c.requires.roomy c.all.ensures

pub returns : goal.returns
returns c = closed c.requires.roomy c.all.ensures c.put_round.ensures
