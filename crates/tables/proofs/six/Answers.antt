-- The rows are the rounds, as antt computes them.
use Rattle.std.proofs.Common.{refl}
use Rattle.hands.specs.Deck.{taken, orders, read_on, deck}
use Rattle.hands.specs.Hand.{dealt, asking, circle}
use Rattle.tables.specs.Table.{rounds}
use Rattle.tables.proofs.six.Goals as goal

pub returns : goal.returns
unfolding taken orders read_on deck dealt asking circle rounds
returns c = refl
