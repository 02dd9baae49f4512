-- A round is written whole, or in two parts: either serves.
use Rattle.std.proofs.Common.{rules}
use Rattle.cards.proofs.Rounds.{row_put, parts}
use Rattle.cards.proofs.hand.ArrayArrayU8720Rounds.put_round.Goals as goal

pub returns : goal.returns
returns g c = search (rules, row_put, parts)
