-- A loop: the digits before this one are written.
use Rattle.std.proofs.Common.{◌+◌, take, map, ℕ}
use Rattle.text.specs.Pages.{Wrote}
use Rattle.hands.specs.Deck.{digits}
use Rattle.deck.proofs.print.put_card.Given as goal

abbrev pub invariant-loop-digit : goal.invariant-loop-digit
invariant-loop-digit l = Wrote l.digit-index (map (λ (d : ℕ). 48 + d) (take l.digit-index (digits l.n))) l.initial.page l.page
