-- `parse::behind_line`: what the library's search for the line feed says.
use Rattle.std.proofs.Common.{◌≡◌, ◌≢◌, ◌-◌, ◌<◌, length, take, drop, MatchOption, arith, rules}
use Rattle.std.specs.List.{AllWithin, HoldsAt}
use Rattle.std.proofs.lemmas.Slice.{between_to_end}
use Rattle.std.proofs.lemmas.Option.{MatchOption-at_some, MatchOption-at_none}
use Rattle.std.proofs.lemmas.Iterator.{IsFirst-from_position, YieldsList-from_slice}
use borrow.Author.Tests.{tests}
use Rattle.matrix.proofs.Heads.{line_end, no_line_end}
use Rattle.parse.proofs.behind_line.Goals as goal

pub returns-in-Some : goal.returns-in-Some
returns-in-Some c =
    let text = c.args.text.now in
    let xs = take (length text - c.args.from) (drop c.args.from text) in
    let f : MatchOption c.position.result (AllWithin (λ x. x ≢ 10) xs 0 (length xs)) (λ i. (i < length xs) × HoldsAt (λ x. x ≡ 10) xs i × AllWithin (λ x. x ≢ 10) xs 0 i) =
    IsFirst-from_position _ _ _ (λ x. x ≡ 10) (λ x. x ≢ 10) c.position.ensures.ran (YieldsList-from_slice _ c.iter.ensures.rest) (λ x q k. search (rules, tests)) (λ x q k. search (rules, tests)) in
    let p = MatchOption-at_some _ _ c.in-Some.k c.in-Some.is f in
    line_end text c.args.from (between_to_end text c.args.from (length text) (omega arith)) c.in-Some.k (λ j h. p.2 j 0 (omega arith) h) p.0 (p.1 0)

pub returns-in-None : goal.returns-in-None
returns-in-None c =
    let text = c.args.text.now in
    let xs = take (length text - c.args.from) (drop c.args.from text) in
    let f : MatchOption c.position.result (AllWithin (λ x. x ≢ 10) xs 0 (length xs)) (λ i. (i < length xs) × HoldsAt (λ x. x ≡ 10) xs i × AllWithin (λ x. x ≢ 10) xs 0 i) =
    IsFirst-from_position _ _ _ (λ x. x ≡ 10) (λ x. x ≢ 10) c.position.ensures.ran (YieldsList-from_slice _ c.iter.ensures.rest) (λ x q k. search (rules, tests)) (λ x q k. search (rules, tests)) in
    let p = MatchOption-at_none _ _ c.in-None.is f in
    no_line_end text c.args.from (between_to_end text c.args.from (length text) (omega arith)) c.requires (λ j h. p j 0 (omega arith) h)
