use Rattle.std.proofs.Common.{sym, arith, rules}
use Rattle.lookup.proofs.Leads.{Bytes, lead_below, lead_above}
use Rattle.lookup.proofs.look.Goals as goal

pub returns-then-head-other : goal.returns-then-head-other
returns-then-head-other c =
    let first : Bytes c.args.bytes.now = λ i. search rules in
    let second : Bytes c.args.name.now = λ i. search rules in
    sym (lead_below _ _ first second (sym c.requires.0) (omega (arith, c.if-head-other.true, c.lead-other.ensures, c.requires.1)))

pub returns-then-other-head : goal.returns-then-other-head
returns-then-other-head c =
    let first : Bytes c.args.bytes.now = λ i. search rules in
    let second : Bytes c.args.name.now = λ i. search rules in
    sym (lead_above _ _ first second (sym c.requires.0) (omega (arith, c.if-other-head.true, c.lead-other.ensures, c.requires.1)))
