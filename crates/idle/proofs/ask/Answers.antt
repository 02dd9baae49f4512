-- Each way out is one of the laws of Asking.
use Rattle.std.proofs.Common.{inl, inr, arith}
use Rattle.step.proofs.Bounds.{roomy}
use Rattle.idle.proofs.Asking.{holds_still, holds_asked, free_if, not_free, not_there}
use Rattle.idle.proofs.ask.Goals as goal

pub returns-then-step-v : goal.returns-then-step-v
returns-then-step-v c =
    let e = c.args.step.entry in
    λ marks work tallies x.
    holds_still x.scene x.holds e.worker e.named x.here.is x.here.going x.here.other
    (not_there x.scene x.holds e.named c.if-step-v.true)

pub returns-then-status-lt-POLL : goal.returns-then-status-lt-POLL
returns-then-status-lt-POLL c =
    let e = c.args.step.entry in
    let l = rw c.load-r.ensures at c.if-status-lt-POLL.true in
    λ marks work tallies x.
    holds_still x.scene x.holds e.worker e.named x.here.is x.here.going x.here.other
    (not_free x.scene x.holds e.named (inl l))

pub returns-then-cell-ne0 : goal.returns-then-cell-ne0
returns-then-cell-ne0 c =
    let e = c.args.step.entry in
    let l = rw c.load-r.ensures at c.if-cell-ne0.true in
    λ marks work tallies x.
    holds_still x.scene x.holds e.worker e.named x.here.is x.here.going x.here.other
    (not_free x.scene x.holds e.named (inr l))

pub moved-requires : goal.moved-requires
moved-requires c =
    let x = c.requires.1.1.1 in
    (roomy x.scene x.holds, omega arith, omega arith)

pub returns : goal.returns
returns c =
    let low = c.if-step-v.false in
    let e = c.args.step.entry in
    let st = rw c.load-r.ensures at c.if-status-lt-POLL.false in
    let ce = rw c.load-r.ensures at c.if-cell-ne0.false in
    λ marks work tallies x.
    let f = free_if x.scene x.holds e.named low st ce in
    rw (c.put-2.ensures, c.put.ensures, c.moved.ensures)
    (holds_asked x.scene x.holds e.worker e.named x.here.is x.here.going x.here.other low f.since f.phase f.runs f.is)
