-- The block of a busy worker with the runs that it is owed.
use Rattle.std.proofs.Common.{ℕ, List, get_or, ap, arith}
use Rattle.worker.specs.Registers.{block_at}
use Rattle.step.proofs.Bounds.{roomy}
use Rattle.follow.proofs.Taking.{first_given, holds_taken}
use Rattle.follow.proofs.take_up.Goals as goal

pub bounds-targets-first : goal.bounds-targets-first
bounds-targets-first c =
    let x = c.requires.1.1.1 in
    let f = (first_given x.scene x.holds c.args.step.entry.worker x.here.is).0 in
    rw (c.load-r.ensures, x.here.targets_are) f

pub moved-requires : goal.moved-requires
moved-requires c =
    let x = c.requires.1.1.1 in
    (roomy x.scene x.holds, omega arith, omega arith)

pub returns : goal.returns
returns c =
    let b = c.args.step.entry.worker in
    λ marks work tallies v x.
    rw (c.store.ensures, c.taken.ensures, c.load-r.ensures, c.moved.ensures)
    (holds_taken x.scene x.holds b x.here.is v _
    (ap (λ (l : List ℕ). get_or l (block_at c.args.regs.now b).first 0) x.here.targets_are))
