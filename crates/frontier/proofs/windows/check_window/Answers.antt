use Rattle.std.proofs.Common.{arith}
use Rattle.frontier.proofs.WindowLaws.{cleared_there, first_owner, last_owner, parts_there, window_decided}
use Rattle.frontier.proofs.windows.check_window.Goals as goal

pub carry_all-requires : goal.carry_all-requires
carry_all-requires c =
    let p = c.requires in
    rw (c.fill.ensures.after (λ y e. e)) (cleared_there p.0 p.1 p.2 c.args.carried.now (omega arith) p.3)

pub object_of-first-requires : goal.object_of-first-requires
object_of-first-requires c = let p = c.requires in first_owner p.0 p.1 p.2

pub object_of-last-requires : goal.object_of-last-requires
object_of-last-requires c = let p = c.requires in last_owner p.0 p.1 p.2 (omega arith)

pub targets_marked-requires : goal.targets_marked-requires
targets_marked-requires c =
    let p = c.requires in
    parts_there p.0 p.1 p.2 (omega arith) c.object_of-first.ensures c.object_of-last.ensures (omega arith)

pub returns : goal.returns
returns c =
    let p = c.requires in
    window_decided p.0 p.1 p.2 c.carry_all.ensures c.if-not-carry_all.false c.targets_marked.ensures
