use Rattle.std.proofs.Common.{◌-◌, length, drop, arith, length-take, length-drop}
use Rattle.lookup.proofs.Gathering.{keeps_part}
use Rattle.lookup.proofs.fill_hints.Goals as goal

pub returns : goal.returns
returns c =
    let l = length-take (length c.args.index.now - 131072) (drop 131072 c.args.index.now) in
    keeps_part c.args.index.now c.loop-hint.hint-items (length c.args.index.now - 131072) (omega arith) (omega (arith, c.loop-hint.invariant, l, length-drop 131072 c.args.index.now))
