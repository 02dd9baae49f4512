use Rattle.std.proofs.Common.{◌≡◌, drop}
use Rattle.names.specs.Call.{ends_right}
use Rattle.scan.proofs.ends_right.Given as goal

-- the ends that are left decide, from the last one passed on
abbrev pub invariant-loop-end : goal.invariant-loop-end
invariant-loop-end l = ends_right l.start (drop l.end-index l.ends) l.long ≡ ends_right 0 l.ends l.long
