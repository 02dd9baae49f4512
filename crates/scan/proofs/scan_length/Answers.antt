use Rattle.std.proofs.Common.{sym}
use Rattle.names.proofs.Checks.{sound}
use Rattle.scan.proofs.Calls.{ready, work_long, work_again}
use Rattle.scan.proofs.scan_length.Goals as goal

pub put_index-requires : goal.put_index-requires
put_index-requires c =
    let s = sound _ _ _ _ (sym c.in_ok-check.ensures) in
    (s.0.long, work_long c.args.work.now s.1)

pub new-requires : goal.new-requires
new-requires c = let s = sound _ _ _ _ (sym c.in_ok-check.ensures) in ready s.0 c.put_index.ensures

pub count_all-count-requires : goal.count_all-count-requires
count_all-count-requires c = let s = sound _ _ _ _ (sym c.in_ok-check.ensures) in s.0.right

pub returns-clause-work_unchanged : goal.returns-clause-work_unchanged
returns-clause-work_unchanged c =
    let s = sound _ _ _ _ (sym c.in_ok-check.ensures) in
    work_again c.args.work.now s.1 c.put_index.ensures.long c.clear_index.ensures
