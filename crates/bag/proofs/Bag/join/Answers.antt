use Rattle.std.proofs.Common.{refl, rules}
use Rattle.bag.proofs.Joining.{joining_start, joining_ready, joining_next, joining_low, joining_end}
use Rattle.bag.proofs.Bag.join.Goals as goal
use Rattle.bag.proofs.Bag.join.Goals.{else-loop-k-test, then-loop-k-test+then-rest-eq0+then-is_none}

pub loop-k-init : goal.loop-k-init
loop-k-init c = record { joining = joining_start c.requires; size_same = refl }

pub full_add-sum-requires : goal.full_add-sum-requires
full_add-sum-requires c = joining_ready c.requires c.loop-k.invariant.joining c.loop-k-test.true

pub loop-k-preserved : goal.loop-k-preserved
loop-k-preserved c =
    record {
      joining = joining_next c.requires c.loop-k.invariant.joining c.loop-k-test.true c.full_add-sum.ensures;
      size_same = c.loop-k.invariant.size_same;
    }

pub returns : goal.returns
returns c =
    elim c.loop-k-test.branch [
      | else-loop-k-test w ↦
          let none = joining_low c.requires c.loop-k.invariant.joining w.loop-k-test.false in
          rw c.loop-k.invariant.size_same (joining_end c.requires c.loop-k.invariant.joining none.0 none.1)
      | then-loop-k-test+then-rest-eq0+then-is_none w ↦
          rw c.loop-k.invariant.size_same (joining_end c.requires c.loop-k.invariant.joining w.if-rest-eq0.true (search rules))
    ]
