use Rattle.checkpoint.proofs.Numbers.{putting_none, putting_next, putting_all}
use Rattle.checkpoint.proofs.words.put_numbers.Goals as goal

pub loop-i-init : goal.loop-i-init
loop-i-init c = putting_none c.requires

pub loop-i-preserved : goal.loop-i-preserved
loop-i-preserved c = putting_next c.loop-i.invariant c.loop-i-test.true

pub returns : goal.returns
returns c = putting_all c.loop-i.invariant c.loop-i-test.false
