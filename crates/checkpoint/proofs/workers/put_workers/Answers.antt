use Rattle.std.proofs.Common.{ap, ◌∙◌}
use Rattle.checkpoint.specs.Workers.{words_of}
use Rattle.checkpoint.proofs.Records.{putting_none, putting_next, putting_all}
use Rattle.checkpoint.proofs.workers.put_workers.Goals as goal

pub loop-b-init : goal.loop-b-init
loop-b-init c = λ x. putting_none x c.requires.1

pub loop-b-preserved : goal.loop-b-preserved
loop-b-preserved c =
    λ x.
    let w = c.saved_of-w.ensures ∙ ap words_of c.load.ensures in
    rw w (putting_next x (c.loop-b.invariant x) c.loop-b-test.true)

pub returns : goal.returns
returns c = λ x. putting_all x (c.loop-b.invariant x) c.loop-b-test.false
