use Rattle.std.proofs.Common.{◌+◌, ap, ◌∙◌, arith}
use Rattle.lookup.specs.Index.{tail_at}
use Rattle.lookup.proofs.Gathering.{indexed_next, hinted}
use Rattle.lookup.proofs.put_names.Goals as goal

-- what is put in is the tail of name k, wherever the code says that it stands
pub loop-k-preserved : goal.loop-k-preserved
loop-k-preserved c =
    let tail = c.tail.ensures.0 ∙ ap (tail_at c.args.names.now) (omega arith) in
    indexed_next (hinted c.loop-k.invariant (131073 + c.three.result) _ (omega arith)) tail c.insert.ensures c.insert.auto.words
