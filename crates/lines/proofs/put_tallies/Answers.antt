use Rattle.std.proofs.Common.{ap, suc, ◌++◌, arith, add-one}
use Rattle.text.proofs.Pages.{blank, then, room, as_page}
use Rattle.lines.specs.Rooms.{tally_room}
use Rattle.lines.specs.Lines.{tally_line, word_lines}
use Rattle.lines.proofs.Tallying.{tally_of_chunk}
use Rattle.lines.proofs.put_tallies.Goals as goal

pub loop-worker-init : goal.loop-worker-init
unfolding word_lines
loop-worker-init c = blank _ (omega arith)

pub put_tally-requires : goal.put_tally-requires
put_tally-requires c = room c.loop-worker.invariant 134 (omega arith)

pub loop-worker-preserved : goal.loop-worker-preserved
unfolding word_lines
loop-worker-preserved c =
    let words = c.args.tallies.now in
    let b = c.loop-worker.worker in
    let e = ap (λ t. word_lines words b ++ tally_line b t) (tally_of_chunk words _ b c.as_chunks.ensures.front (omega arith)) in
    rw add-one (as_page (then c.loop-worker.invariant (tally_room (suc b)) (omega arith) c.put_tally.ensures) e)
