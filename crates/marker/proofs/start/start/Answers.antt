-- The start in worker 0's stretch, which is the first of the work memory.
use Rattle.marker.proofs.Begin.{started}
use Rattle.marker.proofs.start.start.Goals as goal

pub returns : goal.returns
returns c =
    started c.args.setup c.args.work.now c.requires.0.accepted.some_worker c.requires.1 c.start_stretch.new.s
    c.start_stretch.auto.s _ _ _ _ _ _ c.start_stretch.ensures
