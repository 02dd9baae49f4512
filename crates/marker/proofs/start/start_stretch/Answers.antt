-- The starts are gathered among marks that are zero; where they have references, worker 0's block tells of them.
use Rattle.marker.proofs.Begin.{begin_none, lower_ready, first_inside, begin_some}
use Rattle.marker.proofs.start.start_stretch.Goals as goal

pub returns-then-carried-eq0 : goal.returns-then-carried-eq0
returns-then-carried-eq0 c =
    rw c.begun.ensures
    (begin_none c.requires.0 _ c.requires.1 c.fill.ensures.len c.gather-t.ensures c.if-carried-eq0.true)

pub lower-top-requires : goal.lower-top-requires
lower-top-requires c =
    lower_ready c.requires.0 _ c.requires.1 c.fill.ensures.len c.gather-t.ensures c.if-carried-eq0.false c.gather-t.auto.s

pub bounds-targets-first : goal.bounds-targets-first
bounds-targets-first c =
    first_inside c.requires.0 _ c.requires.1 c.fill.ensures.len c.gather-t.ensures c.if-carried-eq0.false c.gather-t.auto.s
    c.lower-top.ensures

pub returns : goal.returns
returns c =
    rw c.begun-2.ensures
    (begin_some c.requires.0 _ c.requires.1 c.fill.ensures.len c.gather-t.ensures c.if-carried-eq0.false c.gather-t.auto.s
    c.lower-top.ensures _ c.store.ensures)
