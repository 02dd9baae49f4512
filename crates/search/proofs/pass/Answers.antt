use Rattle.layers.proofs.Spreading.{passing_start, passing_through, passing_ready, passing_next, passing_over, passing_end}
use Rattle.search.proofs.pass.Goals as goal
use Rattle.search.proofs.pass.Goals.{in-Some, in_default}

pub loop-height-init : goal.loop-height-init
loop-height-init c = passing_start c.requires.0 c.requires.1 c.requires.2

pub spread-requires : goal.spread-requires
spread-requires c =
    let r = passing_ready c.requires.0 c.requires.1 c.requires.2 c.loop-height.invariant c.loop-height-test.true c.in-Some.root c.in-Some.is in
    (r.0, r.1, c.loop-height-test.true)

pub loop-height-preserved : goal.loop-height-preserved
loop-height-preserved c =
    elim c.match-slot.branch [
      | in-Some w ↦
          rw (w.hops-is, w.links-is, w.next-is)
          (passing_next c.requires.0 c.requires.1 c.requires.2 c.loop-height.invariant c.loop-height-test.true w.in-Some.root w.in-Some.is w.spread.ensures)
      | in_default w ↦
          rw (w.hops-is, w.links-is, w.next-is)
          (passing_over c.requires.0 c.requires.1 c.requires.2 c.loop-height.invariant c.loop-height-test.true w.in_default.is)
    ]

pub returns-after-loop-height : goal.returns-after-loop-height
returns-after-loop-height c =
    passing_end c.requires.0 c.requires.1 c.requires.2 c.loop-height.invariant (passing_through c.requires.0 c.requires.1 c.requires.2 c.loop-height.invariant c.loop-height-test.false)

pub returns-then-rest-eq0 : goal.returns-then-rest-eq0
returns-then-rest-eq0 c = passing_end c.requires.0 c.requires.1 c.requires.2 c.loop-height.invariant c.if-rest-eq0.true
