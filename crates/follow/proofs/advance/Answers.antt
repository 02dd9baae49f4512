-- Each way is one of the laws of Advancing.
use Rattle.follow.proofs.Advancing.{advance_push, advance_on, advance_open, advance_pop}
use Rattle.follow.proofs.advance.Goals as goal

pub returns-then-f-g : goal.returns-then-f-g
returns-then-f-g c =
    advance_push c.requires c.if-rest-end.true c.if-f-g.true
    (rw (c.come_up.ensures, c.put-then-f-g.ensures, c.put.ensures))

pub returns-then-rest-end : goal.returns-then-rest-end
returns-then-rest-end c =
    advance_on c.requires c.if-rest-end.true c.if-f-g.false (rw c.come_up-then-rest-end.ensures)

pub returns-then-f-g-2 : goal.returns-then-f-g-2
returns-then-f-g-2 c =
    advance_open c.requires c.if-rest-end.false c.if-f-g-2.true
    (rw (c.come_up-then-f-g-2.ensures, c.put-then-f-g-2-2.ensures, c.put-then-f-g-2.ensures))

pub returns : goal.returns
returns c =
    advance_pop c.requires c.if-rest-end.false c.if-f-g-2.false c.if-used-lt2.false
    (rw (c.come_up-2.ensures, c.put-3.ensures, c.put-2.ensures))
