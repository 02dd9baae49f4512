use Rattle.scan.proofs.Finding.{seek_none, seek_one, seek_on}
use Rattle.scan.proofs.passes.Finder.next_mention.Goals as goal

pub returns-in-Some-find : goal.returns-in-Some-find
returns-in-Some-find c =
    rw (← c.self.view_is)
    (seek_one c.self.invariant (rw (← c.self.view_is) at c.loop-place.invariant) c.in-Some.ensures c.in-Some-find.k c.in-Some-find.ensures)

pub loop-place-preserved : goal.loop-place-preserved
loop-place-preserved c =
    rw (← c.self.view_is)
    (seek_on c.self.invariant (rw (← c.self.view_is) at c.loop-place.invariant) c.in-Some.ensures c.in_default-find.ensures)

pub returns : goal.returns
returns c =
    rw (← c.self.view_is)
    (seek_none c.self.invariant (rw (← c.self.view_is) at c.loop-place.invariant) c.in_default.ensures)
