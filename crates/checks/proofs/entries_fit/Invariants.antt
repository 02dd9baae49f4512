-- What is left of the entries decides, as long as none that passed is wrong.
use Rattle.std.proofs.Common.{◌≡◌, ◌*◌, ◌/◌, ◌&&◌, length}
use Rattle.desk.specs.Checks.{schedule_fits}
use Rattle.checks.proofs.entries_fit.Given as goal

abbrev pub invariant-loop-entry : goal.invariant-loop-entry
invariant-loop-entry l =
    let rest = l.entry-iterator.rest.now in record {
      decides : (l.fits && schedule_fits l.workers rest) ≡ schedule_fits l.workers l.schedule;
      size : l.entry-iterator.size ≡ 2;
      whole : 2 * (length rest / 2) ≡ length rest;
    }
