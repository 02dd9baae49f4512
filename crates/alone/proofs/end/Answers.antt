-- The only tally is raised from zero, and the block says that the worker has ended.
use Rattle.std.proofs.Common.{refl, ◌∙◌, arith}
use Rattle.alone.proofs.Ending.{raisable, raised_one, ended_status, ended_since}
use Rattle.alone.proofs.end.Goals as goal

pub raise-requires : goal.raise-requires
raise-requires c = let p = c.requires in raisable p.tallies_are _ _ (omega (arith, p.fits)) (omega (arith, p.fits))

pub returns : goal.returns
returns c =
    let long = c.requires.regs_long in
    record {
      tallies_are = c.raise.ensures ∙ raised_one c.requires.tallies_are _ _;
      status_is = rw (c.put-2.ensures, c.put.ensures) (ended_status c.args.regs.now long c.args.followed);
      since_is = rw (c.put-2.ensures, c.put.ensures) (ended_since c.args.regs.now long c.args.followed);
      progress_is = refl;
    }
