use Rattle.std.proofs.Common.{◌≡◌, ◌∙◌, ◌+◌, ap, arith, length, length-append, List, ℕ}
use Rattle.laws.proofs.Scan.{pass_next, pass_end}
use Rattle.desk.specs.Checks.{schedule_fits}
use Rattle.desk.proofs.Schedule.{fits_entry, fits_end}
use Rattle.checks.proofs.entries_fit.Goals as goal

pub loop-entry-init : goal.loop-entry-init
loop-entry-init c =
    rw (c.into_iter-entry-iterator.ensures.into_iter_gives, c.chunks_exact-entry-items.ensures.rest)
    (record { decides = λ i. schedule_fits c.args.workers c.args.schedule.now; size = c.chunks_exact-entry-items.ensures.size; whole = c.requires })

pub loop-entry-preserved : goal.loop-entry-preserved
loop-entry-preserved c =
    let i = c.loop-entry.invariant in
    let s = c.in-Some.ensures.steps in
    let e = c.in-Some.entry.now in
    let r = c.next.new.self.rest.now in
    let two : length e ≡ 2 = s.1.1 ∙ i.size in
    let n : length c.loop-entry.entry-iterator.rest.now ≡ 2 + length r =
    ap length s.1.0 ∙ length-append e r ∙ ap (λ (k : ℕ). k + length r) two in
    let d = ap (λ (l : List ℕ). schedule_fits c.args.workers l) s.1.0 ∙ fits_entry c.args.workers e r two in
    record {
      decides = rw c.from.ensures (pass_next c.loop-entry.fits _ _ d i.decides);
      size = s.0 ∙ i.size;
      whole = omega (arith, i.whole, n);
    }

pub returns : goal.returns
returns c =
    let i = c.loop-entry.invariant in
    pass_end _ (fits_end _ _ i.whole (omega (arith, c.in-None.ensures.steps, i.size))) i.decides
