use Rattle.std.proofs.Common.{ℕ, ◌+◌, arith}
use Rattle.laws.specs.Span.{span}
use Rattle.laws.proofs.Decides.{decides_no}
use Rattle.laws.proofs.Passing.{span_next, span_so_far}
use Rattle.saved.specs.Layout.{tally_number}
use Rattle.tallies.proofs.adds_up.Goals as goal

pub loop-b-init : goal.loop-b-init
unfolding span
loop-b-init c = omega arith

pub returns-then-left-x : goal.returns-then-left-x
returns-then-left-x c =
    let W = c.args.workers in
    let b = c.loop-b.b in
    let numbers = λ (i : ℕ). tally_number W c.args.saved.now i c.args.k in
    decides_no (λ e. omega (arith, span_next numbers b, span_so_far numbers 0 (b + 1) W (omega arith)))

pub loop-b-preserved : goal.loop-b-preserved
loop-b-preserved c =
    omega (arith, span_next (λ (i : ℕ). tally_number c.args.workers c.args.saved.now i c.args.k) c.loop-b.b)
