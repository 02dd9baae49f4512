use Rattle.std.proofs.Common.{◌≡◌, refl, ◌∙◌, arith}
use Rattle.seed.specs.Deal.{after_draws}
use Rattle.seed_deal.proofs.Drawing.{after_next}
use Rattle.seed_deal.proofs.after.Goals as goal

pub loop-init : goal.loop-init
unfolding after_draws
loop-init c = refl

pub loop-preserved : goal.loop-preserved
loop-preserved c = after_next c.loop.counter c.args.seed c.loop.invariant c.step-left.ensures

pub returns : goal.returns
returns c =
    let e : c.loop.counter ≡ c.args.count = omega arith in
    c.loop.invariant ∙ rw e
