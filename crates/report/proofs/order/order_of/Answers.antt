-- Each word is the reader's; the first byte is a word of one byte.
use Rattle.std.proofs.Common.{◌≡◌, get_or, ◌∙◌, arith}
use Rattle.laws.specs.Words.{word}
use Rattle.report.proofs.order.order_of.Goals as goal

pub returns : goal.returns
unfolding word
returns c =
    let first : get_or c.args.order.now 0 0 ≡ word 1 c.args.order.now = omega arith in
    let a = c.from.ensures ∙ first in
    let b = c.from-2.ensures ∙ c.word2.ensures.0 in
    let d = c.from-3.ensures ∙ c.word2-2.ensures.0 in
    λ j. record { workers = a j; batch = b j; cutoff = d j }
