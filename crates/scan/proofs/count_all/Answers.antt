use Rattle.std.proofs.Common.{◌≡◌, ◌∙◌, length, ap, refl, arith}
use Rattle.std.proofs.lemmas.Iterator.Consumers.{count_from_yields_List, YieldsList-from_first}
use Rattle.scan.proofs.Counting.{text_order, text_inside, texts_on, texts_done}
use Rattle.scan.proofs.count_all.Goals as goal

pub slice_bounds-mentions-count : goal.slice_bounds-mentions-count
slice_bounds-mentions-count c = text_order _ _ _ _ c.loop-end.invariant.right c.loop-end-test.true

pub slice_bounds-mentions-start : goal.slice_bounds-mentions-start
slice_bounds-mentions-start c =
    omega (arith, text_order _ _ _ _ c.loop-end.invariant.right c.loop-end-test.true, text_inside _ _ _ _ c.loop-end.invariant.right c.loop-end-test.true)

pub slice_bounds-mentions-end : goal.slice_bounds-mentions-end
slice_bounds-mentions-end c = text_inside _ _ _ _ c.loop-end.invariant.right c.loop-end-test.true

pub loop-end-preserved : goal.loop-end-preserved
loop-end-preserved c =
    let m = c.mentions.ensures in
    let n : c.count-count.result ≡ length c.mentions.result =
    count_from_yields_List c.mentions.result c.count-count.result c.count-count.ensures.ran (YieldsList-from_first (λ x. x) (λ m. m) _ refl) in
    texts_on c.loop-end.invariant c.loop-end-test.true (omega (arith, n, m.few)) (n ∙ ap length m.all) (omega arith)

pub returns : goal.returns
returns c = texts_done c.loop-end.invariant c.loop-end-test.false
