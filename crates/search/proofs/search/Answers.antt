use Rattle.std.proofs.Common.{refl, arith}
use Rattle.layers.proofs.Layers.{begin_ready, begun, layer_low, layer_end, pass_ready, passed, passed_less, left_first, left_next}
use Rattle.search.proofs.search.Goals as goal

pub begin-requires : goal.begin-requires
begin-requires c = begin_ready c.requires (c.fill.ensures.after (λ y e. e))

pub loop-layer-init : goal.loop-layer-init
loop-layer-init c = record {
  reached = begun c.requires (c.fill.ensures.after (λ y e. e)) c.begin.ensures;
  fresh = refl;
  left = left_first c.begin.ensures;
}

pub overflow_add-hop : goal.overflow_add-hop
overflow_add-hop c = omega (arith, layer_low c.requires.formed c.requires.few c.loop-layer.invariant.reached)

pub pass-requires : goal.pass-requires
pass-requires c = rw c.loop-layer.invariant.fresh (pass_ready c.requires c.loop-layer.invariant.reached)

pub returns-then-next-eq0 : goal.returns-then-next-eq0
returns-then-next-eq0 c =
    let g = rw c.loop-layer.invariant.fresh at c.pass.ensures in
    let y = passed c.requires c.loop-layer.invariant.reached g c.loop-layer-test.true in
    (layer_end c.requires.formed c.requires.few y c.if-next-eq0.true, left_next g c.loop-layer.invariant.left)

pub overflow_add-hop-in-loop-layer : goal.overflow_add-hop-in-loop-layer
overflow_add-hop-in-loop-layer c =
    let g = rw c.loop-layer.invariant.fresh at c.pass.ensures in
    let y = passed c.requires c.loop-layer.invariant.reached g c.loop-layer-test.true in
    omega (arith, layer_low c.requires.formed c.requires.few y)

pub pass-requires-in-loop-layer : goal.pass-requires-in-loop-layer
pass-requires-in-loop-layer c =
    let g = rw c.loop-layer.invariant.fresh at c.pass.ensures in
    let y = passed c.requires c.loop-layer.invariant.reached g c.loop-layer-test.true in
    pass_ready c.requires y

pub loop-layer-smaller : goal.loop-layer-smaller
loop-layer-smaller c =
    let g = rw c.loop-layer.invariant.fresh at c.pass.ensures in
    let y = passed c.requires c.loop-layer.invariant.reached g c.loop-layer-test.true in
    omega (
      arith,
      passed_less c.requires c.loop-layer.invariant.reached g c.loop-layer-test.true,
      passed_less c.requires y c.pass-in-loop-layer.ensures c.if-next-eq0.false,
    )

pub loop-layer-preserved : goal.loop-layer-preserved
loop-layer-preserved c =
    let g = rw c.loop-layer.invariant.fresh at c.pass.ensures in
    let y = passed c.requires c.loop-layer.invariant.reached g c.loop-layer-test.true in
    record {
      reached = passed c.requires y c.pass-in-loop-layer.ensures c.if-next-eq0.false;
      fresh = refl;
      left = left_next c.pass-in-loop-layer.ensures (left_next g c.loop-layer.invariant.left);
    }

pub returns : goal.returns
returns c =
    (layer_end c.requires.formed c.requires.few c.loop-layer.invariant.reached c.loop-layer-test.false, c.loop-layer.invariant.left)
