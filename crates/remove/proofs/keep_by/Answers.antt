use Rattle.std.proofs.Common.{◌≤◌, ◌<◌, ◌+◌, ◌*◌, length, arith}
use Rattle.std.proofs.Math.Logic.{by_cases}
use Rattle.std.proofs.Math.Decide.{dec_lt}
use Rattle.slices.specs.Bits.{word_bits}
use Rattle.graph.specs.Graph.{graph}
use Rattle.changes.proofs.Keeping.{offsets_climb, kept_none, window_ready, window_kept, bounds_all, places_all}
use Rattle.remove.proofs.keep_by.Goals as goal

pub loop-done-init : goal.loop-done-init
loop-done-init c = kept_none c.args.numbers.now (graph c.args.offsets.now c.args.targets.now) c.requires.0 c.requires.2 c.requires.3

pub keep_objects-done-requires : goal.keep_objects-done-requires
keep_objects-done-requires c =
    let x = c.loop-done.invariant in
    let low : c.loop-done.done.reference ≤ c.min-to.result = omega (arith, x.targets.within) in
    let inside : c.min-to.result ≤ length c.args.targets.now = omega arith in
    let room : c.min-to.result ≤ c.loop-done.done.reference + word_bits * length c.gather.new.taken = omega arith in
    window_ready c.args.numbers.now (graph c.args.offsets.now c.args.targets.now) c.requires.0 x c.gather.ensures low inside c.requires.1 room

pub loop-done-smaller : goal.loop-done-smaller
loop-done-smaller c =
    let o = c.keep_objects-done.ensures in
    by_cases (dec_lt c.keep_objects-done.result.object (length c.args.offsets.now))
    (λ (h : c.keep_objects-done.result.object < length c.args.offsets.now).
    let top = (offsets_climb c.args.numbers.now (graph c.args.offsets.now c.args.targets.now) c.requires.0).top c.keep_objects-done.result.object h in
    omega (arith, o.reached h, top, c.requires.4, o.forth))
    (λ (h : c.keep_objects-done.result.object < length c.args.offsets.now → ⊥). omega (arith, o.onward, o.forth))

pub loop-done-preserved : goal.loop-done-preserved
loop-done-preserved c =
    let x = c.loop-done.invariant in
    let low : c.loop-done.done.reference ≤ c.min-to.result = omega (arith, x.targets.within) in
    let inside : c.min-to.result ≤ length c.args.targets.now = omega arith in
    let room : c.min-to.result ≤ c.loop-done.done.reference + word_bits * length c.gather.new.taken = omega arith in
    window_kept c.args.numbers.now (graph c.args.offsets.now c.args.targets.now) c.requires.0 x c.gather.ensures low inside c.requires.1 room c.keep_objects-done.ensures

pub returns : goal.returns
returns c =
    let n = c.args.numbers.now in
    let G = graph c.args.offsets.now c.args.targets.now in (
      bounds_all n G c.requires.0 c.loop-done.invariant (omega (arith, c.loop-done-test.false)),
      places_all n G c.requires.0 c.loop-done.invariant (omega (arith, c.loop-done-test.false)),
    )
