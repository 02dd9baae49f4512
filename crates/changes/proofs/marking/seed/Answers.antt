use Rattle.std.proofs.Common.{◌≤◌, ◌<◌, length, get_or, arith, rules, length-append}
use Rattle.std.proofs.lemmas.Slice.Zip.{zip_turn, zip_end}
use Rattle.changes.proofs.Seeding.{seeding_none, seeding_room, seeding_over, seeding_next, seeding_end, source_there, target_there}
use Rattle.changes.proofs.marking.seed.Goals as goal

pub loop-source-init : goal.loop-source-init
loop-source-init c = seeding_none _ _ _ _

pub bounds-marks-source : goal.bounds-marks-source
bounds-marks-source c =
    let t = zip_turn c.args.from.now c.args.to.now c.loop-source.yielded c.into_iter-source-iterator.result c.loop-source.source-iterator c.next.new.self _ (search rules) (search rules) c.loop-source.yielded_by _ c.in-Some.is c.next.ensures.steps in
    rw (t.2 0) (source_there c.loop-source.invariant t.0 c.requires.2)

pub touch-count-requires : goal.touch-count-requires
touch-count-requires c =
    let t = zip_turn c.args.from.now c.args.to.now c.loop-source.yielded c.into_iter-source-iterator.result c.loop-source.source-iterator c.next.new.self _ (search rules) (search rules) c.loop-source.yielded_by _ c.in-Some.is c.next.ensures.steps in
    (seeding_room c.loop-source.invariant c.requires.0, rw (t.3 0) (target_there c.loop-source.invariant t.0 c.requires.3 c.requires.1), omega arith)

pub loop-source-preserved-then-marks-source-ne0 : goal.loop-source-preserved-then-marks-source-ne0
loop-source-preserved-then-marks-source-ne0 c =
    let t = zip_turn c.args.from.now c.args.to.now c.loop-source.yielded c.into_iter-source-iterator.result c.loop-source.source-iterator c.next.new.self _ (search rules) (search rules) c.loop-source.yielded_by _ c.in-Some.is c.next.ensures.steps in
    let marked : 0 < get_or c.loop-source.marks (get_or c.args.from.now (length c.loop-source.yielded) 0) 0 = omega (arith, rw (t.2 0) at c.if-marks-source-ne0.true) in
    simp length-append (seeding_next c.loop-source.invariant t.0 marked (rw (t.3 0) at c.touch-count.ensures))

pub loop-source-preserved : goal.loop-source-preserved
loop-source-preserved c =
    let t = zip_turn c.args.from.now c.args.to.now c.loop-source.yielded c.into_iter-source-iterator.result c.loop-source.source-iterator c.next.new.self _ (search rules) (search rules) c.loop-source.yielded_by _ c.in-Some.is c.next.ensures.steps in
    simp length-append (seeding_over c.loop-source.invariant t.0 (rw (t.2 0) at c.if-marks-source-ne0.false))

pub returns : goal.returns
returns c =
    let e = zip_end c.args.from.now c.args.to.now c.loop-source.yielded c.into_iter-source-iterator.result c.loop-source.source-iterator c.next.new.self _ (search rules) (search rules) c.loop-source.yielded_by c.in-None.is c.next.ensures.steps in
    let all : length c.args.from.now ≤ length c.loop-source.yielded = omega (arith, e, c.requires.1) in
    seeding_end c.loop-source.invariant all
