use Rattle.std.proofs.Common.{◌≡◌, ◌<◌, ◌≤◌, length, get_or, ap, arith}
use Rattle.std.proofs.lemmas.List.{length_push}
use Rattle.std.proofs.lemmas.Slice.Zip.{zip_turn, zip_end}
use Rattle.scan.proofs.Counting.{text_order, text_inside}
use Rattle.scan.proofs.Putting.{texts_room, texts_next, texts_put, text_is, text_room, text_on}
use Rattle.scan.proofs.put_all.Goals as goal
use Rattle.scan.proofs.put_all.Goals.{In-Some}

-- the end and the owner of a turn are those of the text that it is about
turn : (c : In-Some) → let i = length c.loop-end.yielded in let t = c.args.texts.now in
    (i < length t.ends.now) × (c.in-Some.field-0-0.now ≡ get_or t.ends.now i 0) × (c.in-Some.field-0-1.now ≡ get_or t.owners.now i 0)
turn c =
    let t =
    zip_turn c.args.texts.now.ends.now c.args.texts.now.owners.now c.loop-end.yielded c.into_iter-end-iterator.result c.loop-end.end-iterator c.next.new.self c.next.result (cc) (cc)
    c.loop-end.yielded_by (c.in-Some.field-0-0, c.in-Some.field-0-1) c.in-Some.is c.next.ensures.steps
    in
    (t.0, t.2 0, t.3 0)

-- and the text lies within the bytes
inside : (c : In-Some) → (c.loop-end.start ≤ c.in-Some.field-0-0.now) × (c.in-Some.field-0-0.now ≤ length c.args.texts.now.bytes.now)
inside c =
    let t = turn c in
    let r = c.loop-end.invariant.right in
    (omega (arith, t.1, text_order _ _ _ _ r t.0), omega (arith, t.1, text_inside _ _ _ _ r t.0))

pub slice_bounds-mentions-count : goal.slice_bounds-mentions-count
slice_bounds-mentions-count c = (inside (goal.at.slice_bounds-mentions-count c).In-Some).0

pub slice_bounds-mentions-start : goal.slice_bounds-mentions-start
slice_bounds-mentions-start c = let i = inside (goal.at.slice_bounds-mentions-start c).In-Some in omega (arith, i.0, i.1)

pub slice_bounds-mentions-end : goal.slice_bounds-mentions-end
slice_bounds-mentions-end c = (inside (goal.at.slice_bounds-mentions-end c).In-Some).1

pub bounds-from-top : goal.bounds-from-top
bounds-from-top c =
    let t = turn (goal.at.bounds-from-top c).In-Some in
    let r = texts_room c.loop-end.invariant c.requires t.0 in
    let m = text_is c.loop-end.invariant c.requires t.0 t.1 c.mentions-object-items.ensures.all c.into_iter-object-iterator.ensures.into_iter_gives in
    (text_room c.loop-object.invariant (rw c.in-Some-object.is at c.next-in-loop-object.ensures.steps) (omega (arith, r.0, ap length m)) r.1).0

pub bounds-to-top : goal.bounds-to-top
bounds-to-top c =
    let t = turn (goal.at.bounds-to-top c).In-Some in
    let r = texts_room c.loop-end.invariant c.requires t.0 in
    let m = text_is c.loop-end.invariant c.requires t.0 t.1 c.mentions-object-items.ensures.all c.into_iter-object-iterator.ensures.into_iter_gives in
    (text_room c.loop-object.invariant (rw c.in-Some-object.is at c.next-in-loop-object.ensures.steps) (omega (arith, r.0, ap length m)) r.1).1

pub loop-object-preserved : goal.loop-object-preserved
loop-object-preserved c =
    let t = turn (goal.at.loop-object-preserved c).In-Some in
    let r = texts_room c.loop-end.invariant c.requires t.0 in
    let m = text_is c.loop-end.invariant c.requires t.0 t.1 c.mentions-object-items.ensures.all c.into_iter-object-iterator.ensures.into_iter_gives in
    text_on c.loop-object.invariant (rw c.in-Some-object.is at c.next-in-loop-object.ensures.steps) (omega (arith, r.0, ap length m)) r.1

pub loop-end-preserved : goal.loop-end-preserved
loop-end-preserved c =
    let t = turn (goal.at.loop-end-preserved c).In-Some in
    let m = text_is c.loop-end.invariant c.requires t.0 t.1 c.mentions-object-items.ensures.all c.into_iter-object-iterator.ensures.into_iter_gives in
    let n = rw c.in-None-object.is at c.next-in-loop-object.ensures.steps in
    rw (length_push c.loop-end.yielded (c.in-Some.field-0-0, c.in-Some.field-0-1), t.1) (texts_next c.loop-end.invariant c.requires t.0 c.loop-object.invariant t.2 m n.0)

pub returns : goal.returns
returns c =
    let e =
    zip_end c.args.texts.now.ends.now c.args.texts.now.owners.now c.loop-end.yielded c.into_iter-end-iterator.result c.loop-end.end-iterator c.next.new.self c.next.result (cc) (cc)
    c.loop-end.yielded_by c.in-None.is c.next.ensures.steps
    in
    texts_put c.loop-end.invariant c.requires.room c.requires.alike (omega (arith, e, c.requires.owned))
