use Rattle.std.proofs.Common.{◌≡◌, ◌+◌, ◌-◌, ◌∙◌, get_or, arith, rules}
use Rattle.std.proofs.lemmas.List.{places}
use Rattle.lookup.proofs.Tails.{tail_low}
use Rattle.lookup.proofs.Sliding.{slid_on}
use Rattle.lookup.proofs.slide.Goals as goal

pub contains-requires : goal.contains-requires
contains-requires c = omega (arith, c.loop-passed.invariant.value, tail_low c.args.text.now (c.args.from + c.args.width + c.loop-passed.passed - 8), c.requires.1)

pub overflow_mul-h : goal.overflow_mul-h
overflow_mul-h c = omega (arith, c.loop-passed.invariant.value, tail_low c.args.text.now (c.args.from + c.args.width + c.loop-passed.passed - 8))

pub overflow_add-h : goal.overflow_add-h
overflow_add-h c = omega (arith, c.loop-passed.invariant.value, tail_low c.args.text.now (c.args.from + c.args.width + c.loop-passed.passed - 8))

pub loop-passed-preserved : goal.loop-passed-preserved
loop-passed-preserved c =
    let a = c.args in
    let l = c.loop-passed in
    let e : a.from + a.width + (l.passed + 1) ≡ a.from + a.width + l.passed + 1 = omega arith in
    let b : c.from.result ≡ get_or a.text.now (a.from + a.width + l.passed) 0 = c.from.ensures ∙ search (rules, places) in
    rw (e, b) (slid_on l.invariant c.contains.ensures c.if-contains.false (omega arith))

pub contains-requires-2 : goal.contains-requires-2
contains-requires-2 c = omega (arith, c.loop-passed.invariant.value, tail_low c.args.text.now (c.args.from + c.args.width + c.loop-passed.passed - 8), c.requires.1)
