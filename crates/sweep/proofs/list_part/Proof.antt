-- `sweep::list_part` meets its contract: the loop keeps `At`: what is found stands in front, and the marks left tell what is to come.
use mathlib.Core.Logic.{⊎_elim}
use Prim.Native.Nat.{◌-◌, ◌≤◌, ◌<◌}
use native.Mathlib.Omega.{arith}
use lib.ListN.{length}
use borrow.Author.Rules.{rules}
use Rattle.sweep.specs.Sweep.{At}
use Rattle.sweep.proofs.Dead.{at_put, at_fits, at_live, at_dead, at_room, at_to}
use Rattle.sweep.proofs.list_part.Statement.{statement}
use Rattle.sweep.proofs.list_part.Tie as tie

abbrev invariant_loop : tie.invariant-loop-i
invariant_loop marks sizes list₀ from to count₀ freed₀ i₀ list count freed i = At marks sizes list₀ list count freed i × (i ≤ to)

abbrev decreases_loop : tie.decreases-loop-i
decreases_loop marks sizes list₀ from to count₀ freed₀ i₀ list count freed i = to - i

-- the objects are few, and the list is long enough
overflow_cast-list : tie.Need-overflow_cast-list invariant_loop decreases_loop
overflow_cast-list c =
    let r = c.loop-i.invariant.0.ready in
    omega (arith, r.marks_are, r.few, c.requires.2, c.loop-i-test.true)

bounds-list-count : tie.Need-bounds-list-count invariant_loop decreases_loop
bounds-list-count c =
    at_room c.loop-i.invariant.0 (omega (arith, c.requires.2, c.loop-i-test.true))

bounds-sizes-i : tie.Need-bounds-sizes-i invariant_loop decreases_loop
bounds-sizes-i c =
    omega (arith, c.loop-i.invariant.0.ready.marks_are, c.requires.2, c.loop-i-test.true)

overflow_add-count : tie.Need-overflow_add-count invariant_loop decreases_loop
overflow_add-count c =
    omega (arith, at_room c.loop-i.invariant.0 (omega (arith, c.requires.2, c.loop-i-test.true)))

overflow_add-freed : tie.Need-overflow_add-freed invariant_loop decreases_loop
overflow_add-freed c =
    let a = c.loop-i.invariant.0 in
    omega (arith, at_fits a, a.small, a.low, a.ready.marks_are, a.ready.few)

loop-i-preserved : tie.Need-loop-i-preserved invariant_loop decreases_loop
loop-i-preserved c =
    let a = c.loop-i.invariant.0 in
    let h : c.loop-i.i < length c.args.marks.now = omega (arith, c.requires.2, c.loop-i-test.true) in (
      ⊎_elim (λ w. rw (w.count-is, w.freed-is) (at_dead a h w.if-marks-i-eq0.true)) (λ w. rw (w.count-is, w.freed-is) (at_live (at_put a _) h w.if-marks-i-eq0.false)) c.if-marks-i-eq0.branch-raw,
      omega (arith, c.loop-i-test.true),
    )

returns : tie.Need-returns invariant_loop decreases_loop
returns c = let l = c.loop-i in at_to l.invariant.0 (omega (arith, l.invariant.1, c.loop-i-test.false))

pub list_part_spec : {M : Type 1} → statement M
list_part_spec =
    tie.close
    (tie.spec invariant_loop decreases_loop (λ c. (c.requires.0, c.requires.1)) (λ c. search rules) bounds-sizes-i overflow_cast-list (λ c. search rules)
    bounds-list-count (λ c. search rules) overflow_add-count overflow_add-freed (λ c. search rules) (λ c. search rules) loop-i-preserved (λ c. search rules) returns)
