-- Something is left, or nothing.
use native.Mathlib.Omega.{arith}
use Prim.Native.Nat.{ℕ, ◌+◌, ◌-◌, ◌*◌}
use mathlib.Core.Path.{◌≡◌, sym, ap, ◌∙◌}
use Rattle.worker.specs.declared.registers.Block.{Block}
use Rattle.step.proofs.Bounds.{block_room, roomy, stretch_room}
use Rattle.follow.proofs.Onward.{follow_low, advanceable, asker_room, carries_one, stopped_one, holds_onward, holds_stopped}
use Rattle.follow.proofs.follow.Goals as goal

-- a stretch from its start to its end
long : (b l : ℕ) → b * l + l - b * l ≡ l
long b l = omega arith

pub slice_bounds-advance-end : goal.slice_bounds-advance-end
slice_bounds-advance-end c =
    let b = c.args.step.entry.worker in
    let x = c.requires.by_index.1.1.1.1 in
    omega (arith, stretch_room x.scene x.holds b (follow_low x))

pub advance-requires : goal.advance-requires
advance-requires c =
    let m = long c.args.step.entry.worker c.args.step.setup.stretch in
    rw m (advanceable c.requires.by_index.1.1.1.1 c.requires.r_value)

pub followed-requires : goal.followed-requires
followed-requires c =
    let x = c.requires.by_index.1.1.1.1 in
    (roomy x.scene x.holds, omega arith, omega arith)

pub returns-then-advance : goal.returns-then-advance
returns-then-advance c =
    let m = long c.args.step.entry.worker c.args.step.setup.stretch in
    let d = rw (c.requires.r_value, m) at c.advance.ensures in
    let t = c.if-advance.true in
    λ marks marks' tallies tallies' v x. rw (d.words, c.followed.ensures, m) (holds_onward x (sym d.says ∙ t) (d.onward t) v)

pub stop-refused-requires : goal.stop-refused-requires
stop-refused-requires c =
    let b = c.args.step.entry.worker in
    let x = c.requires.by_index.1.1.1.1 in
    let e = ap (λ (r : Block). r.cell) c.requires.r_value in
    rw (c.advance.ensures.nothing c.if-advance.false, c.requires.r_value)
    (block_room x.scene x.holds b (follow_low x), λ z. asker_room x z)

pub followed-requires-2 : goal.followed-requires-2
followed-requires-2 c =
    let x = c.requires.by_index.1.1.1.1 in
    (roomy x.scene x.holds, omega (arith, c.stop-refused.ensures.value, stopped_one c.args.r.cell), omega (arith, carries_one x))

pub returns : goal.returns
returns c =
    let m = long c.args.step.entry.worker c.args.step.setup.stretch in
    let d = rw (c.requires.r_value, m) at c.advance.ensures in
    let t = c.if-advance.false in
    let regs = rw (d.nothing t, c.requires.r_value) at c.stop-refused.ensures.regs_after in
    let refused = rw c.requires.r_value at c.stop-refused.ensures.value in
    λ marks marks' tallies tallies' v x.
    holds_stopped x (sym d.says ∙ t) v (rw (d.words, m)) regs (rw (c.followed-2.ensures, refused))
