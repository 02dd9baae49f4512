use Rattle.std.proofs.Common.{ℕ, ◌≡◌, ◌+◌, ◌*◌, ◌/◌, ◌%◌, ◌≤◌, arith}
use Rattle.frontier.proofs.RowLaws.{row_start, row_next, row_twice, row_wrong}
use Rattle.frontier.proofs.rows.insert.Goals as goal

pub loop-i-init : goal.loop-i-init
loop-i-init c = row_start c.requires.0

-- where number i stands
place : (i : ℕ) → 32 * (i / 32) + i % 32 ≡ i
place i = omega arith

pub returns-then-not-insert_part : goal.returns-then-not-insert_part
returns-then-not-insert_part c =
    let more : c.loop-i.i + c.min-count.result ≤ c.args.to = omega (arith, c.min-count.ensures, c.loop-i-test.true) in
    row_wrong (row_twice c.loop-i.invariant (place c.loop-i.i) more c.insert_part.ensures c.if-not-insert_part.true)

pub loop-i-preserved : goal.loop-i-preserved
loop-i-preserved c =
    let more : c.loop-i.i + c.min-count.result ≤ c.args.to = omega (arith, c.min-count.ensures, c.loop-i-test.true) in
    row_next c.loop-i.invariant (place c.loop-i.i) more c.insert_part.ensures c.if-not-insert_part.false c.insert_part.auto.words
