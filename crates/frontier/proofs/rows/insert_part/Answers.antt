use Rattle.std.proofs.Common.{refl, arith}
use Rattle.frontier.proofs.RowLaws.{part_not, part_fits, part_set}
use Rattle.frontier.proofs.rows.insert_part.Goals as goal

pub returns-then-word-low-ne0 : goal.returns-then-word-low-ne0
returns-then-word-low-ne0 c =
    let a = c.args in
    part_not a.words.now a.at a.low a.count c.requires.2 refl c.if-word-low-ne0.true

pub overflow_add-words : goal.overflow_add-words
overflow_add-words c =
    let a = c.args in
    record { fits = part_fits a.words.now a.at a.low a.count c.requires.2 refl c.if-word-low-ne0.false (omega arith) }

pub returns : goal.returns
returns c =
    let a = c.args in
    part_set a.words.now a.at a.low a.count c.requires.2 refl c.if-word-low-ne0.false c.requires.0
