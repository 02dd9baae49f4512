use Rattle.names.specs.Lent.{texts_in}
use Rattle.scan.proofs.Counting.{CountingTexts}
use Rattle.scan.proofs.count_all.Given as goal

-- the mentions of the texts passed and of the others are all
abbrev pub invariant-loop-end : goal.invariant-loop-end
invariant-loop-end l = CountingTexts l.finder (texts_in l.texts) l.count l.start l.end-index
