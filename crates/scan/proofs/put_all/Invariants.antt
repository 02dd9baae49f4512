use Rattle.std.proofs.Common.{length}
use Rattle.names.specs.Lent.{texts_in}
use Rattle.scan.proofs.Putting.{PuttingTexts, PuttingText}
use Rattle.scan.proofs.put_all.Given as goal

-- what is written and the mentions of the texts that are left are all
abbrev pub invariant-loop-end : goal.invariant-loop-end
invariant-loop-end l = PuttingTexts l.finder (texts_in l.texts) l.initial.from l.initial.to l.from l.to l.top l.start (length l.yielded)

-- and so they are of one text
abbrev pub invariant-loop-object : goal.invariant-loop-object
invariant-loop-object l = PuttingText l.owner l.initial.top l.initial.object-iterator l.initial.from l.initial.to l.from l.to l.yielded l.object-iterator l.top
