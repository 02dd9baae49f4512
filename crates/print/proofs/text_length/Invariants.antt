-- `print::text_length`: all bytes but those of the lines' own objects from v on.
use Rattle.graph.specs.Graph.{graph}
use Rattle.matrix.proofs.Texts.{Measured}
use Rattle.print.proofs.text_length.Given as goal

abbrev pub invariant-loop-v : goal.invariant-loop-v
invariant-loop-v l = Measured (graph l.offsets l.targets) l.v l.total
