-- `print::put_text`: behind the head, the lines of the objects so far are written.
use Rattle.graph.specs.Graph.{graph}
use Rattle.matrix.proofs.Texts.{Body}
use Rattle.print.proofs.put_text.Given as goal

abbrev pub invariant-loop-v : goal.invariant-loop-v
invariant-loop-v l = Body (graph l.offsets l.targets) l.initial.out l.initial.end l.v l.out l.end
