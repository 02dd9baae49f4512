-- What a turn tells of the collection's end.
use Rattle.std.specs.Prelude.{◌≡◌}
use Rattle.step.specs.declared.Progress.{Progress}
use Rattle.std.specs.declared.ops.ControlFlow.{ControlFlow}
use Rattle.std.specs.declared.ops.ControlFlow.TheVariants.{Continue, Break}

-- how far the collection is
abbrev pub progress_of : ControlFlow Progress Progress → Progress
progress_of (Continue p) = p
progress_of (Break p) = p

-- a break is told only where nobody runs
abbrev pub ToldOver : ControlFlow Progress Progress → Type 0
ToldOver (Continue p) = Unit {0}
ToldOver (Break p) = p.running ≡ 0
