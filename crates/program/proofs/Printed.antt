-- What is printed beside a fault.
use mathlib.Core.Path.{◌≡◌, ap, ◌∙◌}
use mathlib.Core.List.{List}
use Prim.Native.Nat.{ℕ, zero, suc, ◌<◌}
use native.Mathlib.Omega.{arith}
use Rattle.refusal.specs.declared.Refusal.{Refusal}
use Rattle.refusal.specs.Number.{number}
use Rattle.refusal.proofs.Numbers.{numbered}
use Rattle.desk.specs.declared.Settings.{Settings}
use Rattle.lines.specs.Lines.{refusal_line}
use Rattle.program.specs.Program.{Contents, printed}

module _ (s : Contents) (o : Settings) (schedule : List ℕ) where
  -- a fault's only line
  pub beside : (k f : ℕ) → 0 < k → k ≡ f → refusal_line k ≡ printed f s o schedule
  beside k zero h e = absurd (omega arith)
  beside k (suc f) h e = ap refusal_line e

  -- the number v of the refusal that is the first fault
  pub printed_refusal : {v f : ℕ} (r : Refusal) → v ≡ number r → number r ≡ f → refusal_line v ≡ printed f s o schedule
  printed_refusal {f = f} r e h = ap refusal_line e ∙ beside (number r) f (numbered r) h
