use Rattle.std.proofs.Common.{◌≡◌, ◌∙◌, ◌+◌, ℕ, arith, sym, ap}
use Rattle.graph.specs.Graph.{all_below}
use Rattle.graph.proofs.Scan.{below_none, below_all}
use Rattle.graph.proofs.is_below.Goals as goal

-- no number is below 0
pub returns-then-n-eq0 : goal.returns-then-n-eq0
returns-then-n-eq0 c = rw c.if-n-eq0.true (c.is_empty.ensures ∙ sym (below_none _))

-- every word is below what no word holds
pub returns-in-Err : goal.returns-in-Err
returns-in-Err c = sym (below_all _ _ (λ i. omega (arith, c.type_inv.numbers i, c.in-Err.ensures)))

pub returns-in-Ok : goal.returns-in-Ok
returns-in-Ok c =
    let n : c.in-Ok.most + 1 ≡ c.args.n = omega (arith, c.if-n-eq0.false, c.in-Ok.ensures) in
    c.is_at_most.ensures ∙ ap (λ (n : ℕ). all_below n c.args.numbers.now) n
