use Rattle.std.proofs.Common.{◌≡◌, ℕ, ◌+◌, ◌*◌, ◌-◌, sym, arith}
use Rattle.lookup.proofs.Searching.{between_down, between_up, between_found, between_none}
use Rattle.lookup.proofs.find.Goals as goal
use Rattle.lookup.proofs.find.Goals.{in-Less, in-Greater}

-- the bytes that are looked at are a name's
cut : (m w : ℕ) → m * w + w - m * w ≡ w
cut m w = omega arith

pub returns-in-Equal : goal.returns-in-Equal
returns-in-Equal c =
    let p = c.between-middle.ensures in
    between_found c.requires.ascends c.loop-low.invariant c.between-middle.result p.0 p.1
    (sym (rw (cut c.between-middle.result c.args.width) at c.in-Equal.ensures))

pub loop-low-preserved : goal.loop-low-preserved
loop-low-preserved c =
    let p = c.between-middle.ensures in
    elim c.match-look.branch [
      | in-Less w ↦
          rw (w.low-is, w.high-is)
          (between_down c.requires.ascends c.loop-low.invariant c.between-middle.result p.0 p.1
          (sym (rw (cut c.between-middle.result c.args.width) at w.in-Less.ensures)))
      | in-Greater w ↦
          rw (w.low-is, w.high-is)
          (between_up c.requires.ascends c.loop-low.invariant c.between-middle.result p.0 p.1
          (sym (rw (cut c.between-middle.result c.args.width) at w.in-Greater.ensures)))
    ]

pub returns : goal.returns
returns c = between_none c.requires.ascends c.loop-low.invariant c.loop-low-test.false
