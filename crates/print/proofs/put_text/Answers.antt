-- `print::put_text`: behind the head, the lines of one object more.
use Rattle.std.proofs.Common.{◌≡◌, ℕ, ◌+◌, ◌-◌, ◌<◌, ◌≤◌, length, get_or, take, drop, add-one, sym, arith}
use Rattle.graph.specs.Graph.{Graph, objects, references_of}
use Rattle.graph.proofs.OverMarked.{after_limit}
use Rattle.matrix.specs.Steps.{Exportable}
use Rattle.matrix.proofs.Texts.{its_part, counts_short, text_length, body_start, body_printable, body_on, body_end}
use Rattle.print.proofs.put_text.Goals as goal

-- the part of the targets that is lent is the object's
part_is : (G : Graph) → Exportable G → (v : ℕ) → v < objects G
    → take (get_or G.offsets (v + 1) 0 - get_or G.offsets v 0) (drop (get_or G.offsets v 0) G.targets) ≡ references_of G v
part_is G X v h = rw add-one (sym (its_part G X v h))

within : (G : Graph) → Exportable G → (v : ℕ) → v < objects G → get_or G.offsets (v + 1) 0 ≤ length G.targets
within G X v h = rw add-one (after_limit G X.formed v h)

pub put_head-end-requires : goal.put_head-end-requires
put_head-end-requires c =
    let k = counts_short _ c.requires.0 in
    (k.0, (k.1, omega (arith, c.requires.1, text_length _ c.requires.0)))

pub loop-v-init : goal.loop-v-init
loop-v-init c = body_start _ c.requires.0 c.requires.1 c.put_head-end.ensures

pub slice_bounds-put_object-end : goal.slice_bounds-put_object-end
slice_bounds-put_object-end c = omega (arith, within _ c.requires.0 c.loop-v.v c.loop-v-test.true)

pub put_object-end-requires : goal.put_object-end-requires
put_object-end-requires c =
    body_printable _ c.requires.0 c.loop-v.invariant c.loop-v-test.true (part_is _ c.requires.0 c.loop-v.v c.loop-v-test.true)

pub loop-v-preserved : goal.loop-v-preserved
loop-v-preserved c =
    body_on _ c.requires.0 c.loop-v.invariant c.loop-v-test.true (part_is _ c.requires.0 c.loop-v.v c.loop-v-test.true) c.put_object-end.ensures

pub returns : goal.returns
returns c = body_end _ c.requires.0 c.requires.1 c.put_head-end.ensures c.loop-v.invariant c.loop-v-test.false
