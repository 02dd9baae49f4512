use Rattle.std.proofs.Common.{refl, length, ◌-◌, [], ◌∷◌}
use borrow.Author.Tests.{eq-eqb}
use Rattle.laws.proofs.Stores.{sets_all}
use Rattle.ffi_store.proofs.kullneyra_references.Goals as goal

pub returns-clause-res_after : goal.returns-clause-res_after
returns-clause-res_after c =
    let r = c.args.res.now in
    let l = c.if-res-ne2.false in
    let p = c.part_of-part.ensures c.args.targets.now refl in
    let found = c.part_of-part.result in
    rw (eq-eqb (length r) 2 l, ← p.starts, ← p.long) (sets_all (found.start ∷ (found.end - found.start) ∷ []) r l)
