use Rattle.std.proofs.Common.{arith}
use Rattle.checkpoint.proofs.Saving.{room, narrow, tallies_many, work_long, long₂, long₄, all_written}
use Rattle.checkpoint.proofs.save.save.Goals as goal

pub heads_at-requires : goal.heads_at-requires
heads_at-requires c = let x = c.requires in (omega (arith, room x), narrow x)

pub numbers_at-requires : goal.numbers_at-requires
numbers_at-requires c =
    let x = c.requires in
    omega (
      arith,
      room x,
      tallies_many x,
      c.tallies.ensures,
      long₂ x c.counted.ensures c.heads_at.ensures (c.workers_at.ensures x.recorded),
    )

pub work_at-requires : goal.work_at-requires
work_at-requires c =
    let x = c.requires in
    omega (
      arith,
      x.long,
      work_long x,
      long₄ x c.counted.ensures c.heads_at.ensures (c.workers_at.ensures x.recorded) c.tallies.ensures
          c.numbers_at.ensures c.marks.ensures c.marks_at.ensures,
    )

pub returns : goal.returns
returns c =
    λ x.
    all_written x c.counted.ensures c.heads_at.ensures (c.workers_at.ensures x.recorded) c.tallies.ensures
    c.numbers_at.ensures c.marks.ensures c.marks_at.ensures c.work_at.ensures
