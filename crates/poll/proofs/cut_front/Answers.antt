-- What is left behind the front is copied to the asker.
use Rattle.std.proofs.Common.{arith}
use Rattle.poll.proofs.Dividing.{copy_room, in_front, few_behind, divided_front}
use Rattle.poll.proofs.cut_front.Goals as goal

pub behind_front-given-requires : goal.behind_front-given-requires
behind_front-given-requires c = in_front c.requires.0 c.requires.1

pub copy_within-requires-clause-in_bounds : goal.copy_within-requires-clause-in_bounds
copy_within-requires-clause-in_bounds c =
    let few = few_behind c.requires.0 c.requires.1 c.behind_front-given.result c.behind_front-given.ensures in
    (copy_room c.requires.0 c.behind_front-given.result.used few).0

pub copy_within-requires-clause-dest_in_bounds : goal.copy_within-requires-clause-dest_in_bounds
copy_within-requires-clause-dest_in_bounds c =
    let few = few_behind c.requires.0 c.requires.1 c.behind_front-given.result c.behind_front-given.ensures in
    omega (arith, (copy_room c.requires.0 c.behind_front-given.result.used few).1)

pub returns-clause-divided : goal.returns-clause-divided
returns-clause-divided c =
    divided_front c.requires.0 c.requires.1 c.behind_front-given.result c.behind_front-given.ensures _ c.copy_within.ensures.after
