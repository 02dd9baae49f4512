use Rattle.marks.proofs.MarkLaws.{zeros_for}
use Rattle.marks.proofs.check_starts.Goals as goal

pub count_starts-requires : goal.count_starts-requires
count_starts-requires c = zeros_for 64 c.if-marks-le-FEW_NUMBERS.true c.requires.0

pub count_starts-requires-2 : goal.count_starts-requires-2
count_starts-requires-2 c = zeros_for 2048 c.requires.1 c.requires.0
