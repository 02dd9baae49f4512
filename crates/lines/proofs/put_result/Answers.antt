-- The tallies stand behind the counts.
use Rattle.std.proofs.Common.{le_refl}
use Rattle.text.proofs.Pages.{then}
use Rattle.lines.proofs.put_result.Goals as goal

pub returns : goal.returns
returns c = then c.put_counts.ensures _ (le_refl _) c.put_tallies.ensures
