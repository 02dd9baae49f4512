-- A finished collection's dead stand behind its counts.
use Rattle.std.proofs.Common.{le_refl}
use Rattle.text.proofs.Pages.{then, tight}
use Rattle.report.proofs.collection.put_marked.Goals as goal

pub returns-in-Finished : goal.returns-in-Finished
returns-in-Finished c = rw c.in-Finished.is (tight (then c.put_result.ensures _ (le_refl _) c.put_dead.ensures))
