-- The word, and the number behind it.
use Rattle.std.proofs.Common.{le_refl}
use Rattle.text.proofs.Pages.{then}
use Rattle.text.proofs.Page.put_named.Goals as goal

pub returns : goal.returns
returns c = then c.put.ensures _ (le_refl _) c.put_spaced.ensures
