-- Three texts, one behind the other.
use Rattle.std.proofs.Common.{arith, le_refl}
use Rattle.text.proofs.Pages.{then}
use Rattle.text.proofs.Page.put_line_of_two.Goals as goal

pub returns : goal.returns
returns c =
    let two = then c.put_named.ensures _ (le_refl _) c.put_spaced.ensures in
    then two _ (omega arith) c.put.ensures
