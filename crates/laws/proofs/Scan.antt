-- A pass over a list that looks at everything and only remembers whether all was right, so that its loop has no jump out
-- of it: as long as so far all is right, what is left decides.
use mathlib.Core.Path.{◌≡◌, sym, ◌∙◌}
use mathlib.Core.Bool.{Bool, true, false, ◌&&◌}
use Rattle.laws.specs.Choice.{both}

-- the next one is looked at
pub pass_next : (fits test later : Bool) {left whole : Bool} → left ≡ both test later → (fits && left) ≡ whole → (fits && test && later) ≡ whole
pass_next true true later e h = sym e ∙ h
pass_next true false later e h = sym e ∙ h
pass_next false test later e h = h

-- nothing is left
pub pass_end : (fits : Bool) {left whole : Bool} → left ≡ true → (fits && left) ≡ whole → fits ≡ whole
pass_end true e h = sym e ∙ h
pass_end false e h = h
