-- Choosing by a test.
use Rattle.std.specs.Prelude.{Bool, true, false}

-- the first where the test holds, else the second
abbrev pub pick {ℓ} : {A : Type ℓ} → Bool → A → A → A
pick true x y = x
pick false x y = y

-- both hold
abbrev pub both : Bool → Bool → Bool
both true q = q
both false q = false

-- at least one holds
abbrev pub either : Bool → Bool → Bool
either true q = true
either false q = q
