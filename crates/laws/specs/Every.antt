-- What holds of every element of a list.
use Rattle.std.specs.Prelude.{List, [], ◌∷◌}

-- P holds of each element
abbrev pub Every : {A : Type 0} → (A → Type 0) → List A → Type 0
Every P [] = Unit
Every P (x ∷ l) = P x × Every P l
