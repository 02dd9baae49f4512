-- Blocks laid end to end.
use Rattle.std.specs.Prelude.{List, [], ◌∷◌, ◌++◌}

-- the blocks f x of the elements of a list, laid end to end
unfoldable pub laid : {A B : Type 0} → (A → List B) → List A → List B
laid f [] = []
laid f (x ∷ xs) = f x ++ laid f xs
