-- SPECIFICATION 14.2: what a text mentions. An object is mentioned wherever its name stands in the text, as w consecutive bytes; nothing
-- else is looked at. The mentions of a store are listed by text, and within a text by place.
use Rattle.std.specs.Prelude.{List, [], ◌∷◌, ◌++◌, ℕ, suc, ◌-◌, length, take, drop, replicate}
use Rattle.laws.specs.Choice.{pick}
use Rattle.laws.specs.Blocks.{laid}
use Rattle.laws.specs.Test.{same}
use Rattle.names.specs.Names.{Names, name_at}

-- the objects that bytes name, of names numbered from k on
unfoldable pub named_from : Names → ℕ → List ℕ → List ℕ → List ℕ
unfolding same
named_from N k [] bytes = []
named_from N k (v ∷ vs) bytes = pick (same bytes (name_at N k)) (v ∷ []) [] ++ named_from N (suc k) vs bytes

abbrev pub named : Names → List ℕ → List ℕ
named N bytes = named_from N 0 N.objects bytes

-- the objects that a text mentions, place after place
unfoldable pub mentions : Names → List ℕ → List ℕ
unfolding named_from
mentions N [] = []
mentions N (b ∷ text) = named N (take N.width (b ∷ text)) ++ mentions N text

-- texts laid end to end: each goes from the end of the one before it, the first from `start`, up to its own end
unfoldable pub texts_from : ℕ → List ℕ → List ℕ → List (List ℕ)
texts_from start [] bytes = []
texts_from start (e ∷ es) bytes = take (e - start) (drop start bytes) ∷ texts_from e es bytes

-- all mentions of texts, as the objects that are mentioned
unfoldable pub targets : Names → List (List ℕ) → List ℕ
unfolding laid mentions
targets N texts = laid (mentions N) texts

-- and as the objects that mention them: the owner of a text, once for each of its mentions
unfoldable pub sources : Names → List (List ℕ) → List ℕ → List ℕ
unfolding mentions
sources N [] owners = []
sources N (text ∷ texts) [] = []
sources N (text ∷ texts) (o ∷ owners) = replicate (length (mentions N text)) o ++ sources N texts owners
