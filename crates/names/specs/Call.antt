-- SPECIFICATION 14.3: the calls `scan_length` and `scan`, for all inputs: the number of the first fault, the length, the lists afterwards.
use Rattle.std.specs.Prelude.{Bool, not, ◌||◌, List, [], ◌∷◌, ℕ, ◌*◌, length, leb, eqb}
use Rattle.laws.specs.Choice.{both}
use Rattle.laws.specs.Test.{all}
use Rattle.refusal.specs.Order.{raise, first}
use Rattle.graph.specs.Graph.{all_below}
use Rattle.desk.specs.Checks.{objects_fault}
use Rattle.desk.specs.Kept.{unless_refused}
use Rattle.desk.specs.Length.{LengthRow, length_by}
use Rattle.names.specs.Names.{Names, count, ascends, ascending, digital}
use Rattle.names.specs.Mentions.{texts_from, sources, targets}

-- what is lent as texts: their bytes end to end, where each of them ends, and the object that owns it
pub record Texts : Type 0 where
  pub bytes : List ℕ
  pub ends : List ℕ
  pub owners : List ℕ

abbrev pub texts_of : List ℕ → List ℕ → List ℕ → Texts
texts_of bytes ends owners = record { bytes = bytes; ends = ends; owners = owners }

-- the texts themselves
abbrev pub each : Texts → List (List ℕ)
each T = texts_from 0 T.ends T.bytes

-- the mentions of a store
abbrev pub from : Names → Texts → List ℕ
from N T = sources N (each T) T.owners

abbrev pub to : Names → Texts → List ℕ
to N T = targets N (each T)

-- ---- the checks

-- how many work words are lent, for the index of names
abbrev pub work_word_count : ℕ
work_word_count = 135169

-- they are so many, and all of them 0
abbrev pub blank : List ℕ → Bool
blank work = both (eqb (length work) work_word_count) (all_below 1 work)

-- 7: not w bytes for each name, not an owner for each text, or work that is not blank
abbrev pub names_misfit : ℕ → ℕ → ℕ → Bool
names_misfit bytes w k = not (eqb bytes (w * k))

abbrev pub misfit : Names → Texts → Bool → Bool
misfit N T ready = names_misfit (length N.bytes) N.width (count N) || not (eqb (length T.owners) (length T.ends)) || not ready

-- no end is below the one before it, or below `start`, and the last is where the bytes end
unfoldable pub ends_right : ℕ → List ℕ → ℕ → Bool
ends_right start [] long = eqb start long
ends_right start (e ∷ es) long = both (leb start e) (ends_right e es long)

-- 5: a name or a text of no object
abbrev pub strange : ℕ → Names → Texts → Bool
strange n N T = not (all_below n N.objects) || not (all_below n T.owners)

-- 19: names of no bytes, names that are not digits, names that do not ascend
abbrev pub unnamed : Names → Bool
unnamed N = eqb N.width 0 || not (digital N) || not (ascending N)

-- the number of the first fault, or 0: 4, 7, 10, 5, 19; `ready` says whether the work is blank
unfoldable pub fault : ℕ → Names → Texts → Bool → ℕ
unfolding ends_right all_below ascends all
fault n N T ready =
    first (objects_fault n)
    (first (raise (misfit N T ready) 7 0)
    (first (raise (not (ends_right 0 T.ends (length T.bytes))) 10 0)
    (first (raise (strange n N T) 5 0)
    (raise (unnamed N) 19 0))))

-- scan: then 7 of the lists that are filled
unfoldable pub scan_fault : ℕ → Names → Texts → Bool → ℕ → ℕ → ℕ
unfolding fault targets
scan_fault n N T ready sources targets =
    first (fault n N T ready)
    (raise (not (eqb sources (length (to N T))) || not (eqb targets (length (to N T)))) 7 0)

-- ---- what is answered, and the lists afterwards

-- how many mentions there are
abbrev pub length_for : ℕ → Names → Texts → Bool → LengthRow
length_for n N T ready = length_by (fault n N T ready) (length (to N T))

abbrev pub from_after : ℕ → Names → Texts → Bool → List ℕ → List ℕ → List ℕ
from_after n N T ready fs ts = unless_refused (scan_fault n N T ready (length fs) (length ts)) (from N T) fs

abbrev pub to_after : ℕ → Names → Texts → Bool → List ℕ → List ℕ → List ℕ
to_after n N T ready fs ts = unless_refused (scan_fault n N T ready (length fs) (length ts)) (to N T) ts
