-- The passes over texts: what they ask of names and index, and what each of them finds and leaves.
use Rattle.std.specs.Prelude.{◌≡◌, true, List, [], ◌∷◌, ℕ, suc, ◌+◌, ◌*◌, ◌≤◌, ◌<◌, length, get_or, drop, Option, MatchOption, Result, MatchResult, Bool, false, not, ◌||◌, eqb}
use Rattle.refusal.specs.declared.Refusal.{Refusal}
use Rattle.refusal.specs.declared.Refusal.TheVariants.{Buffer}
use Rattle.names.specs.Names.{Names, count, is_digit}
use Rattle.names.specs.Mentions.{mentions}
use Rattle.names.specs.Call.{Texts, from, to, ends_right}
use Rattle.lookup.specs.Index.{Indexed}
use Rattle.lookup.specs.Search.{Ascends}
use Rattle.scan.specs.declared.passes.Mention.{Mention}

-- names that pass check 19, and their index
pub record Ready (N : Names) (index : List ℕ) : Type 0 where
  pub some : 0 < N.width
  pub long : length N.bytes ≡ N.width * count N
  pub ascends : Ascends N.bytes N.width (count N)
  pub digits : (i : ℕ) → i < length N.bytes → is_digit (get_or N.bytes i 0) ≡ true
  pub indexed : Indexed N.bytes N.width (count N) index

-- the first mention of a text from a place on
pub record Is (N : Names) (text : List ℕ) (at : ℕ) (m : Mention) : Type 0 where
  pub low : at ≤ m.place
  pub fits : m.place + N.width ≤ length text
  pub some : mentions N (drop at text) ≡ m.object ∷ mentions N (drop (suc m.place) text)

abbrev pub NextIs : Names → List ℕ → ℕ → Option Mention → Type 0
NextIs N text at r = MatchOption r (mentions N (drop at text) ≡ []) (Is N text at)

pub record CountedAll (N : Names) (T : Texts) (r : ℕ) : Type 0 where
  pub is : r ≡ length (to N T)
  pub few : r ≤ length T.bytes

-- both lists are as long as the mentions
pub record Puttable (N : Names) (T : Texts) (fs ts : List ℕ) : Type 0 where
  pub right : ends_right 0 T.ends (length T.bytes) ≡ true
  pub owned : length T.owners ≡ length T.ends
  pub room : length fs ≡ length (to N T)
  pub alike : length ts ≡ length (to N T)

-- and they are there
pub record PutAll (N : Names) (T : Texts) (fs ts : List ℕ) : Type 0 where
  pub sources : fs ≡ from N T
  pub targets : ts ≡ to N T

-- whether a list is not as long as the mentions
abbrev pub unlike : Names → Texts → List ℕ → Bool
unlike N T xs = not (eqb (length xs) (length (to N T)))

-- both lists are filled, or they are of another length and stay
abbrev pub Filled : Names → Texts → List ℕ → List ℕ → List ℕ → List ℕ → Result (Unit {0}) Refusal → Type 0
Filled N T fs ts fs' ts' r =
    MatchResult r (λ _. (unlike N T fs || unlike N T ts ≡ false) × PutAll N T fs' ts')
    (λ e. (unlike N T fs || unlike N T ts ≡ true) × (e ≡ Buffer) × (fs' ≡ fs) × (ts' ≡ ts))
