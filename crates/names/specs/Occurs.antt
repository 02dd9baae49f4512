-- SPECIFICATION 14.2: an occurrence, without the list: name k stands at place p of a text and names v.
use Rattle.std.specs.Prelude.{◌≡◌, List, [], ◌↔◌, ℕ, ◌+◌, ◌≤◌, ◌<◌, length, get_or}
use Rattle.laws.specs.Sum.{sum, hit}
use Rattle.names.specs.Names.{Names, count, window, name_at}
use Rattle.names.specs.Mentions.{mentions}
use Rattle.names.specs.Call.{Texts, each}

pub record Occurs (N : Names) (text : List ℕ) (v : ℕ) : Type 0 where
  pub place : ℕ
  pub number : ℕ
  pub there : number < count N
  pub inside : place + N.width ≤ length text
  pub spells : window N.width text place ≡ name_at N number
  pub names : get_or N.objects number 0 ≡ v

-- the mentions of a text are exactly its occurrences
abbrev pub Exact : Names → List ℕ → Type 0
Exact N text = (v : ℕ) → (0 < sum (hit v) (mentions N text)) ↔ Occurs N text v

-- object u mentions object v: the name of v occurs in a text that u owns
pub record Mentioned (N : Names) (T : Texts) (u v : ℕ) : Type 0 where
  pub text : ℕ
  pub there : text < length T.ends
  pub owner : get_or T.owners text 0 ≡ u
  pub occurs : Occurs N (get_or (each T) text []) v
