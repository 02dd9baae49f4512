-- What a method on a page asks, and what it leaves.
use Rattle.std.specs.Prelude.{◌≡◌, List, ℕ, ◌+◌, ◌≤◌, length}
use Rattle.slices.specs.Put.{PutIn}
use Rattle.text.specs.declared.Page.{Page}

-- room for so many bytes behind those that are written
abbrev pub Room : ℕ → Page → Type 0
Room k page = page.at + k ≤ length page.out.now

-- a text of at most so many bytes written behind them, in the same buffer
pub record Wrote (most : ℕ) (text : List ℕ) (before after : Page) : Type 0 where
  pub same_buffer : after.out.ghost_name ≡ before.out.ghost_name
  pub put : PutIn most before.out.now before.at text after.out.now after.at
