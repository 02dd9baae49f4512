-- What a buffer holds once a list of words is written to it at a place.
use Rattle.std.specs.Prelude.{◌≡◌, List, ◌++◌, ℕ, ◌+◌, ◌≤◌, length, take, drop}

-- `text` written behind the first `at` bytes of a buffer that was `before` and is `after`, and `end` bytes then: the
-- bytes in front of the text and those behind it are as they were
pub record Put (before : List ℕ) (at : ℕ) (text after : List ℕ) (end : ℕ) : Type 0 where
  pub ends : end ≡ at + length text
  pub fits : end ≤ length before
  pub holds : after ≡ take at before ++ (text ++ drop end before)

-- the same, with a text of at most so many bytes
pub record PutIn (most : ℕ) (before : List ℕ) (at : ℕ) (text after : List ℕ) (end : ℕ) : Type 0 where
  pub put : Put before at text after end
  pub low : end ≤ at + most
