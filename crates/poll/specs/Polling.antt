-- What the functions of a poll are told of worker b, and the blocks that they write.
use Rattle.std.specs.Prelude.{ℕ, ◌+◌, ◌-◌, ◌≡◌, Bool, List}
use Rattle.graph.specs.Graph.{Graph}
use Rattle.machine.specs.Run.{Run, carried}
use Rattle.machine.specs.Machine.{State, busy, Cell, from, poll, worker, shares}
use Rattle.worker.specs.Registers.{status_look, status_given}
use Rattle.worker.specs.declared.registers.Block.{Block}
use Rattle.worker.specs.declared.stretch.Top.{Top}
use Rattle.step.specs.declared.Setup.{Setup}

-- it polls
pub record IsPolling (b : ℕ) (G : Graph) (s : State) : Type 0 where
  pub cell : Cell
  pub since : ℕ
  pub runs : List Run
  pub is : worker s b ≡ busy cell since poll runs

-- it polls with an asker in its cell, to whom the answer is this
pub record IsAsked (g : Setup) (t : Bool) (b : ℕ) (G : Graph) (s : State) : Type 0 where
  pub asker : ℕ
  pub since : ℕ
  pub runs : List Run
  pub is : worker s b ≡ busy (from asker) since poll runs
  pub answers : shares g.cutoff since (carried runs) ≡ t

-- ---- the blocks

-- the cell empties, and a batch begins
abbrev pub batched_block : Block → ℕ → Block
batched_block r k =
    record {
      status = status_look;
      cell = 0;
      since = r.since + k;
      batch = k;
      carried = r.carried - k;
      used = r.used;
      first = r.first;
      end = r.end;
      target = r.target;
    }

-- the worker that shares, with batch k: it keeps so many references
abbrev pub shared_block : Block → ℕ → ℕ → Top → Block
shared_block r k carried t =
    record {
      status = status_look;
      cell = 0;
      since = k;
      batch = k;
      carried = carried - k;
      used = t.used;
      first = t.first;
      end = t.end;
      target = r.target;
    }

-- the asker, who is owed so many
abbrev pub given_block : Top → ℕ → Block
given_block t carried =
    record {
      status = status_given;
      cell = 0;
      since = 0;
      batch = 0;
      carried = carried;
      used = t.used;
      first = t.first;
      end = t.end;
      target = 0;
    }
