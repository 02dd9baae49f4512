-- The ways in which a worker's words go on after following: each writes some words of its block.
use mathlib.Core.Path.{◌≡◌, sym, subst}
use mathlib.Core.Bool.{true, false}
use mathlib.Core.List.{List, ◌∷◌}
use Prim.Native.Nat.{ℕ, ◌+◌, ◌-◌, ◌≤◌, ◌<◌}
use native.Mathlib.Omega.{arith}
use borrow.Author.Tests.{lt-ltb, le-ltb}
use lib.ListN.{get_or, set}
use lib.Dec.{ltb}
use Rattle.laws.specs.Every.{Every}
use Rattle.worker.specs.declared.registers.Block.{Block}
use Rattle.worker.specs.Registers.{Word, word, puts_at, step_words, Stored}
use Rattle.worker.proofs.Blocks.{replaced_all, puts_stored}
use Rattle.follow.specs.Claiming.{next_word, Advanceable, Advanced}

true_false : true ≡ false → ⊥
true_false e = let z : ◌≡◌ {A = ℕ} 0 1 = cc in omega arith

module _ {targets s regs : List ℕ} {b : ℕ} {r : Block} {f g : ℕ} (a : Advanceable targets s regs b r f g) where
  stored : (ws : List Word) → Every (λ (w : Word). w.place < 9) ws → {regs' : List ℕ} → regs' ≡ puts_at regs b ws
      → Stored regs b (replaced_all ws r) regs'
  stored ws low e =
      rw e (subst (λ (q : Block). Stored regs b (replaced_all ws q) (puts_at regs b ws)) (sym a.is) (puts_stored regs b a.room.long ws low))

  -- the next reference is at first
  abbrev pub step_to : ℕ → List Word
  step_to first = step_words (next_word (r.batch - 1)) (r.batch - 1) first (get_or targets first 0)

  -- the words of each way
  abbrev pub pushed : List Word
  pushed = word 5 (r.used + 2) ∷ word 4 (r.carried + (g - f)) ∷ step_to (r.first + 1)

  abbrev pub opened : List Word
  opened = word 4 (r.carried + (g - f)) ∷ word 7 g ∷ step_to f

  abbrev pub popped : List Word
  popped = word 5 (r.used - 2) ∷ word 7 (get_or s (r.used - 2 + 1) 0) ∷ step_to (get_or s (r.used - 2) 0)

  -- something is left of the run, and a run opens
  pub advance_push : r.first + 1 < r.end → f < g → {regs' : List ℕ} → regs' ≡ puts_at regs b pushed
      → Advanced targets s regs b r f g (set (set s r.used f) (r.used + 1) g) regs' true
  advance_push h k e =
      let left = lt-ltb (r.first + 1) r.end h in
      let opens = lt-ltb f g k in
      record {
        says = rw left;
        words = rw (left, opens);
        onward = λ q. rw (left, opens) (stored pushed (omega arith, (omega arith, (omega arith, (omega arith, (omega arith, (omega arith, tt)))))) e);
        nothing = λ q. absurd (true_false q);
      }

  -- something is left of it, and none opens
  pub advance_on : r.first + 1 < r.end → g ≤ f → {regs' : List ℕ} → regs' ≡ puts_at regs b (step_to (r.first + 1))
      → Advanced targets s regs b r f g s regs' true
  advance_on h k e =
      let left = lt-ltb (r.first + 1) r.end h in
      let none = le-ltb f g k in
      record {
        says = rw left;
        words = rw (left, none);
        onward = λ q. rw (left, none) (stored (step_to (r.first + 1)) (omega arith, (omega arith, (omega arith, (omega arith, tt)))) e);
        nothing = λ q. absurd (true_false q);
      }

  module _ (h : r.end ≤ r.first + 1) where
    over : ltb (r.first + 1) r.end ≡ false
    over = le-ltb (r.first + 1) r.end h

    -- nothing is left of it: the run that opens comes up,
    pub advance_open : f < g → {regs' : List ℕ} → regs' ≡ puts_at regs b opened → Advanced targets s regs b r f g s regs' true
    advance_open k e =
        let opens = lt-ltb f g k in
        record {
          says = rw (over, opens);
          words = rw over;
          onward = λ q. rw (over, opens) (stored opened (omega arith, (omega arith, (omega arith, (omega arith, (omega arith, (omega arith, tt)))))) e);
          nothing = λ q. absurd (true_false q);
        }

    -- or the next one,
    pub advance_pop : g ≤ f → 2 ≤ r.used → {regs' : List ℕ} → regs' ≡ puts_at regs b popped → Advanced targets s regs b r f g s regs' true
    advance_pop k l e =
        let none = le-ltb f g k in
        let more = le-ltb r.used 2 l in
        record {
          says = rw (over, none, more);
          words = rw over;
          onward = λ q. rw (over, none, more) (stored popped (omega arith, (omega arith, (omega arith, (omega arith, (omega arith, (omega arith, tt)))))) e);
          nothing = λ q. absurd (true_false q);
        }
