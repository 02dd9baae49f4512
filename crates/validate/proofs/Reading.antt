-- One worker's words and the worker that they tell of, both ways.
use mathlib.Core.Path.{◌≡◌, refl, sym, ◌∙◌}
use mathlib.Core.List.{List, [], ◌∷◌}
use mathlib.Core.Logic.{by_cases}
use Prim.Native.Nat.{ℕ, zero, suc, ◌+◌, ◌-◌, ◌≤◌, ◌<◌}
use native.Mathlib.Nat.{add-zero, zero-add}
use native.Mathlib.Decide.{dec_lt}
use native.Mathlib.Omega.{arith}
use lib.Dec.{ltb}
use lib.ListN.{length, get_or}
use borrow.Author.Tests.{lt-ltb, le-ltb}
use Rattle.laws.specs.Choice.{pick}
use Rattle.laws.specs.Sum.{sum, hit}
use Rattle.laws.proofs.Sum.{hit_same, hit_swap}
use Rattle.machine.specs.Run.{Run, carried}
use Rattle.machine.specs.Machine.{Worker, idle, asking, denied, ended, given, busy, Phase, poll, look, claim, runs_of, carried_by, stopped}
use Rattle.machine.specs.Sound.{batch_of, batch_in, Supplied, holds, cell_holds, waits, since_of}
use Rattle.theorems.proofs.Runs.{length_carried}
use Rattle.worker.specs.Registers.{status_given, status_poll, status_claim}
use Rattle.worker.specs.Status.{cell_word, phase_word}
use Rattle.saved.specs.Layout.{worker_words, worker_from, rested_from, cell_from}
use Rattle.protocol.specs.Heads.{Head}

cell_word_lem : (ce : ℕ) → cell_word (cell_from ce) ≡ ce
cell_word_lem zero = refl
cell_word_lem (suc a) = refl

cell_holds_lem : (a ce : ℕ) → cell_holds a (cell_from ce) ≡ hit (suc a) ce
unfolding hit
cell_holds_lem a zero = refl
cell_holds_lem a (suc b) = hit_swap b a

-- what the worker of sound words has
pub record Reads (st ce si ba : ℕ) (rs : List Run) (w : Worker) : Type 0 where
  pub words : worker_words w (rested_from st si) ≡ st ∷ ce ∷ si ∷ ba ∷ []
  pub runs : runs_of w ≡ pick (ltb st 4) [] rs
  pub holding : (a : ℕ) → holds a w ≡ hit (suc a) ce
  pub waiting : waits w ≡ hit 1 st
  pub stopping : stopped w ≡ hit 3 st
  pub since : since_of w + rested_from st si ≡ si
  pub batch : batch_in w ≡ ba
  pub supplied : (4 ≤ st → 0 < length rs) → Supplied w
  pub has_runs : Supplied w → 4 ≤ st → 0 < length rs
  pub rested : 0 < carried (pick (ltb st 4) [] rs) → rested_from st si ≡ 0

-- a worker that is not busy, with what its words are
quiet : {W D ce si ba : ℕ} {rs : List Run} (st : ℕ) (w : Worker) → Head W D st ce si ba → st ≤ 4 → worker_words w si ≡ st ∷ 0 ∷ si ∷ 0 ∷ []
    → runs_of w ≡ pick (ltb st 4) [] rs → ((a : ℕ) → holds a w ≡ 0) → waits w ≡ hit 1 st → stopped w ≡ hit 3 st → since_of w ≡ 0 → batch_in w ≡ 0
    → ((4 ≤ st → 0 < length rs) → Supplied w) → (Supplied w → 4 ≤ st → 0 < length rs) → Reads st ce si ba rs w
unfolding hit carried sum
quiet {si = si} {rs = rs} st w h low words runs holding waiting stopping since batch supplied has_runs =
    let none = h.cell_none (omega arith) in
    let none' = h.batch_none (omega arith) in
    let own : rested_from st si ≡ si = rw (lt-ltb st 5 (omega arith)) in
    record {
      words = rw (own, none, none') words;
      runs = runs;
      holding = λ a. rw none (holding a);
      waiting = waiting;
      stopping = stopping;
      since = rw (own, since) (zero-add si);
      batch = batch ∙ sym none';
      supplied = supplied;
      has_runs = has_runs;
      rested = λ q. own ∙ h.since_none (given q);
    }
  where
    given : 0 < carried (pick (ltb st 4) [] rs) → st ≡ 4
    given q =
        by_cases (dec_lt st 4)
        (λ (p : st < 4). absurd (omega (arith, rw (lt-ltb st 4 p) at q)))
        (λ (p : ¬ (st < 4)). omega arith)

-- one that is busy, in a phase with this batch
busied : {W D ce si ba : ℕ} {rs : List Run} (st : ℕ) (p : Phase) → Head W D st ce si ba → 4 < st → phase_word p ≡ st → hit 1 st ≡ 0 → hit 3 st ≡ 0
    → batch_of p ≡ ba → Reads st ce si ba rs (busy (cell_from ce) si p rs)
busied {ce = ce} {si} {ba} {rs} st p h high word asks stops batch =
    let none : rested_from st si ≡ 0 = rw (le-ltb st 5 high) in
    record {
      words = rw (cell_word_lem ce, word, batch);
      runs = rw (le-ltb st 4 (omega arith));
      holding = λ a. cell_holds_lem a ce;
      waiting = sym asks;
      stopping = sym stops;
      since = rw none (add-zero si);
      batch = batch;
      supplied = λ q. q (omega arith);
      has_runs = λ t q. t;
      rested = λ q. none;
    }

module _ {W D ce si ba : ℕ} {rs : List Run} where
  pub reads : (st : ℕ) → Head W D st ce si ba → Reads st ce si ba rs (worker_from st ce si ba rs)
  unfolding hit
  reads zero h = quiet 0 idle h (omega arith) refl refl (λ a. refl) refl refl refl refl (λ q. tt) (λ t q. absurd (omega arith))
  reads (suc zero) h = quiet 1 asking h (omega arith) refl refl (λ a. refl) refl refl refl refl (λ q. tt) (λ t q. absurd (omega arith))
  reads (suc (suc zero)) h =
      quiet 2 denied h (omega arith) refl refl (λ a. refl) refl refl refl refl (λ q. tt) (λ t q. absurd (omega arith))
  reads (suc (suc (suc zero))) h =
      quiet 3 ended h (omega arith) refl refl (λ a. refl) refl refl refl refl (λ q. tt) (λ t q. absurd (omega arith))
  reads (suc (suc (suc (suc zero)))) h =
      quiet 4 (given rs) h (omega arith) refl refl (λ a. refl) refl refl refl refl (λ q. q (omega arith)) (λ t q. t)
  reads (suc (suc (suc (suc (suc zero))))) h = busied 5 poll h (omega arith) refl refl refl (sym (h.batch_none (omega arith)))
  reads (suc (suc (suc (suc (suc (suc zero)))))) h =
      busied 6 (look (ba - 1)) h (omega arith) refl refl refl (omega (arith, h.batch_some (omega arith)))
  reads (suc (suc (suc (suc (suc (suc (suc zero))))))) h =
      busied 7 (claim (ba - 1)) h (omega arith) refl refl refl (omega (arith, h.batch_some (omega arith)))
  reads (suc (suc (suc (suc (suc (suc (suc (suc k)))))))) h = absurd (omega (arith, h.known))

-- ---- back: words that are those of the worker that they tell of

-- word k of a worker
abbrev pub word_of : Worker → ℕ → ℕ → ℕ
word_of w since k = get_or (worker_words w since) k 0

module _ {W D status cell since batch : ℕ} where
  -- a worker that looks or claims
  head_some : status ≤ status_claim → cell ≤ W → batch ≤ D → status_poll < status → 0 < batch → Head W D status cell since batch
  head_some k c d h p =
      record {
        known = k;
        cell_known = c;
        batch_limit = d;
        batch_some = λ q. p;
        batch_none = λ q. absurd (omega arith);
        cell_none = λ q. absurd (omega arith);
        since_none = λ q. absurd (omega arith);
      }

  -- one that polls, or carries nothing
  head_resting : status ≤ status_poll → batch ≡ 0 → cell ≤ W → (status < status_poll → cell ≡ 0)
      → (status ≡ status_given → since ≡ 0) → Head W D status cell since batch
  head_resting k b c n s =
      record {
        known = omega arith;
        cell_known = c;
        batch_limit = omega arith;
        batch_some = λ q. absurd (omega arith);
        batch_none = λ q. b;
        cell_none = n;
        since_none = s;
      }

module _ (ce si ba : ℕ) (rs : List Run) where
  pub head_back : {W D : ℕ} (st : ℕ)
      → st ≡ word_of (worker_from st ce si ba rs) (rested_from st si) 0
      → ce ≡ word_of (worker_from st ce si ba rs) (rested_from st si) 1
      → ba ≡ word_of (worker_from st ce si ba rs) (rested_from st si) 3
      → ce ≤ W → batch_in (worker_from st ce si ba rs) ≤ D → Supplied (worker_from st ce si ba rs)
      → (0 < carried_by (worker_from st ce si ba rs) → rested_from st si ≡ 0) → Head W D st ce si ba
  head_back zero a b d c l s r = head_resting (omega arith) d c (λ q. b) (λ q. absurd (omega arith))
  head_back (suc zero) a b d c l s r = head_resting (omega arith) d c (λ q. b) (λ q. absurd (omega arith))
  head_back (suc (suc zero)) a b d c l s r = head_resting (omega arith) d c (λ q. b) (λ q. absurd (omega arith))
  head_back (suc (suc (suc zero))) a b d c l s r = head_resting (omega arith) d c (λ q. b) (λ q. absurd (omega arith))
  head_back (suc (suc (suc (suc zero)))) a b d c l s r =
      head_resting (omega arith) d c (λ q. b) (λ q. r (omega (arith, s, length_carried rs)))
  head_back (suc (suc (suc (suc (suc zero))))) a b d c l s r =
      head_resting (omega arith) d c (λ q. absurd (omega arith)) (λ q. absurd (omega arith))
  head_back (suc (suc (suc (suc (suc (suc zero)))))) a b d c l s r =
      head_some (omega arith) c (omega arith) (omega arith) (omega arith)
  head_back (suc (suc (suc (suc (suc (suc (suc zero))))))) a b d c l s r =
      head_some (omega arith) c (omega arith) (omega arith) (omega arith)
  head_back (suc (suc (suc (suc (suc (suc (suc (suc k)))))))) a b d c l s r = absurd (omega (arith, a))

  -- a cell that is not empty holds an asker, where the worker is busy
  pub cell_back : (st : ℕ) (x : ℕ) → ce ≡ suc x → ce ≡ word_of (worker_from st ce si ba rs) (rested_from st si) 1
      → 0 < holds x (worker_from st ce si ba rs)
  cell_back zero x e b = absurd (omega (arith, e, b))
  cell_back (suc zero) x e b = absurd (omega (arith, e, b))
  cell_back (suc (suc zero)) x e b = absurd (omega (arith, e, b))
  cell_back (suc (suc (suc zero))) x e b = absurd (omega (arith, e, b))
  cell_back (suc (suc (suc (suc zero)))) x e b = absurd (omega (arith, e, b))
  cell_back (suc (suc (suc (suc (suc zero))))) x e b = rw (e, hit_same x) (omega arith)
  cell_back (suc (suc (suc (suc (suc (suc zero)))))) x e b = rw (e, hit_same x) (omega arith)
  cell_back (suc (suc (suc (suc (suc (suc (suc zero))))))) x e b = rw (e, hit_same x) (omega arith)
  cell_back (suc (suc (suc (suc (suc (suc (suc (suc k)))))))) x e b = absurd (omega (arith, e, b))
