-- SPECIFICATION 10: the schedule of so many draws, its checks (8, 16, 15, 7), and the seed that is left.
use Rattle.std.specs.Prelude.{◌≡◌, Result, Ok, Err, ℕ, zero, suc, ◌<◌, List, [], ◌∷◌, length, ◌==◌, slice_index}
use Rattle.refusal.specs.declared.Refusal.{Refusal}
use Rattle.refusal.specs.Number.{number_of}
use Rattle.refusal.specs.Order.{raise, first}
use Rattle.desk.specs.Checks.{workers_fault}
use Rattle.desk.specs.Kept.{unless_refused}
use Rattle.hands.specs.Hand.{turns_of, width_fault, schedule_fault, Rounds}
use Rattle.seed.specs.declared.Seed.{Seed}
use Rattle.seed.specs.Draw.{next, card_of, drawn}

-- the seed after k draws
unfoldable pub after_draws : ℕ → Seed → Seed
after_draws zero s = s
after_draws (suc k) s = after_draws k (next s)

-- the cards of k draws
unfoldable pub hand_of : ℕ → Seed → List ℕ
hand_of zero s = []
hand_of (suc k) s = card_of (next s) ∷ hand_of k (next s)

-- 16: the first word is 0
abbrev pub seed_fault : ℕ → ℕ
seed_fault n = raise (n == 0) 16 0

-- the number of the first fault of a call for k rounds of W workers and a schedule of so many bytes, or 0
unfoldable pub fault : Seed → ℕ → ℕ → ℕ → ℕ
fault s k W long =
    first (workers_fault W)
    (first (seed_fault s.first)
    (first (width_fault W) (schedule_fault W k long)))

-- ---- the answer

-- the seed that the caller has afterwards
abbrev pub seed_left : Seed → Result Seed Refusal → Seed
seed_left s (Ok t) = t
seed_left s (Err r) = s

-- the promise of the call, for all inputs
pub record Deals (s : Seed) (k W : ℕ) (before : List ℕ) (r : Result Seed Refusal) (after : List ℕ) : Type 0 where
  pub number_is : number_of r ≡ fault s k W (length before)
  -- the schedule of the cards drawn, and the seed as those draws leave it; both unchanged beside a refusal
  pub schedule_is : after ≡ unless_refused (fault s k W (length before)) (turns_of W (hand_of k s)) before
  pub seed_is : seed_left s r ≡ unless_refused (fault s k W (length before)) (after_draws k s) s
  -- the cards are those that k draws answer, one after the other
  pub draws : fault s k W (length before) ≡ 0 → (i : ℕ) → i < k → drawn (after_draws i s) ≡ Ok (slice_index (hand_of k s) i)
  -- each draw is a stretch, so enough rounds finish, whatever the seed
  pub brings : fault s k W (length before) ≡ 0 → Rounds W k after
