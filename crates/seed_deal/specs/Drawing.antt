-- What a loop over the draws asks and leaves.
use Rattle.std.specs.Prelude.{◌≡◌, List, ℕ, ◌≤◌}
use Rattle.hands.specs.Deck.{card_workers}
use Rattle.hands.specs.Hand.{turns_of, bytes_of}
use Rattle.seed.specs.declared.Seed.{Seed}
use Rattle.seed.specs.Deal.{after_draws, hand_of}

-- a schedule of exactly their length
pub record Drawing (k W long : ℕ) : Type 0 where
  pub some : 1 ≤ W
  pub few : W ≤ card_workers
  pub exact : long ≡ bytes_of W k

-- the seed after the draws, and their schedule
pub record Drew (s : Seed) (k W : ℕ) (left : Seed) (schedule : List ℕ) : Type 0 where
  pub seed_is : left ≡ after_draws k s
  pub schedule_is : schedule ≡ turns_of W (hand_of k s)
