-- Draws one after another: the hand and the seed grow at the end, every card is in the deck, and no draw is refused.
use Rattle.std.proofs.Common.{◌≡◌, Ok, ℕ, zero, suc, ◌+◌, ◌^◌, ◌<◌, true, ◌≢◌, List, [], ◌∷◌, ◌++◌, length, get_or, refl, ap, mod-lt, arith, lt-ltb}
use Rattle.graph.specs.Graph.{all_below}
use Rattle.hands.specs.Deck.{deck_size}
use Rattle.seed.specs.declared.Seed.{Seed}
use Rattle.seed.specs.Draw.{next, card_of, wrap, drawn}
use Rattle.seed.specs.Deal.{after_draws, hand_of}
use Rattle.seed.proofs.Words.{next_moves, drawn_card, xorshift_low, xorshift_zero}

-- ---- one draw more

pub after_snoc : (k : ℕ) (s : Seed) → after_draws (suc k) s ≡ next (after_draws k s)
unfolding after_draws
after_snoc zero s = refl
after_snoc (suc k) s = after_snoc k (next s)

pub hand_snoc : (k : ℕ) (s : Seed) → hand_of (suc k) s ≡ hand_of k s ++ (card_of (next (after_draws k s)) ∷ [])
unfolding after_draws hand_of
hand_snoc zero s = refl
hand_snoc (suc k) s = ap (λ (l : List ℕ). card_of (next s) ∷ l) (hand_snoc k (next s))

pub hand_long : (k : ℕ) (s : Seed) → length (hand_of k s) ≡ k
unfolding hand_of
hand_long zero s = refl
hand_long (suc k) s = ap suc (hand_long k (next s))

pub card_known : (s : Seed) → card_of s < deck_size
card_known s = mod-lt (wrap (s.first + s.second)) (omega arith)

pub hand_known : (k : ℕ) (s : Seed) → all_below deck_size (hand_of k s) ≡ true
unfolding hand_of all_below
hand_known zero s = refl
hand_known (suc k) s = rw (lt-ltb (card_of (next s)) deck_size (card_known (next s))) (hand_known k (next s))

-- ---- no draw is refused

-- a first word other than 0, and of 32 bits
pub record Drawable (s : Seed) : Type 0 where
  pub some : s.first ≢ 0
  pub low : s.first < 2 ^ 32

drawable_next : (s : Seed) → Drawable s → Drawable (next s)
drawable_next s d =
    rw (next_moves s.first s d.some)
    (record { some = λ e. d.some (xorshift_zero s.first d.low e); low = xorshift_low s.first d.low })

pub draws_answer : (k : ℕ) (s : Seed) → Drawable s → (i : ℕ) → i < k → drawn (after_draws i s) ≡ Ok (get_or (hand_of k s) i 0)
unfolding after_draws hand_of
draws_answer zero s d i h = absurd (omega arith)
draws_answer (suc k) s d zero h = drawn_card s.first (next s) d.some
draws_answer (suc k) s d (suc i) h = draws_answer k (next s) (drawable_next s d) i (omega arith)
