-- One worker: each card is an entry in which it asks itself, so the schedule is zeros.
use mathlib.Core.Path.{◌≡◌, refl, ap}
use mathlib.Core.Bool.{true}
use mathlib.Core.List.{List, [], ◌∷◌}
use Prim.Native.Nat.{ℕ, suc, ◌*◌, ◌<◌}
use native.Mathlib.Omega.{arith}
use lib.Dec.{ltb}
use lib.ListN.{length, replicate}
use borrow.Author.Tests.{ltb-true}
use Rattle.laws.specs.Blocks.{laid}
use Rattle.graph.specs.Graph.{all_below}
use Rattle.graph.proofs.Formed.{both_true}
use Rattle.hands.specs.Deck.{deck_size, card, digits}
use Rattle.hands.specs.Hand.{dealt, asking, circle, round_of, turns_of, bytes_of}
use Rattle.hands.proofs.Circle.{order_long}
use Rattle.hands.proofs.Deck.{card_right}
use Rattle.hands.proofs.Stretches.{dealt_low}

only_zero : (l : List ℕ) → length l ≡ 1 → all_below 1 l ≡ true → l ≡ 0 ∷ []
unfolding all_below
only_zero [] n h = absurd (omega arith)
only_zero (x ∷ []) n h = let z : x ≡ 0 = omega (arith, ltb-true x 1 (both_true (ltb x 1) true h).0) in rw z
only_zero (x ∷ y ∷ l) n h = absurd (omega arith)

round_one : (c : ℕ) → c < deck_size → round_of 1 c ≡ 0 ∷ 0 ∷ []
unfolding round_of circle asking
round_one c h =
    let xs = digits (card c) in
    ap circle (only_zero (dealt 1 xs) (order_long 1 xs (card_right c h).order (omega arith)) (dealt_low 1 xs))

pub turns_one : (cards : List ℕ) → all_below deck_size cards ≡ true → turns_of 1 cards ≡ replicate (bytes_of 1 (length cards)) 0
unfolding turns_of laid all_below
turns_one [] h = refl
turns_one (c ∷ cards) h =
    let p = both_true (ltb c deck_size) (all_below deck_size cards) h in
    let two : suc (length cards) * (2 * 1) ≡ suc (suc (length cards * (2 * 1))) = omega arith in
    rw (round_one c (ltb-true c deck_size p.0), two) (ap (λ (t : List ℕ). 0 ∷ 0 ∷ t) (turns_one cards p.1))
