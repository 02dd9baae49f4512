-- The round of a card, out of those of all cards and by its digits.
use Rattle.std.proofs.Common.{◌≡◌, List, [], ℕ, ◌+◌, ◌*◌, ◌≤◌, ◌<◌, length, get_or, take, drop, take-append-drop, ap, ◌∙◌, arith}
use Rattle.slices.specs.Put.{Put}
use Rattle.slices.proofs.Written.{as_text, then}
use Rattle.hands.specs.Deck.{deck, digits, card_workers, deck_size}
use Rattle.hands.specs.Hand.{round_of}
use Rattle.hands.proofs.Deck.{card_right}
use Rattle.hands.proofs.Lengths.{round_long}
use Rattle.tables.specs.Table.{rounds}
use Rattle.tables.proofs.Rows.{row_is}
use Rattle.seats.specs.Rounding.{Roomy, Rounded, Seatable, Closed}

-- a row is as long as a round
pub row_long : (W c : ℕ) → W ≤ card_workers → c < deck_size → length (get_or (rounds W) c []) ≡ 2 * W
row_long W c w k = ap length (row_is W c k) ∙ round_long W c w k

-- a text that is written in two parts
pub parts : {before mid after t u v : List ℕ} {at next end : ℕ} (k : ℕ) → Put before at t mid next → Put mid next u after end → t ≡ take k v → u ≡ drop k v
    → Put before at v after end
parts {v = v} k p q e f = as_text (rw (e, f) (take-append-drop k v)) (then p q)

module _ {W c at long : ℕ} (r : Roomy W c at long) where
  module _ {all : List (List ℕ)} (e : all ≡ rounds W) where
    row : get_or all c [] ≡ round_of W c
    row = ap (λ l. get_or l c []) e ∙ row_is W c r.known

    long_is : length (get_or all c []) ≡ 2 * W
    long_is = ap (λ l. length (get_or l c [])) e ∙ row_long W c r.few r.known

    -- so a schedule that has room for a round has room for the row
    pub row_room : at + length (get_or all c []) ≤ long
    row_room = omega (arith, long_is, r.room)

    pub row_put : {before after : List ℕ} {end : ℕ} → Put before at (get_or all c []) after end → Rounded W c at before after end
    row_put p = record { put = as_text row p; ends = omega (arith, p.ends, long_is) }

  module _ {cards : List ℕ} (e : cards ≡ deck) where
    pub seatable : Seatable W (digits (get_or cards c 0)) at long
    seatable = rw e (record { few = r.few; order_is = (card_right c r.known).order; room = r.room })

    pub closed : {before after : List ℕ} {end : ℕ} → Closed W (digits (get_or cards c 0)) at before after end → Rounded W c at before after end
    unfolding round_of
    closed q = record { put = rw e at q.put; ends = q.ends }
