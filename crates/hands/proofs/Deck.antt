-- The deck is all orders of the six, each once, ascending.
use mathlib.Core.Path.{◌≡◌, refl, ap, sym, ◌∙◌}
use mathlib.Core.List.{List, [], ◌∷◌}
use mathlib.Core.Logic.{by_cases}
use Prim.Native.Nat.{ℕ, ◌+◌, ◌*◌, ◌/◌, ◌%◌, ◌<◌}
use native.Mathlib.Decide.{dec_lt}
use native.Mathlib.Omega.{arith}
use lib.ListN.{length, get_or}
use Rattle.laws.specs.Blocks.{laid}
use Rattle.laws.specs.Grouping.{under}
use Rattle.laws.specs.Sum.{sum, hit}
use Rattle.laws.proofs.Sum.{hit_same, hit_swap, sum_at}
use Rattle.laws.proofs.Grouping.{under_suc}
use Rattle.hands.specs.Deck.{card_workers, deck_size, taken, orders, read_on, card_number, deck, card, digits, Order, AllOrders}
use Rattle.hands.proofs.Orders.{in_map, place, Same, ordered}
use Rattle.hands.proofs.Ascending.{passes, entry, ascends, under_none, Right}

pub deck_long : length deck ≡ deck_size
unfolding taken orders read_on deck laid
deck_long = refl

-- a card of the deck
pub card_right : (i : ℕ) → i < deck_size → Right (card i)
card_right i h = (entry 0 deck passes i (omega (arith, deck_long))).1

card_ascends : (i j : ℕ) → i < j → j < deck_size → card i < card j
card_ascends i j h g = ascends 0 deck passes i j h (omega (arith, deck_long))

-- the number of six digits has these digits
abbrev Digit : ℕ → Type 0
Digit d = d < 10

digits_read : (a b c d e f : ℕ) → Digit a → Digit b → Digit c → Digit d → Digit e → Digit f
    → digits (card_number (a ∷ b ∷ c ∷ d ∷ e ∷ f ∷ [])) ≡ a ∷ b ∷ c ∷ d ∷ e ∷ f ∷ []
unfolding read_on
digits_read a b c d e f ha hb hc hd he hf =
    let n = 10 * (10 * (10 * (10 * (10 * (0 + a) + b) + c) + d) + e) + f in
    let ea : n / 100000 ≡ a = omega arith in
    let eb : n / 10000 % 10 ≡ b = omega arith in
    let ec : n / 1000 % 10 ≡ c = omega arith in
    let ed : n / 100 % 10 ≡ d = omega arith in
    let ee : n / 10 % 10 ≡ e = omega arith in
    let ef : n % 10 ≡ f = omega arith in
    cc

-- an element of an order is below six
low : (x : ℕ) (xs : List ℕ) → Order xs → 0 < sum (hit x) xs → x < card_workers
unfolding under
low x xs o h =
    by_cases (dec_lt x card_workers) (λ (p : x < card_workers). p)
    (λ (p : ¬ (x < card_workers)). absurd (omega (arith, o.each x, under_none x card_workers (omega arith))))

pub low_at : (xs : List ℕ) → Order xs → (k : ℕ) → k < card_workers → get_or xs k 0 < card_workers
low_at xs o k h =
    let x = get_or xs k 0 in
    low x xs o (omega (arith, sum_at (hit x) 0 xs k x refl (omega (arith, o.six)), hit_same x))

-- the digits of an order's number are the order
digits_of : (xs : List ℕ) → Order xs → digits (card_number xs) ≡ xs
unfolding sum
digits_of (a ∷ b ∷ c ∷ d ∷ e ∷ f ∷ []) o =
    let xs = a ∷ b ∷ c ∷ d ∷ e ∷ f ∷ [] in
    let l : (x : ℕ) → 0 < sum (hit x) xs → Digit x = λ x h. omega (arith, low x xs o h) in
    digits_read a b c d e f (l a (omega (arith, hit_same a))) (l b (omega (arith, hit_same b))) (l c (omega (arith, hit_same c)))
    (l d (omega (arith, hit_same d))) (l e (omega (arith, hit_same e))) (l f (omega (arith, hit_same f)))
digits_of [] o = absurd (omega (arith, o.six))
digits_of (a ∷ []) o = absurd (omega (arith, o.six))
digits_of (a ∷ b ∷ []) o = absurd (omega (arith, o.six))
digits_of (a ∷ b ∷ c ∷ []) o = absurd (omega (arith, o.six))
digits_of (a ∷ b ∷ c ∷ d ∷ []) o = absurd (omega (arith, o.six))
digits_of (a ∷ b ∷ c ∷ d ∷ e ∷ []) o = absurd (omega (arith, o.six))
digits_of (a ∷ b ∷ c ∷ d ∷ e ∷ f ∷ g ∷ l) o = absurd (omega (arith, o.six))

-- the six in ascending order
abbrev six : List ℕ
six = 0 ∷ 1 ∷ 2 ∷ 3 ∷ 4 ∷ 5 ∷ []

six_same : (xs : List ℕ) → Order xs → Same xs six
unfolding sum under
six_same xs o b =
    omega (
      arith,
      o.each b,
      under_suc b 0,
      under_suc b 1,
      under_suc b 2,
      under_suc b 3,
      under_suc b 4,
      under_suc b 5,
      hit_swap b 0,
      hit_swap b 1,
      hit_swap b 2,
      hit_swap b 3,
      hit_swap b 4,
      hit_swap b 5,
    )

whole : (xs : List ℕ) → Order xs → (i : ℕ) × (i < deck_size) × (digits (card i) ≡ xs)
unfolding deck
whole xs o =
    let p = place 0 deck (in_map card_number (orders card_workers six) (ordered card_workers six xs o.six (six_same xs o))) in
    (p.0, omega (arith, p.1, deck_long), ap digits p.2 ∙ digits_of xs o)

-- two cards with the same digits are one
once : (i j : ℕ) → i < deck_size → j < deck_size → digits (card i) ≡ digits (card j) → i ≡ j
once i j h g e =
    let same : card i ≡ card j = sym (card_right i h).reads ∙ ap card_number e ∙ (card_right j g).reads in
    by_cases (dec_lt i j) (λ (p : i < j). absurd (omega (arith, card_ascends i j p g)))
    (λ (p : ¬ (i < j)).
    by_cases (dec_lt j i) (λ (q : j < i). absurd (omega (arith, card_ascends j i q h)))
    (λ (q : ¬ (j < i)). omega arith))

pub all_orders : AllOrders
unfolding taken orders read_on deck laid
all_orders =
    record {
      number = deck_long;
      first = refl;
      last = refl;
      ascending = card_ascends;
      order = λ i h. (card_right i h).order;
      whole = whole;
      once = once;
    }
