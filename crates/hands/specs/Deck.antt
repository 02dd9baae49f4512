-- SPECIFICATION 9: the deck. A card is an order of six workers, as a number whose six decimal digits are the workers; the deck
-- is all 720 orders, ascending.
use Rattle.std.specs.Prelude.{◌≡◌, List, [], ◌∷◌, map, ℕ, zero, suc, ◌+◌, ◌*◌, ◌/◌, ◌%◌, ◌<◌, length, get_or}
use Rattle.laws.specs.Blocks.{laid}
use Rattle.laws.specs.Grouping.{under}
use Rattle.laws.specs.Sum.{sum, hit}

-- how many workers a card orders, and how many cards there are
abbrev pub card_workers : ℕ
card_workers = 6

abbrev pub deck_size : ℕ
deck_size = 720

-- each element of a list, with the others
unfoldable pub taken : List ℕ → List (ℕ × List ℕ)
taken [] = []
taken (x ∷ xs) = (x, xs) ∷ map (λ (p : ℕ × List ℕ). (p.0, x ∷ p.1)) (taken xs)

-- the orders of k elements: each of them in turn comes first, and behind it the others in each of their orders
unfoldable pub orders : ℕ → List ℕ → List (List ℕ)
unfolding taken laid
orders zero xs = [] ∷ []
orders (suc k) xs = laid (λ (p : ℕ × List ℕ). map (λ (l : List ℕ). p.0 ∷ l) (orders k p.1)) (taken xs)

-- decimal digits read behind the number n
unfoldable pub read_on : ℕ → List ℕ → ℕ
read_on n [] = n
read_on n (d ∷ l) = read_on (10 * n + d) l

-- an order as a number
abbrev pub card_number : List ℕ → ℕ
card_number l = read_on 0 l

-- the cards
unfoldable pub deck : List ℕ
unfolding orders read_on
deck = map card_number (orders card_workers (0 ∷ 1 ∷ 2 ∷ 3 ∷ 4 ∷ 5 ∷ []))

-- card i
abbrev pub card : ℕ → ℕ
card i = get_or deck i 0

-- the six digits of a card, the first worker first
abbrev pub digits : ℕ → List ℕ
digits n = (n / 100000) ∷ (n / 10000 % 10) ∷ (n / 1000 % 10) ∷ (n / 100 % 10) ∷ (n / 10 % 10) ∷ (n % 10) ∷ []

-- ---- what the deck is

-- six numbers: each one below six stands there once, and no other
pub record Order (xs : List ℕ) : Type 0 where
  pub six : length xs ≡ card_workers
  pub each : (b : ℕ) → sum (hit b) xs ≡ under b card_workers

-- every order of the six is a card, just one, and the cards ascend
pub record AllOrders : Type 0 where
  pub number : length deck ≡ deck_size
  pub first : card 0 ≡ 12345
  pub last : card 719 ≡ 543210
  pub ascending : (i j : ℕ) → i < j → j < deck_size → card i < card j
  pub order : (i : ℕ) → i < deck_size → Order (digits (card i))
  pub whole : (xs : List ℕ) → Order xs → (i : ℕ) × (i < deck_size) × (digits (card i) ≡ xs)
  pub once : (i j : ℕ) → i < deck_size → j < deck_size → digits (card i) ≡ digits (card j) → i ≡ j
