-- One test that antt computes over the whole table, and the rule that it gives at each entry: the digits are an order of the
-- six, and the cards ascend.
use mathlib.Core.Path.{◌≡◌, refl}
use mathlib.Core.Bool.{Bool, true}
use mathlib.Core.List.{List, [], ◌∷◌}
use mathlib.Core.Logic.{by_cases}
use Prim.Native.Nat.{ℕ, zero, suc, ◌≤◌, ◌<◌}
use native.Mathlib.Decide.{dec_lt}
use native.Mathlib.Omega.{arith}
use lib.ListN.{length, get_or}
use lib.Dec.{ltb, eqb}
use borrow.Author.Tests.{ltb-true, eqb-true}
use Rattle.laws.specs.Blocks.{laid}
use Rattle.laws.specs.Choice.{both}
use Rattle.laws.specs.Grouping.{under}
use Rattle.laws.specs.Sum.{sum, hit}
use Rattle.laws.proofs.Sum.{hit_other}
use Rattle.laws.proofs.Grouping.{under_one}
use Rattle.graph.specs.Graph.{all_below}
use Rattle.graph.proofs.Formed.{both_true}
use Rattle.hands.specs.Deck.{card_workers, taken, orders, read_on, card_number, deck, digits, Order}

-- ---- the test

-- each number below k stands once in the list
abbrev once_below : ℕ → List ℕ → Bool
once_below zero xs = true
once_below (suc b) xs = both (eqb (sum (hit b) xs) 1) (once_below b xs)

-- the digits are an order, and read as the number
abbrev orders? : ℕ → Bool
orders? n =
    both (eqb (card_number (digits n)) n) (both (all_below card_workers (digits n)) (once_below card_workers (digits n)))

-- each entry is above the one before it, and an order
abbrev pub orders_above : ℕ → List ℕ → Bool
orders_above k [] = true
orders_above k (n ∷ l) = both (ltb k n) (both (orders? n) (orders_above n l))

-- the deck passes
pub passes : orders_above 0 deck ≡ true
unfolding taken orders read_on deck laid sum hit all_below
passes = refl

-- ---- what it says of an entry

pub record Right (n : ℕ) : Type 0 where
  pub reads : card_number (digits n) ≡ n
  pub order : Order (digits n)

once_at : (k : ℕ) (xs : List ℕ) → once_below k xs ≡ true → (b : ℕ) → b < k → sum (hit b) xs ≡ 1
once_at zero xs e b h = absurd (omega arith)
once_at (suc k) xs e b h =
    let p = both_true (eqb (sum (hit k) xs) 1) (once_below k xs) e in
    by_cases (dec_lt b k)
    (λ (q : b < k). once_at k xs p.1 b q)
    (λ (q : ¬ (b < k)). let same : b ≡ k = omega arith in rw same (eqb-true (sum (hit k) xs) 1 p.0))

none_above : (n : ℕ) (xs : List ℕ) → all_below n xs ≡ true → (b : ℕ) → n ≤ b → sum (hit b) xs ≡ 0
unfolding all_below sum
none_above n [] e b h = refl
none_above n (x ∷ xs) e b h =
    let p = both_true (ltb x n) (all_below n xs) e in
    let l = ltb-true x n p.0 in
    omega (arith, hit_other b x (λ q. omega arith), none_above n xs p.1 b h)

pub under_none : (b k : ℕ) → k ≤ b → under b k ≡ 0
unfolding under
under_none b zero h = refl
under_none zero (suc k) h = absurd (omega arith)
under_none (suc b) (suc k) h = under_none b k (omega arith)

right : (n : ℕ) → orders? n ≡ true → Right n
right n e =
    let p = both_true (eqb (card_number (digits n)) n) _ e in
    let q = both_true (all_below card_workers (digits n)) _ p.1 in
    record {
      reads = eqb-true (card_number (digits n)) n p.0;
      order =
          record {
            six = refl;
            each = λ b.
                by_cases (dec_lt b card_workers)
                (λ (h : b < card_workers). omega (arith, once_at card_workers (digits n) q.1 b h, under_one b card_workers h))
                (λ (h : ¬ (b < card_workers)).
                let l : card_workers ≤ b = omega arith in
                omega (arith, none_above card_workers (digits n) q.0 b l, under_none b card_workers l));
          };
    }

-- the rule at each entry
pub entry : (k : ℕ) (l : List ℕ) → orders_above k l ≡ true → (i : ℕ) → i < length l → (k < get_or l i 0) × Right (get_or l i 0)
entry k [] e i h = absurd (omega arith)
entry k (n ∷ l) e zero h =
    let p = both_true (ltb k n) _ e in
    (ltb-true k n p.0, right n (both_true (orders? n) (orders_above n l) p.1).0)
entry k (n ∷ l) e (suc i) h =
    let p = both_true (ltb k n) _ e in
    let r = entry n l (both_true (orders? n) (orders_above n l) p.1).1 i (omega arith) in
    (omega (arith, ltb-true k n p.0, r.0), r.1)

-- and of two entries
pub ascends : (k : ℕ) (l : List ℕ) → orders_above k l ≡ true → (i j : ℕ) → i < j → j < length l → get_or l i 0 < get_or l j 0
ascends k [] e i j h g = absurd (omega arith)
ascends k (n ∷ l) e i zero h g = absurd (omega arith)
ascends k (n ∷ l) e zero (suc j) h g =
    let p = both_true (ltb k n) _ e in
    (entry n l (both_true (orders? n) (orders_above n l) p.1).1 j (omega arith)).0
ascends k (n ∷ l) e (suc i) (suc j) h g =
    let p = both_true (ltb k n) _ e in
    ascends n l (both_true (orders? n) (orders_above n l) p.1).1 i j (omega arith) (omega arith)
