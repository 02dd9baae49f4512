-- One card's round: who takes part, and how long it is.
use mathlib.Core.Path.{◌≡◌, refl, ◌∙◌}
use mathlib.Core.Bool.{Bool, true, false}
use mathlib.Core.List.{List, [], ◌∷◌, ◌++◌, append-nil}
use mathlib.Core.Logic.{by_cases}
use Prim.Native.Nat.{ℕ, zero, suc, ◌*◌, ◌≤◌, ◌<◌}
use native.Mathlib.Decide.{dec_lt}
use native.Mathlib.Omega.{arith}
use lib.Dec.{ltb}
use lib.ListN.{length, take, drop, length-append}
use borrow.Author.Tests.{lt-ltb, le-ltb}
use Rattle.laws.specs.Choice.{pick}
use Rattle.laws.specs.Grouping.{below, count, itself}
use Rattle.laws.specs.Sum.{sum}
use Rattle.laws.proofs.Grouping.{under_one, below_suc, below_zero}
use Rattle.hands.specs.Deck.{card_workers, Order}
use Rattle.hands.specs.Hand.{dealt, asking, circle}
use Rattle.hands.proofs.Ascending.{under_none}

-- ---- who takes part

pick_append : (t : Bool) (x : ℕ) (l r : List ℕ) → pick t (x ∷ (l ++ r)) (l ++ r) ≡ pick t (x ∷ l) l ++ r
pick_append true x l r = refl
pick_append false x l r = refl

pub dealt_append : (W : ℕ) (xs ys : List ℕ) → dealt W (xs ++ ys) ≡ dealt W xs ++ dealt W ys
unfolding dealt
dealt_append W [] ys = refl
dealt_append W (x ∷ xs) ys = rw (dealt_append W xs ys) (pick_append (ltb x W) x (dealt W xs) (dealt W ys))

pub kept : (W : ℕ) (xs : List ℕ) (b : ℕ) → b < W → dealt W (xs ++ (b ∷ [])) ≡ dealt W xs ++ (b ∷ [])
unfolding dealt
kept W xs b h = dealt_append W xs (b ∷ []) ∙ rw (lt-ltb b W h)

pub skipped : (W : ℕ) (xs : List ℕ) (b : ℕ) → W ≤ b → dealt W (xs ++ (b ∷ [])) ≡ dealt W xs
unfolding dealt
skipped W xs b h = dealt_append W xs (b ∷ []) ∙ rw (le-ltb b W h) (append-nil (dealt W xs))

-- how many: those below W
dealt_long : (W : ℕ) (xs : List ℕ) → length (dealt W xs) ≡ below itself W xs
unfolding dealt below sum
dealt_long W [] = refl
dealt_long W (x ∷ xs) =
    by_cases (dec_lt x W)
    (λ (h : x < W). rw (lt-ltb x W h) (omega (arith, dealt_long W xs, under_one x W h)))
    (λ (h : ¬ (x < W)).
    let l : W ≤ x = omega arith in
    rw (le-ltb x W l) (omega (arith, dealt_long W xs, under_none x W l)))

-- of an order, as many as there are workers
order_below : (xs : List ℕ) → Order xs → (W : ℕ) → W ≤ card_workers → below itself W xs ≡ W
unfolding count
order_below xs o zero h = below_zero itself xs
order_below xs o (suc W) h =
    omega (arith, below_suc itself W xs, order_below xs o W (omega arith), o.each W, under_one W card_workers (omega arith))

pub order_long : (W : ℕ) (xs : List ℕ) → Order xs → W ≤ card_workers → length (dealt W xs) ≡ W
order_long W xs o h = dealt_long W xs ∙ order_below xs o W h

-- ---- how long a round is

pub asking_long : (ws vs : List ℕ) → length ws ≡ length vs → length (asking ws vs) ≡ 2 * length ws
unfolding asking
asking_long [] vs e = refl
asking_long (w ∷ ws) [] e = absurd (omega arith)
asking_long (w ∷ ws) (v ∷ vs) e = omega (arith, asking_long ws vs (omega arith))

pub turned_long : (ws : List ℕ) → length ws ≡ length (drop 1 ws ++ take 1 ws)
turned_long [] = refl
turned_long (w ∷ ws) = simp length-append (omega arith)

pub circle_long : (ws : List ℕ) → length (circle ws) ≡ 2 * length ws
unfolding circle
circle_long ws = asking_long ws (drop 1 ws ++ take 1 ws) (turned_long ws)
