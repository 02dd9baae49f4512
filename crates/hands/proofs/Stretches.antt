-- Each card is a stretch with an entry for every worker, so a hand's schedule is a cut; and enough stretches finish.
use mathlib.Core.Path.{◌≡◌, refl, ap, sym, ◌∙◌}
use mathlib.Core.Bool.{true}
use mathlib.Core.List.{List, [], ◌∷◌, ◌++◌, map}
use mathlib.Core.Logic.{by_cases}
use Prim.Native.Nat.{ℕ, ◌≤◌, ◌<◌}
use native.Mathlib.Decide.{dec_lt}
use native.Mathlib.Omega.{arith}
use lib.Dec.{ltb}
use lib.ListN.{length, take, drop, length-map}
use borrow.Author.Tests.{lt-ltb, le-ltb, ltb-true}
use Rattle.laws.specs.Blocks.{laid}
use Rattle.laws.specs.Sum.{sum, hit}
use Rattle.laws.proofs.Grouping.{under_one}
use Rattle.laws.proofs.Sum.{hit_other}
use Rattle.graph.specs.Graph.{all_below}
use Rattle.graph.proofs.Formed.{both_true}
use Rattle.machine.specs.Machine.{Entry, entries}
use Rattle.desk.specs.Checks.{schedule_fits}
use Rattle.machine.specs.Demand3.{entries_of, AllHave, joined, Cut}
use Rattle.theorems.proofs.Finishing.{cut_finishes}
use Rattle.hands.specs.Deck.{card_workers, deck_size, card, digits}
use Rattle.hands.specs.Hand.{dealt, asking, circle, round_of, turns_of, Rounds}
use Rattle.hands.proofs.Circle.{turned_long}
use Rattle.hands.proofs.Deck.{card_right}

-- ---- the entries of a round

-- bytes of whole entries, and what stands behind them
asking_entries : (ws vs l : List ℕ) → length ws ≡ length vs → entries (asking ws vs ++ l) ≡ entries (asking ws vs) ++ entries l
unfolding asking entries
asking_entries [] vs l e = refl
asking_entries (w ∷ ws) [] l e = absurd (omega arith)
asking_entries (w ∷ ws) (v ∷ vs) l e =
    ap (λ (xs : List Entry). record { worker = w; named = v } ∷ xs) (asking_entries ws vs l (omega arith))

-- they are for the workers, each as often as it stands there
asking_have : (b : ℕ) (ws vs : List ℕ) → length ws ≡ length vs → entries_of b (entries (asking ws vs)) ≡ sum (hit b) ws
unfolding asking entries sum
asking_have b [] vs e = refl
asking_have b (w ∷ ws) [] e = absurd (omega arith)
asking_have b (w ∷ ws) (v ∷ vs) e = omega (arith, asking_have b ws vs (omega arith))

-- and each is below W where the workers are
asking_fit : (W : ℕ) (ws vs l : List ℕ) → length ws ≡ length vs → all_below W ws ≡ true → schedule_fits W l ≡ true
    → schedule_fits W (asking ws vs ++ l) ≡ true
unfolding asking schedule_fits all_below
asking_fit W [] vs l e h f = f
asking_fit W (w ∷ ws) [] l e h f = absurd (omega arith)
asking_fit W (w ∷ ws) (v ∷ vs) l e h f =
    let p = both_true (ltb w W) (all_below W ws) h in
    rw p.0 (asking_fit W ws vs l (omega arith) p.1 f)

-- ---- who takes part

pub dealt_low : (W : ℕ) (xs : List ℕ) → all_below W (dealt W xs) ≡ true
unfolding dealt all_below
dealt_low W [] = refl
dealt_low W (x ∷ xs) =
    by_cases (dec_lt x W)
    (λ (h : x < W). rw (lt-ltb x W h, lt-ltb x W h) (dealt_low W xs))
    (λ (h : ¬ (x < W)). rw (le-ltb x W (omega arith)) (dealt_low W xs))

dealt_keeps : (W b : ℕ) (xs : List ℕ) → b < W → sum (hit b) (dealt W xs) ≡ sum (hit b) xs
unfolding dealt sum
dealt_keeps W b [] h = refl
dealt_keeps W b (x ∷ xs) h =
    by_cases (dec_lt x W)
    (λ (p : x < W). rw (lt-ltb x W p) (omega (arith, dealt_keeps W b xs h)))
    (λ (p : ¬ (x < W)). rw (le-ltb x W (omega arith)) (omega (arith, dealt_keeps W b xs h, hit_other b x (λ e. omega arith))))

-- ---- the cards of a hand

module _ (W : ℕ) (few : W ≤ card_workers) where
  round_has : (c : ℕ) → c < deck_size → (b : ℕ) → b < W → 0 < entries_of b (entries (round_of W c))
  unfolding round_of circle
  round_has c h b g =
      let ws = dealt W (digits (card c)) in
      omega (
        arith,
        asking_have b ws (drop 1 ws ++ take 1 ws) (turned_long ws),
        dealt_keeps W b (digits (card c)) g,
        (card_right c h).order.each b,
        under_one b card_workers (omega arith),
      )

  round_entries : (c : ℕ) (l : List ℕ) → entries (round_of W c ++ l) ≡ entries (round_of W c) ++ entries l
  unfolding round_of circle
  round_entries c l =
      let ws = dealt W (digits (card c)) in
      asking_entries ws (drop 1 ws ++ take 1 ws) l (turned_long ws)

  -- the stretches of a hand
  abbrev stretches_of : List ℕ → List (List Entry)
  stretches_of cards = map (λ (c : ℕ). entries (round_of W c)) cards

  all_have : (cards : List ℕ) → all_below deck_size cards ≡ true → AllHave W (stretches_of cards)
  unfolding all_below
  all_have [] h = tt
  all_have (c ∷ cards) h =
      let p = both_true (ltb c deck_size) (all_below deck_size cards) h in
      (λ b g. round_has c (ltb-true c deck_size p.0) b g, all_have cards p.1)

  stretches_whole : (cards : List ℕ) → joined (stretches_of cards) ≡ entries (turns_of W cards)
  unfolding joined laid turns_of entries
  stretches_whole [] = refl
  stretches_whole (c ∷ cards) =
      ap (λ (xs : List Entry). entries (round_of W c) ++ xs) (stretches_whole cards) ∙ sym (round_entries c (turns_of W cards))

  turns_fit : (cards : List ℕ) → schedule_fits W (turns_of W cards) ≡ true
  unfolding turns_of laid round_of circle schedule_fits
  turns_fit [] = refl
  turns_fit (c ∷ cards) =
      let ws = dealt W (digits (card c)) in
      asking_fit W ws (drop 1 ws ++ take 1 ws) (turns_of W cards) (turned_long ws) (dealt_low W (digits (card c))) (turns_fit cards)

-- ---- what a schedule of rounds brings about

pub rounds_of_lem : (W : ℕ) (cards : List ℕ) → 1 ≤ W → W ≤ card_workers → all_below deck_size cards ≡ true → Rounds W (length cards) (turns_of W cards)
rounds_of_lem W cards some few known =
    let cut : Cut W (length cards) (entries (turns_of W cards)) =
    record {
      stretches = stretches_of W few cards;
      number = length-map cards (λ (c : ℕ). entries (round_of W c));
      whole = stretches_whole W few cards;
      each = all_have W few cards known;
    } in
    record { cut = cut; brings = cut_finishes cut (turns_fit W few cards) }
