-- One card's round in a buffer, worker by worker: how it grows by one.
use mathlib.Core.Path.{◌≡◌, refl, ap, sym, ◌∙◌}
use mathlib.Core.List.{List, [], ◌∷◌, ◌++◌, append_assoc}
use mathlib.Core.Logic.{◌≢◌}
use Prim.Native.Nat.{ℕ, zero, suc, ◌+◌, ◌*◌, ◌-◌, ◌≤◌, ◌<◌}
use native.Mathlib.Numerals.{add-one}
use native.Mathlib.Omega.{arith}
use lib.ListN.{length, get_or, take, drop, set, length-append}
use lib.Seq.{sets, take_at, take-take, take-suc, take-length, split_at, get_or_at, length-take-le}
use borrow.Author.Tests.{lt-ltb}
use Rattle.slices.specs.Put.{Put}
use Rattle.slices.proofs.Written.{nothing, same_long, front, behind, then}
use Rattle.hands.specs.Deck.{card_workers, Order}
use Rattle.hands.specs.Hand.{dealt, asking, circle}
use Rattle.hands.proofs.Circle.{dealt_append, order_long, circle_long}
use Rattle.hands.proofs.Deck.{low_at}
use Rattle.hands.proofs.Rows.{stored}
use Rattle.seats.specs.Rounding.{Seats, Seated}

-- ---- a round that grows

-- a round without the byte that closes it
unclosed : List ℕ → List ℕ
unclosed [] = []
unclosed (w ∷ []) = w ∷ []
unclosed (w ∷ v ∷ l) = w ∷ v ∷ unclosed (v ∷ l)

asking_unclosed : (w : ℕ) (l : List ℕ) (x : ℕ) → asking (w ∷ l) (l ++ (x ∷ [])) ≡ unclosed (w ∷ l) ++ (x ∷ [])
unfolding asking unclosed
asking_unclosed w [] x = refl
asking_unclosed w (v ∷ l) x = ap (λ (t : List ℕ). w ∷ v ∷ t) (asking_unclosed v l x)

unclosed_snoc : (w : ℕ) (l : List ℕ) (b : ℕ) → unclosed (w ∷ (l ++ (b ∷ []))) ≡ unclosed (w ∷ l) ++ (b ∷ b ∷ [])
unfolding unclosed
unclosed_snoc w [] b = refl
unclosed_snoc w (v ∷ l) b = ap (λ (t : List ℕ). w ∷ v ∷ t) (unclosed_snoc v l b)

circle_unclosed : (w : ℕ) (l : List ℕ) → circle (w ∷ l) ≡ unclosed (w ∷ l) ++ (w ∷ [])
unfolding circle
circle_unclosed w l = asking_unclosed w l w

circle_snoc : (w : ℕ) (l : List ℕ) (b : ℕ) → circle (w ∷ (l ++ (b ∷ []))) ≡ unclosed (w ∷ l) ++ (b ∷ b ∷ w ∷ [])
circle_snoc w l b =
    circle_unclosed w (l ++ (b ∷ []))
    ∙ ap (λ (t : List ℕ). t ++ (w ∷ [])) (unclosed_snoc w l b)
    ∙ append_assoc (unclosed (w ∷ l)) (b ∷ b ∷ []) (w ∷ [])

unclosed_head : (w : ℕ) (l : List ℕ) → unclosed (w ∷ l) ≡ w ∷ drop 1 (unclosed (w ∷ l))
unfolding unclosed
unclosed_head w [] = refl
unclosed_head w (v ∷ l) = refl

-- ---- in a buffer

-- the first worker of a round asks itself
pub first_seated : (ws before mid : List ℕ) (at next b : ℕ) → Put before at (circle ws) mid next → next ≡ at → next + 2 ≤ length mid
    → Put before at (circle (ws ++ (b ∷ []))) (set (set mid next b) (next + 1) b) (next + 2)
unfolding circle asking
first_seated [] before mid at next b p e h = rw add-one (then p (stored mid next (b ∷ b ∷ []) h))
first_seated (w ∷ ws) before mid at next b p e h = absurd (omega (arith, p.ends, circle_long (w ∷ ws)))

-- what stands in a buffer that has the round of w and others
module _ (w : ℕ) (l : List ℕ) {before mid : List ℕ} {at k : ℕ} (p : Put before at (circle (w ∷ l)) mid (suc k)) where
  unclosed_long : at + length (unclosed (w ∷ l)) ≡ k
  unclosed_long = omega (arith, p.ends, ap length (circle_unclosed w l), length-append (unclosed (w ∷ l)) (w ∷ []))

  room_before : at ≤ length before
  room_before = omega (arith, p.ends, p.fits)

  -- the round up to the byte that closes it
  front_open : take k mid ≡ take at before ++ unclosed (w ∷ l)
  front_open =
      let f : take (suc k) mid ≡ (take at before ++ unclosed (w ∷ l)) ++ (w ∷ []) =
      front p ∙ ap (λ (t : List ℕ). take at before ++ t) (circle_unclosed w l) ∙ sym (append_assoc (take at before) (unclosed (w ∷ l)) (w ∷ []))
      in
      sym (take-take k (suc k) mid (omega arith))
      ∙ ap (take k) f
      ∙ take_at (take at before ++ unclosed (w ∷ l)) (w ∷ []) k
      (simp length-append (omega (arith, length-take-le at before room_before, unclosed_long)))

  -- its first worker
  first_is : get_or mid at 0 ≡ w
  first_is =
      ap (λ (t : List ℕ). get_or t at 0)
      (p.holds
      ∙ ap (λ (t : List ℕ). take at before ++ (t ++ drop (suc k) before)) (circle_unclosed w l ∙ ap (λ (t : List ℕ). t ++ (w ∷ [])) (unclosed_head w l)))
      ∙ get_or_at (take at before) w _ 0 at (length-take-le at before room_before)

  grown : (b : ℕ) → suc k + 2 ≤ length mid → Put before at (circle (w ∷ (l ++ (b ∷ [])))) (sets mid k (b ∷ b ∷ w ∷ [])) (k + 3)
  grown b h =
      let q = stored mid k (b ∷ b ∷ w ∷ []) (omega arith) in
      let more = circle_snoc w l b in
      let place : suc k + 2 ≡ k + 3 = omega arith in
      let rest : drop (k + 3) mid ≡ drop (k + 3) before = rw place at (behind p 2) in
      record {
        ends = omega (arith, unclosed_long, ap length more, length-append (unclosed (w ∷ l)) (b ∷ b ∷ w ∷ []));
        fits = omega (arith, same_long p);
        holds =
            q.holds
            ∙ ap (λ (t : List ℕ). t ++ ((b ∷ b ∷ w ∷ []) ++ drop (k + 3) mid)) front_open
            ∙ ap (λ (t : List ℕ). (take at before ++ unclosed (w ∷ l)) ++ ((b ∷ b ∷ w ∷ []) ++ t)) rest
            ∙ rw more (simp append_assoc);
      }

-- a further one asks the first, and the one before asks it
pub more_seated : (ws before mid : List ℕ) (at next b : ℕ) → Put before at (circle ws) mid next → next ≢ at → next + 2 ≤ length mid
    → Put before at (circle (ws ++ (b ∷ []))) (set (set (set mid (next - 1) b) next b) (next + 1) (get_or mid at 0)) (next + 2)
unfolding circle asking
more_seated [] before mid at next b p e h = absurd (e (omega (arith, p.ends)))
more_seated (w ∷ l) before mid at zero b p e h = absurd (omega (arith, p.ends, circle_long (w ∷ l)))
more_seated (w ∷ l) before mid at (suc k) b p e h =
    let one : suc k - 1 ≡ k = omega arith in
    let two : suc k + 1 ≡ suc (suc k) = omega arith in
    let three : suc k + 2 ≡ k + 3 = omega arith in
    rw (first_is w l p, one, two, three) (grown w l p b h)

kept_long : (W : ℕ) (xs : List ℕ) (b : ℕ) (ys : List ℕ) → b < W → suc (length (dealt W xs)) ≤ length (dealt W (xs ++ (b ∷ ys)))
unfolding dealt
kept_long W xs b ys h =
    rw (dealt_append W xs (b ∷ ys), lt-ltb b W h) (simp length-append (omega arith))

-- what a seat needs
pub seats : {before mid : List ℕ} {at next : ℕ} (W : ℕ) (xs : List ℕ) (b : ℕ) (ys : List ℕ) → Put before at (circle (dealt W xs)) mid next
    → length (dealt W (xs ++ (b ∷ ys))) ≡ W → at + 2 * W ≤ length before → b < 256 → Seats (length mid) at next W b
seats W xs b ys p e h d =
    let n = p.ends in
    let f = p.fits in
    record {
      begins = omega arith;
      ends = omega (arith, same_long p);
      room = λ low. omega (arith, same_long p, circle_long (dealt W xs), kept_long W xs b ys low);
      digit = d;
    }

-- ---- a card's digits, one by one

-- the round of the first k of them
pub record Sitting (W : ℕ) (xs before : List ℕ) (at : ℕ) (schedule : List ℕ) (next k : ℕ) : Type 0 where
  pub low : k ≤ card_workers
  pub put : Put before at (circle (dealt W (take k xs))) schedule next

pub sit_start : {W : ℕ} {xs before : List ℕ} {at : ℕ} → at ≤ length before → Sitting W xs before at before at 0
unfolding circle dealt asking
sit_start h = record { low = omega arith; put = nothing h }

module _ {W : ℕ} {xs before : List ℕ} {at : ℕ} (o : Order xs) (few : W ≤ card_workers) {schedule : List ℕ} {next k : ℕ}
    (s : Sitting W xs before at schedule next k) where
  pub sit_ready : k < card_workers → at + 2 * W ≤ length before → Seats (length schedule) at next W (get_or xs k 0)
  sit_ready h r =
      let n = o.six in
      let whole : length (dealt W (take k xs ++ (get_or xs k 0 ∷ drop (suc k) xs))) ≡ W =
      rw (← split_at xs k 0 (omega arith)) (order_long W xs o few) in
      seats W (take k xs) (get_or xs k 0) (drop (suc k) xs) s.put whole r (omega (arith, low_at xs o k h))

  pub sit_next : k < card_workers → {after : List ℕ} {end : ℕ} → Seated W (get_or xs k 0) at schedule next after end
      → Sitting W xs before at after end (k + 1)
  sit_next h d =
      let n = o.six in
      rw add-one
      (record {
        low = omega arith;
        put = rw (take-suc xs k 0 (omega arith)) (d.more before (take k xs) s.put);
      })

  pub sit_end : card_workers ≤ k → (Put before at (circle (dealt W xs)) schedule next) × (next ≡ at + 2 * W)
  sit_end h =
      let n = o.six in
      let e : k ≡ length xs = omega (arith, s.low) in
      let p : Put before at (circle (dealt W xs)) schedule next = rw (e, take-length) at s.put in
      (p, omega (arith, p.ends, circle_long (dealt W xs), order_long W xs o few))
