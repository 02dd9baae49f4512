-- The ring's words and the ring that they tell of, both ways.
use mathlib.Core.Path.{◌≡◌, refl, sym, ap, ◌∙◌}
use mathlib.Core.List.{List, [], ◌∷◌}
use mathlib.Core.Logic.{by_cases}
use Prim.Native.Nat.{ℕ, zero, suc, ◌+◌, ◌/◌, ◌%◌, ◌^◌, ◌≤◌, ◌<◌}
use native.Mathlib.Decide.{dec_lt}
use native.Mathlib.Nat.{zero-add, two-pow-succ, div-one}
use native.Mathlib.Omega.{arith}
use lib.ListN.{get_or}
use lib.Pow.{shr-shr}
use borrow.Author.Tests.{lt-ltb, le-ltb}
use Rattle.laws.specs.Span.{listing}
use Rattle.laws.specs.Sum.{sum, hit}
use Rattle.laws.proofs.Passing.{span_agree}
use Rattle.laws.proofs.Span.{listing_at}
use Rattle.laws.proofs.Sum.{hit_same, hit_equal}
use Rattle.machine.specs.Ring.{white, shade, black_set, black_below}
use Rattle.machine.specs.Run.{carried}
use Rattle.machine.specs.Machine.{worker, carried_by, stopped}
use Rattle.machine.specs.Sound.{Supplied}
use Rattle.theorems.proofs.Runs.{length_carried}
use Rattle.saved.specs.Layout.{ring_words, colour_from, colour_in, ring_in, worker_word, stretch_in, worker_in, state_of, runs_in}
use Rattle.protocol.specs.Heads.{HeadsSound, ended_words}
use Rattle.protocol.specs.Ring.{ring_word, black_bits, ClearAbove, RingSound}
use Rattle.validate.proofs.Told.{worker_in_lem, worker_out, read, ended_told}

-- ---- numbers and colours

shade_back : (y : ℕ) → y ≤ 1 → shade (colour_from y) ≡ y
shade_back zero h = refl
shade_back (suc zero) h = refl
shade_back (suc (suc y)) h = absurd (omega arith)

bit_shade : (x i : ℕ) → shade (colour_from (x / 2 ^ i % 2)) ≡ x / 2 ^ i % 2
bit_shade x i = shade_back (x / 2 ^ i % 2) (omega arith)

-- the bits from a on, read and laid again
set_back : (x a k : ℕ) → x / 2 ^ a < 2 ^ k → black_set (listing (λ (b : ℕ). colour_from (x / 2 ^ b % 2)) a k) ≡ x / 2 ^ a
unfolding black_set listing
set_back x a zero h = omega arith
set_back x a (suc k) h =
    let e : suc a ≡ a + 1 = omega arith in
    let two : 2 ^ 1 ≡ 2 = refl in
    let next : x / 2 ^ suc a ≡ x / 2 ^ a / 2 = rw (e, ← shr-shr x a 1, two) refl in
    omega (arith, next, set_back x (suc a) k (omega (arith, h, next, two-pow-succ k)), bit_shade x a)

module _ (n W : ℕ) (w : List ℕ) where
  -- the words of the ring that they tell of
  pub ring_are : RingSound W w → ring_words (ring_in W w) ≡ ring_word w 0 ∷ ring_word w 1 ∷ ring_word w 2 ∷ []
  ring_are r =
      let one : ring_word w 2 / 2 ^ 0 ≡ ring_word w 2 = div-one (ring_word w 2) in
      rw (shade_back (ring_word w 1) r.token_known, set_back (ring_word w 2) 0 W (rw one r.black_known), one) refl

  -- how many are black at the holder or below, the token with them
  pub below_told : ring_word w 1 ≤ 1 → ring_word w 0 < W → black_below (ring_in W w) ≡ ring_word w 1 + black_bits (ring_word w 2) (suc (ring_word w 0))
  below_told t h =
      let k = suc (ring_word w 0) in
      rw (
        shade_back (ring_word w 1) t,
        span_agree (λ (i : ℕ). shade (get_or (listing (colour_in w) 0 W) i white)) (λ (i : ℕ). ring_word w 2 / 2 ^ i % 2) k
            (λ (i : ℕ) (l : i < k).
            ap shade (listing_at (colour_in w) white 0 W i (omega arith) ∙ ap (colour_in w) (zero-add i)) ∙ bit_shade (ring_word w 2) i),
      )
      refl

  module _ {D : ℕ} (heads : HeadsSound W D w) where
    -- a status of one that carries nothing
    carries_none : (b : ℕ) → b < W → worker_word w b 0 < 4 → carried_by (worker_in n W w b) ≡ 0
    unfolding carried sum
    carries_none b h l = rw ((read n W w heads b h).runs, lt-ltb (worker_word w b 0) 4 l) refl

    carries_some : (b : ℕ) → b < W → Supplied (worker_in n W w b) → carried_by (worker_in n W w b) ≡ 0 → worker_word w b 0 < 4
    carries_some b h s z =
        by_cases (dec_lt (worker_word w b 0) 4)
        (λ (p : worker_word w b 0 < 4). p)
        (λ (p : ¬ (worker_word w b 0 < 4)).
        let rs = runs_in (stretch_in n W w b) in
        let q : 4 ≤ worker_word w b 0 = omega arith in
        let same : carried_by (worker_in n W w b) ≡ carried rs = rw ((read n W w heads b h).runs, le-ltb (worker_word w b 0) 4 q) refl in
        absurd (omega (arith, z, same, length_carried rs, (read n W w heads b h).has_runs s q)))

    stopped_told : 0 < W → stopped (worker (state_of n W w) 0) ≡ hit 3 (worker_word w 0 0)
    stopped_told h = ap stopped (worker_in_lem n W w 0 h) ∙ (read n W w heads 0 h).stopping

    -- ---- from words to the state

    pub above_told : RingSound W w → black_below (ring_in W w) ≡ 0 → (b : ℕ) → ring_word w 0 < b → carried_by (worker (state_of n W w) b) ≡ 0
    unfolding carried sum
    above_told r z b l =
        by_cases (dec_lt b W)
        (λ (p : b < W).
        ap carried_by (worker_in_lem n W w b p)
        ∙ carries_none b p (r.above (omega (arith, z, below_told r.token_known r.holder_below)) b p l))
        (λ (p : ¬ (b < W)). ap carried_by (worker_out n W w b (omega arith)))

    pub first_told : RingSound W w → 0 < sum stopped (state_of n W w).workers → (stopped (worker (state_of n W w) 0) ≡ 1) × (ring_word w 0 ≡ 0)
    first_told r h =
        let e = r.first_ended (omega (arith, h, ended_told n W w heads)) in
        (stopped_told (omega (arith, r.holder_below)) ∙ rw e.0 (hit_same 3), e.1)

    -- ---- and back

    pub first_back : 0 < W → (0 < sum stopped (state_of n W w).workers → (stopped (worker (state_of n W w) 0) ≡ 1) × (ring_word w 0 ≡ 0))
        → 0 < ended_words w W → (worker_word w 0 0 ≡ 3) × (ring_word w 0 ≡ 0)
    first_back some f h =
        let e = f (omega (arith, h, ended_told n W w heads)) in
        (sym (hit_equal 3 (worker_word w 0 0) (omega (arith, e.0, stopped_told some))), e.1)

    pub above_back : ((b : ℕ) → Supplied (worker (state_of n W w) b)) → ((b : ℕ) → ring_word w 0 < b → carried_by (worker (state_of n W w) b) ≡ 0)
        → ClearAbove W w (ring_word w 0)
    above_back supplied none b h l =
        carries_some b h (rw (worker_in_lem n W w b h) at (supplied b)) (sym (ap carried_by (worker_in_lem n W w b h)) ∙ none b l)
