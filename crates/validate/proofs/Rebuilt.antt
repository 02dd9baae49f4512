-- Words that are right part by part are those of the state that they tell of.
use mathlib.Core.Path.{◌≡◌, refl, sym, ap, ◌∙◌}
use mathlib.Core.List.{List, [], ◌∷◌, ◌++◌}
use Prim.Native.Nat.{ℕ, zero, suc, ◌+◌, ◌*◌, ◌/◌, ◌%◌, ◌^◌, ◌≤◌, ◌<◌}
use native.Mathlib.Nat.{zero-add}
use native.Mathlib.Numerals.{add-one}
use native.Mathlib.Omega.{arith}
use lib.ListN.{length, get_or, take, drop, length-drop, take-append-drop}
use lib.Seq.{take-suc, take-add, drop-drop, get_or-take, get_or-drop, ext_get_or, length-take-le, drop-cons}
use Rattle.laws.specs.Blocks.{laid}
use Rattle.laws.specs.Span.{listing}
use Rattle.laws.proofs.Blocks.{length_laid, laid_parts, laid_at}
use Rattle.laws.proofs.Span.{listing_is, listing_length, listing_at}
use Rattle.desk.specs.Lengths.{stretch_length, saved_form, workers_place, tallies_place, marks_place, stretches_place, saved_length}
use Rattle.machine.specs.Row.{count_words}
use Rattle.machine.specs.Tally.{Tally, no_tally, tally_words, tallies_words}
use Rattle.machine.specs.Machine.{Worker, ended, stretch, memory}
use Rattle.saved.specs.Layout.{two_words, ring_words, worker_words, workers_words, saved_words}
use Rattle.saved.specs.Layout.{number_at, worker_word, stretch_in, worker_in, rested_in, tally_in, counts_in, ring_in, state_of}
use Rattle.saved_theorems.proofs.RoundTrip.{workers_length, workers_word}

-- every word has 32 bits
abbrev pub Words32 : List ℕ → Type 0
Words32 w = (i : ℕ) → get_or w i 0 < 2 ^ 32

-- ---- a list of a part and what is behind it

join : (w a r : List ℕ) (k : ℕ) → take k w ≡ a → drop k w ≡ r → w ≡ a ++ r
join w a r k p q = sym (take-append-drop k w) ∙ rw (p, q)

-- the next part
next : (w a r : List ℕ) (i k j : ℕ) → i + k ≡ j → take k (drop i w) ≡ a → drop j w ≡ r → drop i w ≡ a ++ r
next w a r i k j e p q = join (drop i w) a r k p (drop-drop k i w ∙ ap (λ (t : ℕ). drop t w) e ∙ q)

-- two words of a list
two_from : (l : List ℕ) (i : ℕ) → i + 1 < length l → take 2 (drop i l) ≡ get_or l i 0 ∷ get_or l (i + 1) 0 ∷ []
two_from l i h = rw (drop-cons l i 0 (omega arith), drop-cons l (suc i) 0 (omega arith), add-one i)

-- the two words of the number that they are
two_back : (low high : ℕ) → low < 2 ^ 32 → two_words (low + 2 ^ 32 * high) ≡ low ∷ high ∷ []
two_back low high h =
    let a : (low + 4294967296 * high) % 4294967296 ≡ low = omega arith in
    let b : (low + 4294967296 * high) / 4294967296 ≡ high = omega arith in
    rw (a, b)

-- numbers read from consecutive words, written again
numbers_back : (w : List ℕ) → Words32 w → (at k : ℕ) → at + 2 * k ≤ length w
    → take (2 * k) (drop at w) ≡ laid two_words (listing (λ (i : ℕ). number_at w (at + 2 * i)) 0 k)
numbers_back w small at k h =
    laid_parts two_words 2 0 (listing (λ (i : ℕ). number_at w (at + 2 * i)) 0 k) (take (2 * k) (drop at w))
    (rw (length-take-le (2 * k) (drop at w) (rw length-drop (omega arith)), listing_length (λ (i : ℕ). number_at w (at + 2 * i)) 0 k) (omega arith))
    each
  where
    each : (b : ℕ) → b < length (listing (λ (i : ℕ). number_at w (at + 2 * i)) 0 k)
        → take 2 (drop (b * 2) (take (2 * k) (drop at w))) ≡ two_words (get_or (listing (λ (i : ℕ). number_at w (at + 2 * i)) 0 k) b 0)
    each b q =
        let l : b < k = rw (listing_length (λ (i : ℕ). number_at w (at + 2 * i)) 0 k) at q in
        let c : b * 2 ≡ 2 * b = omega arith in
        let long : length (take (2 * k) (drop at w)) ≡ 2 * k = length-take-le (2 * k) (drop at w) (rw length-drop (omega arith)) in
        let e : at + (2 * b + 1) ≡ at + 2 * b + 1 = omega arith in
        let low : get_or (take (2 * k) (drop at w)) (2 * b) 0 ≡ get_or w (at + 2 * b) 0 =
        get_or-take (2 * k) (drop at w) (2 * b) 0 (omega arith) ∙ get_or-drop at w (2 * b) 0 in
        let high : get_or (take (2 * k) (drop at w)) (2 * b + 1) 0 ≡ get_or w (at + 2 * b + 1) 0 =
        get_or-take (2 * k) (drop at w) (2 * b + 1) 0 (omega arith) ∙ rw (get_or-drop at w (2 * b + 1) 0, e) in
        let number = listing_at (λ (i : ℕ). number_at w (at + 2 * i)) 0 0 k b l ∙ ap (λ (i : ℕ). number_at w (at + 2 * i)) (zero-add b) in
        rw (c, two_from (take (2 * k) (drop at w)) (2 * b) (omega (arith, long)), low, high, number)
        (sym (two_back (get_or w (at + 2 * b) 0) (get_or w (at + 2 * b + 1) 0) (small (at + 2 * b))))

-- ---- the parts

module _ (n W : ℕ) (w : List ℕ) (small : Words32 w) (long : length w ≡ saved_length n W) where
  -- three words of a list
  three_from : (i : ℕ) → i + 2 < length w → take 3 (drop i w) ≡ get_or w i 0 ∷ get_or w (i + 1) 0 ∷ get_or w (i + 2) 0 ∷ []
  three_from i h =
      let e : i + 1 ≡ suc i = omega arith in
      let d : i + 2 ≡ suc (suc i) = omega arith in
      rw (drop-cons w i 0 (omega arith), drop-cons w (suc i) 0 (omega arith), drop-cons w (suc (suc i)) 0 (omega arith), e, d)

  -- the words of the ring are those of the ring that they tell of
  abbrev pub RingAre : Type 0
  RingAre = ring_words (ring_in W w) ≡ get_or w 13 0 ∷ get_or w 14 0 ∷ get_or w 15 0 ∷ []

  counts_back : get_or w 0 0 ≡ saved_form → RingAre → take workers_place w ≡ saved_form ∷ (laid two_words (count_words (counts_in w)) ++ ring_words (ring_in W w))
  unfolding listing laid
  counts_back form ring =
      take-add 13 3 w
      ∙ rw (take-add 1 12 w, take-suc w 0 0 (omega (arith, long)), form, numbers_back w small 1 6 (omega (arith, long)), three_from 13 (omega (arith, long)), ring)

  -- number k of tally b
  tally_at_lem : (b k : ℕ) → k < 4 → get_or (tally_words (tally_in W w b)) k 0 ≡ number_at w (tallies_place W + 2 * (b * 4 + k))
  tally_at_lem b zero h = let e : tallies_place W + 8 * b + 0 ≡ tallies_place W + 2 * (b * 4 + 0) = omega arith in ap (number_at w) e
  tally_at_lem b (suc zero) h = let e : tallies_place W + 8 * b + 2 ≡ tallies_place W + 2 * (b * 4 + 1) = omega arith in ap (number_at w) e
  tally_at_lem b (suc (suc zero)) h = let e : tallies_place W + 8 * b + 4 ≡ tallies_place W + 2 * (b * 4 + 2) = omega arith in ap (number_at w) e
  tally_at_lem b (suc (suc (suc zero))) h =
      let e : tallies_place W + 8 * b + 6 ≡ tallies_place W + 2 * (b * 4 + 3) = omega arith in ap (number_at w) e
  tally_at_lem b (suc (suc (suc (suc k)))) h = absurd (omega arith)

  abbrev tallies : List Tally
  tallies = listing (tally_in W w) 0 W

  tallies_numbers : listing (λ (i : ℕ). number_at w (tallies_place W + 2 * i)) 0 (4 * W) ≡ tallies_words tallies
  unfolding tallies_words
  tallies_numbers =
      listing_is (λ (i : ℕ). number_at w (tallies_place W + 2 * i)) 0 0 (4 * W) (laid tally_words tallies)
      (length_laid tally_words 4 no_tally tallies (λ (i : ℕ). refl) ∙ rw (listing_length (tally_in W w) 0 W) (omega arith))
      (λ i h.
      let b : ℕ = i / 4 in
      let k : ℕ = i % 4 in
      let e : 0 + i ≡ b * 4 + k = omega arith in
      let e' : i ≡ b * 4 + k = omega arith in
      let there : b < length tallies = rw (listing_length (tally_in W w) 0 W) (omega arith) in
      rw e
      (sym (tally_at_lem b k (omega arith))
      ∙ ap (λ (t : Tally). get_or (tally_words t) k 0) (sym (listing_at (tally_in W w) no_tally 0 W b (omega arith) ∙ ap (tally_in W w) (zero-add b)))
      ∙ sym (laid_at tally_words 4 no_tally 0 tallies b k (λ (j : ℕ). refl) there (omega arith))
      ∙ ap (λ (t : ℕ). get_or (laid tally_words tallies) t 0) (sym e')))

  tallies_back : take (8 * W) (drop (tallies_place W) w) ≡ laid two_words (tallies_words tallies)
  tallies_back =
      let e : 8 * W ≡ 2 * (4 * W) = omega arith in
      rw (e, ← tallies_numbers) (numbers_back w small (tallies_place W) (4 * W) (omega (arith, long)))

  abbrev workers : List Worker
  workers = listing (worker_in n W w) 0 W

  abbrev rested : List ℕ
  rested = listing (rested_in w) 0 W

  -- the words of worker b are those of the worker that they tell of
  abbrev pub HeadsAre : Type 0
  HeadsAre =
      (b : ℕ) → b < W
      → worker_words (worker_in n W w b) (rested_in w b) ≡ worker_word w b 0 ∷ worker_word w b 1 ∷ worker_word w b 2 ∷ worker_word w b 3 ∷ []

  word_at : (b k : ℕ) → k < 4 → get_or (worker_word w b 0 ∷ worker_word w b 1 ∷ worker_word w b 2 ∷ worker_word w b 3 ∷ []) k 0 ≡ worker_word w b k
  word_at b zero h = refl
  word_at b (suc zero) h = refl
  word_at b (suc (suc zero)) h = refl
  word_at b (suc (suc (suc zero))) h = refl
  word_at b (suc (suc (suc (suc k)))) h = absurd (omega arith)

  heads_back : HeadsAre → take (4 * W) (drop workers_place w) ≡ workers_words workers rested
  heads_back heads =
      let short : length (take (4 * W) (drop workers_place w)) ≡ 4 * W =
      length-take-le (4 * W) (drop workers_place w) (rw length-drop (omega (arith, long))) in
      let count : length (workers_words workers rested) ≡ 4 * W =
      workers_length workers rested ∙ ap (λ (k : ℕ). 4 * k) (listing_length (worker_in n W w) 0 W) in
      ext_get_or 0 (take (4 * W) (drop workers_place w)) (workers_words workers rested) (short ∙ sym count)
      (λ i q.
      let l : i < 4 * W = omega (arith, short) in
      let b : ℕ = i / 4 in
      let k : ℕ = i % 4 in
      let e : i ≡ 4 * b + k = omega arith in
      let place : workers_place + i ≡ workers_place + 4 * b + k = omega arith in
      let there : b < length workers = rw (listing_length (worker_in n W w) 0 W) (omega arith) in
      get_or-take (4 * W) (drop workers_place w) i 0 l
      ∙ get_or-drop workers_place w i 0
      ∙ ap (λ (t : ℕ). get_or w t 0) place
      ∙ sym (word_at b k (omega arith))
      ∙ ap (λ (t : List ℕ). get_or t k 0) (sym (heads b (omega arith)))
      ∙ sym
      (ap (λ (t : ℕ). get_or (workers_words workers rested) t 0) e
      ∙ workers_word workers rested b k there (omega arith)
      ∙ rw (listing_at (worker_in n W w) ended 0 W b (omega arith), listing_at (rested_in w) 0 0 W b (omega arith), zero-add b)))

  -- the stretch of worker b has the runs of the worker
  abbrev pub StretchesAre : Type 0
  StretchesAre = (b : ℕ) → b < W → stretch_in n W w b ≡ stretch n (worker_in n W w b)

  stretches_back : StretchesAre → drop (stretches_place n W) w ≡ memory n workers
  unfolding memory
  stretches_back each =
      laid_parts (stretch n) (stretch_length n) ended workers (drop (stretches_place n W) w)
      (rw (length-drop, listing_length (worker_in n W w) 0 W) (omega (arith, long)))
      (λ b q.
      let l : b < W = rw (listing_length (worker_in n W w) 0 W) at q in
      rw (drop-drop (b * stretch_length n) (stretches_place n W) w, listing_at (worker_in n W w) ended 0 W b l, zero-add b) (each b l))

  pub rebuilt : get_or w 0 0 ≡ saved_form → RingAre → HeadsAre → StretchesAre → w ≡ saved_words n (state_of n W w)
  unfolding saved_words state_of
  rebuilt form ring heads stretches =
      let marks = take n (drop (marks_place W) w) in
      join w (saved_form ∷ (laid two_words (count_words (counts_in w)) ++ ring_words (ring_in W w))) _ workers_place (counts_back form ring)
      (next w (workers_words workers rested) _ workers_place (4 * W) (tallies_place W) (omega arith) (heads_back heads)
      (next w (laid two_words (tallies_words tallies)) _ (tallies_place W) (8 * W) (marks_place W) (omega arith) tallies_back
      (next w marks _ (marks_place W) n (stretches_place n W) (omega arith) refl (stretches_back stretches))))
