-- The words of a state tell of that state, part by part.
use mathlib.Core.Path.{◌≡◌, refl, ap, sym, ◌∙◌}
use mathlib.Core.List.{List, [], ◌∷◌, ◌++◌, append_assoc, append-nil}
use Prim.Native.Nat.{ℕ, zero, suc, ◌+◌, ◌-◌, ◌*◌, ◌/◌, ◌%◌, ◌^◌, ◌≤◌, ◌<◌}
use native.Mathlib.Nat.{div-add-mod, zero-add}
use native.Mathlib.Omega.{arith}
use lib.ListN.{length, get_or, take, drop, replicate, length-append, length-drop, length-replicate, get_or-append}
use lib.Seq.{get_or-append-add, get_or-drop, drop_at, take_at, drop-append-add, length-take-le}
use borrow.Author.Tests.{lt-ltb}
use Rattle.laws.specs.Blocks.{laid}
use Rattle.laws.proofs.Blocks.{length_laid, laid_part, laid_at}
use Rattle.laws.proofs.Span.{listing_is, listing_length}
use Rattle.desk.specs.Lengths.{stretch_length, saved_form, workers_place, worker_word_count, tallies_place, marks_place, stretches_place, saved_length}
use Rattle.machine.specs.Row.{count_words}
use Rattle.machine.specs.Ring.{Colour, white, black, shade, black_set}
use Rattle.machine.specs.Run.{Run, run, pairs}
use Rattle.machine.specs.Tally.{no_tally, tally_words, tallies_words}
use Rattle.machine.specs.Machine.{State, Worker, idle, asking, denied, ended, given, busy, empty, from, poll, look, claim, worker, runs_of, carried_by, stretch, memory}
use Rattle.theorems.proofs.Colours.{set_at}
use Rattle.theorems.proofs.Runs.{length_carried}
use Rattle.worker.proofs.Pairs.{length_pairs}
use Rattle.saved.specs.Layout.{two_words, ring_words, worker_words, workers_words, saved_words, number_at, runs_in, worker_from, rested_from, worker_word, stretch_in, worker_in, rested_in, tally_number, tally_in, counts_in, colour_from, ring_in, state_of, Shaped, colour_in}
use Rattle.machine.specs.Sound.{Supplied, Sized}

-- ---- numbers

-- two words are the number
pub two_words_lem : (x : ℕ) → x % 2 ^ 32 + 2 ^ 32 * (x / 2 ^ 32) ≡ x
two_words_lem x = omega (arith, div-add-mod x (2 ^ 32))

-- numbers laid as two words each
pub two_at : (l : List ℕ) (i : ℕ) → i < length l → number_at (laid two_words l) (2 * i) ≡ get_or l i 0
unfolding laid
two_at [] i h = absurd (omega arith)
two_at (x ∷ l) zero h = two_words_lem x
two_at (x ∷ l) (suc i) h =
    let e : 2 * suc i ≡ suc (suc (2 * i)) = omega arith in
    let d : 2 * suc i + 1 ≡ suc (suc (2 * i + 1)) = omega arith in
    rw (d, e) (two_at l i (omega arith))

-- ---- one worker

worker_length : (w : Worker) (n : ℕ) → length (worker_words w n) ≡ worker_word_count
worker_length idle n = refl
worker_length asking n = refl
worker_length denied n = refl
worker_length ended n = refl
worker_length (given rs) n = refl
worker_length (busy c k p rs) n = refl

pub workers_length : (ws : List Worker) (ns : List ℕ) → length (workers_words ws ns) ≡ worker_word_count * length ws
unfolding workers_words
workers_length [] ns = refl
workers_length (w ∷ ws) ns = rw length-append (omega (arith, worker_length w (get_or ns 0 0), workers_length ws (drop 1 ns)))

-- word k of worker b
pub workers_word : (ws : List Worker) (ns : List ℕ) (b k : ℕ) → b < length ws → k < worker_word_count
    → get_or (workers_words ws ns) (worker_word_count * b + k) 0 ≡ get_or (worker_words (get_or ws b ended) (get_or ns b 0)) k 0
unfolding workers_words
workers_word [] ns b k h i = absurd (omega arith)
workers_word (w ∷ ws) ns zero k h i =
    let e : worker_word_count * 0 + k ≡ k = omega arith in
    rw e (get_or-append (worker_words w (get_or ns 0 0)) (workers_words ws (drop 1 ns)) 0 k (omega (arith, worker_length w (get_or ns 0 0))))
workers_word (w ∷ ws) ns (suc b) k h i =
    let e : worker_word_count * suc b + k ≡ length (worker_words w (get_or ns 0 0)) + (worker_word_count * b + k) = omega (arith, worker_length w (get_or ns 0 0)) in
    let d : 1 + b ≡ suc b = omega arith in
    rw e
    (get_or-append-add (worker_words w (get_or ns 0 0)) (workers_words ws (drop 1 ns)) (worker_word_count * b + k) 0
    ∙ workers_word ws (drop 1 ns) b k (omega arith) i
    ∙ ap (λ (m : ℕ). get_or (worker_words (get_or ws b ended) m) k 0) (get_or-drop 1 ns b 0 ∙ ap (λ (m : ℕ). get_or ns m 0) d))

-- runs as pairs are those runs
runs_pairs : (rs : List Run) (t : List ℕ) → runs_in (pairs rs ++ t) ≡ runs_in t ++ rs
unfolding pairs runs_in
runs_pairs [] t = rw append-nil
runs_pairs (run f k ∷ rs) t =
    let e : f + suc k - suc f ≡ k = omega arith in
    rw (append_assoc, runs_pairs rs (f ∷ (f + suc k) ∷ t), lt-ltb f (f + suc k) (omega arith), e) (append_assoc (runs_in t) (run f k ∷ []) rs)

zeros_none : (k : ℕ) → runs_in (replicate k 0) ≡ []
unfolding runs_in
zeros_none zero = refl
zeros_none (suc zero) = refl
zeros_none (suc (suc k)) = refl

pub runs_stretch : (n : ℕ) (w : Worker) → runs_in (stretch n w) ≡ runs_of w
unfolding stretch
runs_stretch n w =
    runs_pairs (runs_of w) (replicate (stretch_length n - length (pairs (runs_of w))) 0)
    ∙ rw (zeros_none (stretch_length n - length (pairs (runs_of w))))

-- a stretch has its length
pub stretch_length_lem : (n : ℕ) (w : Worker) → length (runs_of w) ≤ suc n → length (stretch n w) ≡ stretch_length n
unfolding stretch
stretch_length_lem n w h = rw (length-append, length-replicate) (omega (arith, length_pairs (runs_of w)))

-- the worker whose words these are
worker_told : (w : Worker) (n : ℕ)
    → worker_from (get_or (worker_words w n) 0 0) (get_or (worker_words w n) 1 0) (get_or (worker_words w n) 2 0) (get_or (worker_words w n) 3 0) (runs_of w) ≡ w
worker_told idle n = refl
worker_told asking n = refl
worker_told denied n = refl
worker_told ended n = refl
worker_told (given rs) n = refl
worker_told (busy empty k poll rs) n = refl
worker_told (busy empty k (look j) rs) n = let e : suc j - 1 ≡ j = omega arith in rw e refl
worker_told (busy empty k (claim j) rs) n = let e : suc j - 1 ≡ j = omega arith in rw e refl
worker_told (busy (from a) k poll rs) n = refl
worker_told (busy (from a) k (look j) rs) n = let e : suc j - 1 ≡ j = omega arith in rw e refl
worker_told (busy (from a) k (claim j) rs) n = let e : suc j - 1 ≡ j = omega arith in rw e refl

-- and its since, where one that carries has none here
rested_told : (w : Worker) (n : ℕ) → Supplied w → (0 < carried_by w → n ≡ 0) → rested_from (get_or (worker_words w n) 0 0) (get_or (worker_words w n) 2 0) ≡ n
rested_told idle n t h = refl
rested_told asking n t h = refl
rested_told denied n t h = refl
rested_told ended n t h = refl
rested_told (given rs) n t h = refl
rested_told (busy c k poll rs) n t h = sym (h (omega (arith, t, length_carried rs)))
rested_told (busy c k (look j) rs) n t h = sym (h (omega (arith, t, length_carried rs)))
rested_told (busy c k (claim j) rs) n t h = sym (h (omega (arith, t, length_carried rs)))

-- a colour by its number
colour_back : (c : Colour) → colour_from (shade c) ≡ c
colour_back white = refl
colour_back black = refl

-- ---- the state

-- what words tell of has so many objects and workers, whether they hold a state or not
pub state_sized : (n W : ℕ) (w : List ℕ) → length w ≡ saved_length n W → Sized n W (state_of n W w)
unfolding state_of
state_sized n W w long =
    record {
      marks_length = length-take-le n (drop (marks_place W) w) (rw length-drop (omega (arith, long)));
      workers_length = listing_length (worker_in n W w) 0 W;
      rested_length = listing_length (rested_in w) 0 W;
      colours_length = listing_length (colour_in w) 0 W;
      tallies_length = listing_length (tally_in W w) 0 W;
    }

module _ {n W : ℕ} {s : State} (X : Shaped n W s) where
  -- the parts
  abbrev A₀ : List ℕ
  A₀ = saved_form ∷ (laid two_words (count_words s.counts) ++ ring_words s.ring)

  abbrev A₁ : List ℕ
  A₁ = workers_words s.workers s.rested

  abbrev A₂ : List ℕ
  A₂ = laid two_words (tallies_words s.tallies)

  abbrev A₄ : List ℕ
  A₄ = memory n s.workers

  parts : saved_words n s ≡ A₀ ++ (A₁ ++ (A₂ ++ (s.marks ++ A₄)))
  unfolding saved_words
  parts = refl

  counts_long : length A₀ ≡ workers_place
  unfolding laid
  counts_long = refl

  pub workers_long : length A₁ ≡ worker_word_count * W
  workers_long = workers_length s.workers s.rested ∙ ap (λ (m : ℕ). worker_word_count * m) X.sized.workers_length

  numbers_long : length (tallies_words s.tallies) ≡ W * 4
  unfolding tallies_words
  numbers_long = length_laid tally_words 4 no_tally s.tallies (λ (i : ℕ). refl) ∙ ap (λ (m : ℕ). m * 4) X.sized.tallies_length

  pub tallies_count : length (tallies_words s.tallies) ≡ 4 * W
  tallies_count = omega (arith, numbers_long)

  pub tallies_long : length A₂ ≡ 8 * W
  tallies_long = omega (arith, length_laid two_words 2 0 (tallies_words s.tallies) (λ (i : ℕ). refl), numbers_long)

  pub stretches_long : length A₄ ≡ W * stretch_length n
  unfolding memory
  stretches_long =
      length_laid (stretch n) (stretch_length n) ended s.workers (λ (b : ℕ). stretch_length_lem n (worker s b) (X.room b))
      ∙ ap (λ (m : ℕ). m * stretch_length n) X.sized.workers_length

  pub saved_length_lem : length (saved_words n s) ≡ saved_length n W
  unfolding laid
  saved_length_lem =
      rw (parts, length-append, length-append, length-append, length-append)
      (omega (arith, counts_long, workers_long, tallies_long, X.sized.marks_length, stretches_long))

  -- each count
  pub count_told : counts_in (saved_words n s) ≡ s.counts
  unfolding saved_words laid
  count_told =
      let c = s.counts in
      let told = counts_in (saved_words n s) in
      let live : told.live ≡ c.live = two_words_lem c.live in
      let followed : told.followed ≡ c.followed = two_words_lem c.followed in
      let handed : told.handed ≡ c.handed = two_words_lem c.handed in
      let refused : told.refused ≡ c.refused = two_words_lem c.refused in
      let moved : told.moved ≡ c.moved = two_words_lem c.moved in
      let carrying : told.carrying ≡ c.carrying = two_words_lem c.carrying in
      rw (live, followed, handed, refused, moved, carrying) refl

  -- a word of the workers' part
  pub worker_word_lem : (b k : ℕ) → b < W → k < worker_word_count
      → worker_word (saved_words n s) b k ≡ get_or (worker_words (worker s b) (get_or s.rested b 0)) k 0
  worker_word_lem b k h i =
      let place : workers_place + worker_word_count * b + k ≡ length A₀ + (worker_word_count * b + k) = omega (arith, counts_long) in
      rw (parts, place)
      (get_or-append-add A₀ (A₁ ++ (A₂ ++ (s.marks ++ A₄))) (worker_word_count * b + k) 0
      ∙ get_or-append A₁ (A₂ ++ (s.marks ++ A₄)) 0 (worker_word_count * b + k) (omega (arith, workers_long))
      ∙ workers_word s.workers s.rested b k (omega (arith, X.sized.workers_length)) i)

  -- word j of the tallies' part
  tallies_word : (j : ℕ) → j < 8 * W → get_or (saved_words n s) (tallies_place W + j) 0 ≡ get_or A₂ j 0
  tallies_word j h =
      let place : tallies_place W + j ≡ length A₀ + (length A₁ + j) = omega (arith, counts_long, workers_long) in
      rw (parts, place)
      (get_or-append-add A₀ (A₁ ++ (A₂ ++ (s.marks ++ A₄))) (length A₁ + j) 0
      ∙ get_or-append-add A₁ (A₂ ++ (s.marks ++ A₄)) j 0
      ∙ get_or-append A₂ (s.marks ++ A₄) 0 j (omega (arith, tallies_long)))

  -- number j of the tallies, four for each worker
  pub number_told : (j : ℕ) → j < W * 4 → number_at (saved_words n s) (tallies_place W + 2 * j) ≡ get_or (tallies_words s.tallies) j 0
  number_told j h =
      let place : tallies_place W + 2 * j + 1 ≡ tallies_place W + (2 * j + 1) = omega arith in
      rw (place, tallies_word (2 * j) (omega arith), tallies_word (2 * j + 1) (omega arith))
      (two_at (tallies_words s.tallies) j (omega (arith, numbers_long)))

  -- the words of the workers, and of the tallies
  pub records_told : take (worker_word_count * W) (drop workers_place (saved_words n s)) ≡ workers_words s.workers s.rested
  records_told =
      rw (parts, drop_at A₀ (A₁ ++ (A₂ ++ (s.marks ++ A₄))) workers_place counts_long) (take_at A₁ (A₂ ++ (s.marks ++ A₄)) (worker_word_count * W) workers_long)

  pub tallies_told : take (8 * W) (drop (tallies_place W) (saved_words n s)) ≡ laid two_words (tallies_words s.tallies)
  tallies_told =
      let head = A₀ ++ A₁ in
      let e : saved_words n s ≡ head ++ (A₂ ++ (s.marks ++ A₄)) = parts ∙ simp append_assoc in
      let long : length head ≡ tallies_place W = rw length-append (omega (arith, counts_long, workers_long)) in
      rw (e, drop_at head (A₂ ++ (s.marks ++ A₄)) (tallies_place W) long) (take_at A₂ (s.marks ++ A₄) (8 * W) tallies_long)

  -- the words of the counts
  pub counts_told : take 12 (drop 1 (saved_words n s)) ≡ laid two_words (count_words s.counts)
  unfolding saved_words laid
  counts_told = refl

  ring_back : ring_in W (saved_words n s) ≡ s.ring
  unfolding saved_words laid
  ring_back =
      let r = s.ring in
      rw (
        colour_back r.token,
        listing_is (λ (b : ℕ). colour_from (black_set r.colours / 2 ^ b % 2)) white 0 W r.colours X.sized.colours_length
            (λ (b : ℕ) (h : b < W). rw (zero-add b, set_at r.colours b) (colour_back (get_or r.colours b white))),
      )
      refl

  -- the marks
  pub marks_told : take n (drop (marks_place W) (saved_words n s)) ≡ s.marks
  unfolding laid
  marks_told =
      let head = A₀ ++ (A₁ ++ A₂) in
      let e : saved_words n s ≡ head ++ (s.marks ++ A₄) = parts ∙ simp append_assoc in
      let long : length head ≡ marks_place W = rw (length-append, length-append) (omega (arith, counts_long, workers_long, tallies_long)) in
      rw (e, drop_at head (s.marks ++ A₄) (marks_place W) long) (take_at s.marks A₄ n X.sized.marks_length)

  -- worker b's stretch
  pub stretch_told : (b : ℕ) → b < W → stretch_in n W (saved_words n s) b ≡ stretch n (worker s b)
  unfolding memory
  stretch_told b h =
      let head = A₀ ++ (A₁ ++ (A₂ ++ s.marks)) in
      let e : saved_words n s ≡ head ++ A₄ = parts ∙ simp append_assoc in
      let long : stretches_place n W + b * stretch_length n ≡ length head + b * stretch_length n =
      rw (length-append, length-append, length-append) (omega (arith, counts_long, workers_long, tallies_long, X.sized.marks_length)) in
      rw (e, long, drop-append-add head A₄ (b * stretch_length n))
      (laid_part (stretch n) (stretch_length n) ended s.workers b (λ (i : ℕ). stretch_length_lem n (worker s i) (X.room i)) (omega (arith, X.sized.workers_length)))

  -- all stretches, laid end to end
  pub stretches_told : drop (stretches_place n W) (saved_words n s) ≡ memory n s.workers
  unfolding laid
  stretches_told =
      let head = A₀ ++ (A₁ ++ (A₂ ++ s.marks)) in
      let e : saved_words n s ≡ head ++ A₄ = parts ∙ simp append_assoc in
      let long : length head ≡ stretches_place n W =
      rw (length-append, length-append, length-append) (omega (arith, counts_long, workers_long, tallies_long, X.sized.marks_length)) in
      rw e (drop_at head A₄ (stretches_place n W) long)

  module _ (supplied : (b : ℕ) → Supplied (worker s b)) (none : (b : ℕ) → 0 < carried_by (worker s b) → get_or s.rested b 0 ≡ 0) where
    worker_back : (b : ℕ) → b < W → worker_in n W (saved_words n s) (0 + b) ≡ get_or s.workers b ended
    worker_back b h =
        rw (zero-add b, worker_word_lem b 0 h (omega arith), worker_word_lem b 1 h (omega arith), worker_word_lem b 2 h (omega arith), worker_word_lem b 3 h (omega arith), stretch_told b h, runs_stretch n (worker s b))
        (worker_told (worker s b) (get_or s.rested b 0))

    rested_back : (b : ℕ) → b < W → rested_in (saved_words n s) (0 + b) ≡ get_or s.rested b 0
    rested_back b h =
        rw (zero-add b, worker_word_lem b 0 h (omega arith), worker_word_lem b 2 h (omega arith))
        (rested_told (worker s b) (get_or s.rested b 0) (supplied b) (none b))

    -- number k of worker b's tally
    tally_field : (b k : ℕ) → b < W → k < 4 → tally_number W (saved_words n s) b k ≡ get_or (tally_words (get_or s.tallies b no_tally)) k 0
    unfolding tallies_words
    tally_field b k h i =
        let place : tallies_place W + 8 * b + 2 * k ≡ tallies_place W + 2 * (b * 4 + k) = omega arith in
        rw place
        (number_told (b * 4 + k) (omega arith)
        ∙ laid_at tally_words 4 no_tally 0 s.tallies b k (λ (j : ℕ). refl) (omega (arith, X.sized.tallies_length)) i)

    tally_back : (b : ℕ) → b < W → tally_in W (saved_words n s) (0 + b) ≡ get_or s.tallies b no_tally
    tally_back b h =
        rw (zero-add b, tally_field b 0 h (omega arith), tally_field b 1 h (omega arith), tally_field b 2 h (omega arith), tally_field b 3 h (omega arith))
        refl

    -- the words tell of the state
    pub state_told : state_of n W (saved_words n s) ≡ s
    unfolding state_of
    state_told =
        rw (
          marks_told,
          listing_is (worker_in n W (saved_words n s)) ended 0 W s.workers X.sized.workers_length worker_back,
          listing_is (rested_in (saved_words n s)) 0 0 W s.rested X.sized.rested_length rested_back,
          ring_back,
          listing_is (tally_in W (saved_words n s)) no_tally 0 W s.tallies X.sized.tallies_length tally_back,
          count_told,
        )
        refl
