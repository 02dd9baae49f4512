-- The saved words are written part by part, from their beginning.
use mathlib.Core.Path.{◌≡◌, refl, ap, sym, subst, ◌∙◌}
use mathlib.Core.List.{List, [], ◌∷◌, ◌++◌, append_assoc}
use Prim.Native.Nat.{ℕ, suc, ◌+◌, ◌-◌, ◌*◌, ◌≤◌, ◌<◌}
use native.Mathlib.Omega.{arith}
use lib.ListN.{length, set, take, drop, length-append, length-set, length-drop}
use lib.Seq.{take_at, take_all, take-suc-set}
use Rattle.laws.specs.Blocks.{laid}
use Rattle.desk.specs.Lengths.{stretch_length, tally_word_count, saved_form, counts_place, ring_place, workers_place, tallies_place, marks_place, stretches_place, saved_length}
use Rattle.machine.specs.declared.Counts.{Counts}
use Rattle.machine.specs.Row.{count_words}
use Rattle.machine.specs.Tally.{tallies_words}
use Rattle.machine.specs.Machine.{State, Worker, memory}
use Rattle.saved.specs.Layout.{two_words, workers_words, saved_words}
use Rattle.saved_theorems.proofs.RoundTrip.{workers_long, tallies_count, tallies_long, stretches_long}
use Rattle.theorems.proofs.Colours.{shade_limit, set_limit}
use Rattle.step.specs.declared.ring.Ring.{Ring}
use Rattle.step.specs.Ringing.{ring_of}
use Rattle.step.specs.Counting.{Countable, counts_of}
use Rattle.step.specs.Held.{Memory}
use Rattle.checkpoint.specs.Saving.{placed, Begins, head_words, Narrow, Savable}
use lib.Pow.{pow_mono}

-- a part written behind the beginning makes it longer
pub begins_more : {n : ℕ} {pre l : List ℕ} → Begins n pre l → (part : List ℕ) (a : ℕ) → length pre ≡ a → a + length part ≤ n
    → Begins n (pre ++ part) (placed a part l)
begins_more {n} {pre} {l} b part a at room =
    let front : take a l ≡ pre = rw (← at) b.is in
    let tail = drop (length part) (drop a l) in
    record {
      long = rw (front, length-append, length-append, length-drop, length-drop) (omega (arith, b.long, at, room));
      is =
          rw (front, length-append, ← append_assoc pre part tail, ← length-append pre part)
          (take_at (pre ++ part) tail (length (pre ++ part)) refl);
    }

-- the same of a list that is that, and a part that is another
pub begins_next : {n : ℕ} {pre l l' part : List ℕ} → Begins n pre l → (part' : List ℕ) (a : ℕ) → l' ≡ placed a part l → part ≡ part'
    → length pre ≡ a → a + length part' ≤ n → Begins n (pre ++ part') l'
begins_next b part' a e q at room = rw (e, q) (begins_more b part' a at room)

-- all of it
pub begins_all : {n : ℕ} {pre l : List ℕ} → Begins n pre l → length pre ≡ n → l ≡ pre
begins_all {n} {pre} {l} b e = sym (take_all (length pre) l (omega (arith, b.long, e))) ∙ b.is

-- the first word
pub begins_one : (n x : ℕ) (l : List ℕ) → length l ≡ n → 0 < n → Begins n (x ∷ []) (set l 0 x)
begins_one n x [] e h = absurd (omega (arith, e))
begins_one n x (y ∷ l) e h = record { long = e; is = refl }

-- one word behind the beginning
pub begins_word : {n : ℕ} {pre l : List ℕ} → Begins n pre l → (x a : ℕ) → length pre ≡ a → a < n → Begins n (pre ++ (x ∷ [])) (set l a x)
begins_word {n} {pre} {l} b x a at room =
    let front : take a l ≡ pre = rw (← at) b.is in
    let d : a + 1 ≡ suc a = omega arith in
    record {
      long = length-set l a x ∙ b.long;
      is = rw (length-append, at, d, take-suc-set l a x (omega (arith, b.long)), front) refl;
    }

-- the head: the form, the counts, and the ring's three words
pub begins_counts : (w : List ℕ) {l numbers : List ℕ} (c : Counts) → workers_place ≤ length w → l ≡ placed counts_place (laid two_words numbers) (set w 0 saved_form)
    → numbers ≡ count_words c → Begins (length w) (saved_form ∷ laid two_words (count_words c)) l
unfolding laid
begins_counts w c long e q =
    begins_next (begins_one (length w) saved_form w refl (omega arith)) (laid two_words (count_words c)) counts_place e (ap (laid two_words) q) refl (omega arith)

pub begins_head : (w : List ℕ) {l numbers : List ℕ} (c : Counts) (r : Ring) → workers_place ≤ length w → l ≡ placed counts_place (laid two_words numbers) (set w 0 saved_form)
    → numbers ≡ count_words c → Begins (length w) (head_words c r) (set (set (set l ring_place r.holder) (ring_place + 1) r.token) (ring_place + 2) r.black)
unfolding laid
begins_head w c r long e q =
    let counted = begins_counts w c long e q in
    let holder = begins_word counted r.holder ring_place refl (omega arith) in
    let token = begins_word holder r.token (ring_place + 1) refl (omega arith) in
    begins_word token r.black (ring_place + 2) refl (omega arith)

-- ---- the parts, one after the other

module _ {W : ℕ} {μ : Memory} {w : List ℕ} (x : Savable W μ w) where
  abbrev n : ℕ
  n = x.objects

  abbrev s : State
  s = x.state

  abbrev N : ℕ
  N = saved_length n W

  abbrev A₀ : List ℕ
  A₀ = head_words s.counts (ring_of s.ring)

  abbrev A₁ : List ℕ
  A₁ = A₀ ++ workers_words s.workers s.rested

  abbrev A₂ : List ℕ
  A₂ = A₁ ++ laid two_words (tallies_words s.tallies)

  abbrev A₃ : List ℕ
  A₃ = A₂ ++ s.marks

  pub tallies_many : length μ.tallies ≡ tally_word_count * W
  tallies_many = ap length x.tallies_are ∙ tallies_count x.shaped

  pub work_long : length μ.work ≡ W * stretch_length n
  work_long = ap length x.work_is ∙ stretches_long x.shaped

  pub room : stretches_place n W ≤ length w
  room = omega (arith, x.long)

  A₀Long : length A₀ ≡ workers_place
  unfolding laid
  A₀Long = refl

  A₁Long : length A₁ ≡ tallies_place W
  A₁Long = rw length-append (omega (arith, A₀Long, workers_long x.shaped))

  A₂Long : length A₂ ≡ marks_place W
  A₂Long = rw length-append (omega (arith, A₁Long, tallies_long x.shaped))

  A₃Long : length A₃ ≡ stretches_place n W
  A₃Long = rw length-append (omega (arith, A₂Long, x.shaped.sized.marks_length))

  -- the ring's numbers are words
  pub narrow : Narrow μ.progress.ring
  narrow =
      rw x.ring_is
      (record {
        holder = omega (arith, x.holder_low, x.few);
        token = omega (arith, shade_limit s.ring.token);
        black =
            omega (
              arith,
              set_limit s.ring.colours,
              pow_mono {i = length s.ring.colours} {j = 32} (omega (arith, x.shaped.sized.colours_length, x.few)),
            );
      })

  -- ---- what is written after each part

  module _ {c : Counts} (made : (y : Countable μ.tallies W μ.progress) → c ≡ counts_of μ.progress y.tallies) {l₁ : List ℕ}
      (b₁ : Begins (length w) (head_words c μ.progress.ring) l₁) where
    counted : Begins N A₀ l₁
    counted =
        let heads : head_words c μ.progress.ring ≡ A₀ =
        ap (λ (d : Counts). head_words d μ.progress.ring) (made x.countable ∙ x.counts_are) ∙ ap (λ (q : Ring). head_words s.counts q) x.ring_is in
        subst (λ (k : ℕ). Begins k A₀ l₁) x.long (subst (λ (pre : List ℕ). Begins (length w) pre l₁) heads b₁)

    module _ {l₂ : List ℕ} (e₂ : l₂ ≡ placed workers_place (workers_words x.recorded.workers x.recorded.rested) l₁) where
      recorded : Begins N A₁ l₂
      recorded =
          begins_next counted (workers_words s.workers s.rested) workers_place e₂
          (ap (λ (ws : List Worker). workers_words ws x.recorded.rested) x.workers_are
          ∙ ap (λ (ns : List ℕ). workers_words s.workers ns) x.rested_are)
          A₀Long
          (omega (arith, workers_long x.shaped))

      pub long₂ : length l₂ ≡ length w
      long₂ = omega (arith, recorded.long, x.long)

      module _ {a₃ : ℕ} (p₃ : a₃ ≡ tallies_place W) {l₃ : List ℕ} (e₃ : l₃ ≡ placed a₃ (laid two_words μ.tallies) l₂) where
        tallied : Begins N A₂ l₃
        tallied =
            begins_next recorded (laid two_words (tallies_words s.tallies)) a₃ e₃ (ap (laid two_words) x.tallies_are) (A₁Long ∙ sym p₃)
            (omega (arith, p₃, tallies_long x.shaped))

        module _ {a₄ : ℕ} (p₄ : a₄ ≡ marks_place W) {l₄ : List ℕ} (e₄ : l₄ ≡ placed a₄ μ.marks l₃) where
          marked : Begins N A₃ l₄
          marked = begins_next tallied s.marks a₄ e₄ x.marks_are (A₂Long ∙ sym p₄) (omega (arith, p₄, x.shaped.sized.marks_length))

          pub long₄ : length l₄ ≡ length w
          long₄ = omega (arith, marked.long, x.long)

          -- the last part
          pub all_written : {l₅ : List ℕ} → l₅ ≡ placed (length l₄ - length μ.work) μ.work l₄ → l₅ ≡ saved_words n s
          unfolding saved_words
          all_written e₅ =
              let last : length l₄ - length μ.work ≡ stretches_place n W = omega (arith, long₄, x.long, work_long) in
              let b = begins_next marked (memory n s.workers) _ e₅ x.work_is (A₃Long ∙ sym last) (omega (arith, last, stretches_long x.shaped)) in
              begins_all b (rw length-append (omega (arith, A₃Long, stretches_long x.shaped))) ∙ simp append_assoc
