-- Laws of the workers' words: four words written for each worker, and the pairs of a stretch gone over.
use mathlib.Core.Path.{◌≡◌, refl, ap, sym, ◌∙◌}
use mathlib.Core.List.{List, [], ◌∷◌, ◌++◌}
use Prim.Native.Nat.{ℕ, suc, ◌+◌, ◌-◌, ◌*◌, ◌≤◌, ◌<◌}
use native.Mathlib.Omega.{arith}
use lib.ListN.{length, get_or, set, drop, length-set, length-append, length-drop}
use lib.Seq.{drop-cons}
use borrow.Author.Tests.{lt-ltb, le-ltb}
use Rattle.laws.specs.Sum.{sum}
use Rattle.laws.proofs.Sum.{sum_append}
use Rattle.laws.proofs.Filling.{Filled, filled_none, filled_next, filled_all}
use Rattle.machine.specs.Run.{run, size, carried}
use Rattle.worker.specs.Registers.{block_at}
use Rattle.saved.specs.Layout.{workers_words, runs_in}
use Rattle.saved_theorems.proofs.RoundTrip.{workers_word, workers_length}
use Rattle.checkpoint.specs.Workers.{words_of, listed, Recorded, Measured}

-- ---- written

module _ {regs : List ℕ} {W : ℕ} (x : Recorded regs W) where
  -- the words of the first b workers are written
  pub record Putting (b : ℕ) (out : List ℕ) : Type 0 where
    pub filled : Filled (workers_words x.workers x.rested) (4 * b) out
    pub long : length out ≡ 4 * W

  words_long : length (workers_words x.workers x.rested) ≡ 4 * W
  words_long = workers_length x.workers x.rested ∙ ap (λ (m : ℕ). 4 * m) x.count

  pub putting_none : {out : List ℕ} → length out ≡ 4 * W → Putting 0 out
  putting_none {out} e = record { filled = filled_none (workers_words x.workers x.rested) out (omega (arith, e, words_long)); long = e }

  -- word k of worker b
  word_at : (b k : ℕ) → b < W → k < 4 → get_or (listed (words_of (block_at regs b))) k 0 ≡ get_or (workers_words x.workers x.rested) (4 * b + k) 0
  word_at b k h i = ap (λ (l : List ℕ). get_or l k 0) (x.each b h) ∙ sym (workers_word x.workers x.rested b k (omega (arith, x.count)) i)

  pub putting_next : {b : ℕ} {out : List ℕ} → Putting b out → b < W → let w = words_of (block_at regs b) in
      Putting (b + 1) (set (set (set (set out (4 * b) w.status) (4 * b + 1) w.cell) (4 * b + 2) w.since) (4 * b + 3) w.batch)
  putting_next {b} {out} p h =
      let w = words_of (block_at regs b) in
      let long = words_long in
      let e₀ : 4 * b + 0 ≡ 4 * b = omega arith in
      let e₂ : 4 * b + 1 + 1 ≡ 4 * b + 2 = omega arith in
      let e₃ : 4 * b + 2 + 1 ≡ 4 * b + 3 = omega arith in
      let e₄ : 4 * b + 3 + 1 ≡ 4 * (b + 1) = omega arith in
      let f₁ = filled_next p.filled (omega arith) w.status (rw e₀ at (word_at b 0 h (omega arith))) in
      let f₂ = rw e₂ at (filled_next f₁ (omega arith) w.cell (word_at b 1 h (omega arith))) in
      let f₃ = rw e₃ at (filled_next f₂ (omega arith) w.since (word_at b 2 h (omega arith))) in
      let f₄ = rw e₄ at (filled_next f₃ (omega arith) w.batch (word_at b 3 h (omega arith))) in
      record { filled = f₄; long = simp length-set p.long }

  pub putting_all : {b : ℕ} {out : List ℕ} → Putting b out → W ≤ b → out ≡ workers_words x.workers x.rested
  putting_all p h = filled_all p.filled (omega (arith, words_long))

-- ---- gone over

-- so many words, with so many references, are gone over; what is left makes the rest
pub record Going (s : List ℕ) (words references : ℕ) : Type 0 where
  pub words_are : words + 2 * length (runs_in (drop words s)) ≡ 2 * length (runs_in s)
  pub references_are : references + carried (runs_in (drop words s)) ≡ carried (runs_in s)

module _ {s : List ℕ} {k c : ℕ} (x : Going s k c) where
  -- the next two words
  two : k + 1 < length s → drop k s ≡ get_or s k 0 ∷ get_or s (k + 1) 0 ∷ drop (k + 2) s
  two h =
      let e : suc k ≡ k + 1 = omega arith in
      let d : suc (k + 1) ≡ k + 2 = omega arith in
      drop-cons s k 0 (omega arith) ∙ rw e (ap (λ (l : List ℕ). get_or s k 0 ∷ l) (drop-cons s (k + 1) 0 (omega arith) ∙ rw d refl))

  pub going_next : k + 1 < length s → get_or s k 0 < get_or s (k + 1) 0 → Going s (k + 2) (c + (get_or s (k + 1) 0 - get_or s k 0))
  unfolding runs_in carried sum
  going_next h p =
      let f = get_or s k 0 in
      let e = get_or s (k + 1) 0 in
      let l = runs_in (drop (k + 2) s) in
      let step : runs_in (drop k s) ≡ l ++ (run f (e - suc f) ∷ []) = rw (two h, lt-ltb f e p) refl in
      let many = ap length step in
      let most = ap carried step in
      record {
        words_are = omega (arith, x.words_are, many, length-append l (run f (e - suc f) ∷ []));
        references_are = omega (arith, x.references_are, most, sum_append size l (run f (e - suc f) ∷ []));
      }

  pub going_stop : k + 1 < length s → get_or s (k + 1) 0 ≤ get_or s k 0 → Measured s k c
  unfolding runs_in carried sum
  going_stop h p =
      let none : runs_in (drop k s) ≡ [] = rw (two h, le-ltb (get_or s k 0) (get_or s (k + 1) 0) p) refl in
      record {
        words_are = omega (arith, x.words_are, ap length none);
        references_are = omega (arith, x.references_are, ap carried none);
      }

  pub going_end : length s ≤ k + 1 → Measured s k c
  unfolding runs_in carried sum
  going_end h =
      let none = short (drop k s) (rw length-drop (omega arith)) in
      record {
        words_are = omega (arith, x.words_are, ap length none);
        references_are = omega (arith, x.references_are, ap carried none);
      }
    where
      short : (l : List ℕ) → length l ≤ 1 → runs_in l ≡ []
      short [] q = refl
      short (f ∷ []) q = refl
      short (f ∷ e ∷ l) q = absurd (omega arith)
