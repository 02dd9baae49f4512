-- The words of a tally raised are those of the machine's tally raised, and none of them wraps.
use mathlib.Core.Path.{◌≡◌, refl, sym, ap, ◌∙◌}
use mathlib.Core.List.{List, [], ◌∷◌, ◌++◌}
use Prim.Native.Nat.{ℕ, zero, suc, ◌+◌, ◌≤◌, ◌<◌}
use native.Mathlib.Omega.{arith}
use lib.ListN.{length, get_or, set}
use Rattle.laws.proofs.Blocks.{Around, around, length_laid}
use Rattle.laws.proofs.Sum.{sum_share}
use Rattle.graph.specs.Graph.{Graph}
use Rattle.machine.specs.Tally.{Tally, no_tally, add_tally, tallied, tally_words, tallies_words}
use Rattle.machine.specs.Machine.{State}
use Rattle.theorems.proofs.Facts.{followed_limit}
use Rattle.step.specs.declared.Setup.{Setup}
use Rattle.step.specs.Held.{Memory, Holds, Scene}
use Rattle.step.specs.Raising.{tally_at, Raisable, raised_words}
use Rattle.step.proofs.Bounds.{workers_limit}

-- a store and a read behind what stands before
set_mid : (pre xs : List ℕ) (i j v : ℕ) → i ≡ length pre + j → set (pre ++ xs) i v ≡ pre ++ set xs j v
set_mid [] xs i j v e = ap (λ (k : ℕ). set xs k v) (omega (arith, e))
set_mid (x ∷ pre) xs zero j v e = absurd (omega arith)
set_mid (x ∷ pre) xs (suc i) j v e = ap (λ (l : List ℕ). x ∷ l) (set_mid pre xs i j v (omega arith))

get_mid : (pre xs : List ℕ) (i j : ℕ) → i ≡ length pre + j → get_or (pre ++ xs) i 0 ≡ get_or xs j 0
get_mid [] xs i j e = ap (λ (k : ℕ). get_or xs k 0) (omega (arith, e))
get_mid (x ∷ pre) xs zero j e = absurd (omega arith)
get_mid (x ∷ pre) xs (suc i) j e = get_mid pre xs i j (omega arith)

module _ (ts : List Tally) (b : ℕ) (low : b < length ts) where
  near : Around tally_words ts b 4 no_tally
  near = around tally_words 4 no_tally ts b (λ (i : ℕ). refl) low

  abbrev t : Tally
  t = get_or ts b no_tally

  words : tallies_words ts ≡ near.pre ++ (t.followed ∷ t.won ∷ t.lost ∷ t.handed ∷ near.post)
  unfolding tallies_words
  words = near.is

  place : (k : ℕ) → tally_at b + k ≡ length near.pre + k
  place k = omega (arith, near.long)

  -- its words
  pub word_at : (k : ℕ) → k < 4 → get_or (tallies_words ts) (tally_at b + k) 0 ≡ get_or (tally_words t) k 0
  word_at k l = rw words (get_mid near.pre _ (tally_at b + k) k (place k) ∙ by k l)
    where
      by : (k : ℕ) → k < 4 → get_or (tally_words t ++ near.post) k 0 ≡ get_or (tally_words t) k 0
      by zero l = refl
      by (suc zero) l = refl
      by (suc (suc zero)) l = refl
      by (suc (suc (suc zero))) l = refl
      by (suc (suc (suc (suc k)))) l = absurd (omega arith)

  word_followed : get_or (tallies_words ts) (tally_at b) 0 ≡ t.followed
  word_followed = let z : tally_at b + 0 ≡ tally_at b = omega arith in rw z at (word_at 0 (omega arith))

  -- stored one after the other
  stores : (ws : List ℕ) → ws ≡ near.pre ++ (t.followed ∷ t.won ∷ t.lost ∷ t.handed ∷ near.post) → (f w l h : ℕ)
      → set (set (set (set ws (tally_at b) f) (tally_at b + 1) w) (tally_at b + 2) l) (tally_at b + 3) h
      ≡ near.pre ++ (f ∷ w ∷ l ∷ h ∷ near.post)
  stores ws e f w l h =
      let at = tally_at b in
      ap (λ (x : List ℕ). set (set (set (set x at f) (at + 1) w) (at + 2) l) (at + 3) h) e
      ∙ ap (λ (x : List ℕ). set (set (set x (at + 1) w) (at + 2) l) (at + 3) h) (set_mid near.pre (t.followed ∷ t.won ∷ t.lost ∷ t.handed ∷ near.post) at 0 f (omega (arith, near.long)))
      ∙ ap (λ (x : List ℕ). set (set x (at + 2) l) (at + 3) h) (set_mid near.pre (f ∷ t.won ∷ t.lost ∷ t.handed ∷ near.post) (at + 1) 1 w (place 1))
      ∙ ap (λ (x : List ℕ). set x (at + 3) h) (set_mid near.pre (f ∷ w ∷ t.lost ∷ t.handed ∷ near.post) (at + 2) 2 l (place 2))
      ∙ set_mid near.pre (f ∷ w ∷ l ∷ t.handed ∷ near.post) (at + 3) 3 h (place 3)

  pub raised : (y : Tally) → raised_words (tallies_words ts) b y ≡ tallies_words (tallied ts b y)
  unfolding tallies_words
  raised y =
      stores (tallies_words ts) words _ _ _ _
      ∙ rw (word_followed, word_at 1 (omega arith), word_at 2 (omega arith), word_at 3 (omega arith)) (sym (near.put (add_tally t y)))

  pub words_room : tally_at b + 4 ≤ length (tallies_words ts)
  unfolding tallies_words
  words_room = omega (arith, length_laid tally_words 4 no_tally ts (λ (i : ℕ). refl))

-- ---- of a state that is held

module _ {G : Graph} {g : Setup} {s : State} {μ : Memory} (c : Scene G g s) (h : Holds G g s μ) (b : ℕ) (low : b < g.workers) where
  pub there : b < length s.tallies
  there = omega (arith, c.sound.sized.tallies_length)

  pub raisable : (y : Tally) → y.followed ≤ 1 → y.won ≤ 1 → y.lost ≤ 1 → y.handed ≤ 1 → Raisable μ.tallies b y
  raisable y f w l d =
      let n = c.sound in
      let few = followed_limit c.accepted n in
      let most = sum_share (λ (t : Tally). t.followed) no_tally refl s.tallies b in
      let gave = sum_share (λ (t : Tally). t.handed) no_tally refl s.tallies b in
      rw h.tallies_are
      (record {
        low = omega (arith, workers_limit c);
        room = words_room s.tallies b there;
        followed = omega (arith, word_followed s.tallies b there, most, n.tallies_followed, few, c.references_limit);
        won = omega (arith, word_at s.tallies b there 1 (omega arith), n.tallies_claims b, most, n.tallies_followed, few, c.references_limit);
        lost = omega (arith, word_at s.tallies b there 2 (omega arith), n.tallies_claims b, most, n.tallies_followed, few, c.references_limit);
        handed = omega (arith, word_at s.tallies b there 3 (omega arith), gave, n.tallies_handed, c.handed_room);
      })

  -- the words afterwards are the raised tallies'
  pub raised_held : (y : Tally) → raised_words μ.tallies b y ≡ tallies_words (tallied s.tallies b y)
  raised_held y = rw h.tallies_are (raised s.tallies b there y)
