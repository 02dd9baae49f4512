-- The registers block by block: what a store leaves in the block itself, and that it leaves the others alone.
use mathlib.Core.Path.{◌≡◌, refl, sym, ap, ◌∙◌, subst}
use mathlib.Core.Bool.{Bool, true, false}
use mathlib.Core.Logic.{◌≢◌, ◌⊎◌, inl, inr, ⊎_elim, by_cases}
use mathlib.Core.List.{List, [], ◌∷◌, ◌++◌, append_assoc}
use Prim.Native.Nat.{ℕ, ◌+◌, ◌-◌, ◌*◌, ◌≤◌, ◌<◌}
use native.Mathlib.Decide.{dec_lt}
use native.Mathlib.Omega.{arith}
use borrow.Author.Tests.{eqb-true, eqb-false}
use lib.ListN.{length, get_or, take, drop, length-append, length-set, get_or-append}
use lib.Dec.{eqb}
use lib.Seq.{sets-eq, length-sets, get_or-set_same, get_or-set_other, get_or-take, get_or-drop, length-take-le}
use Rattle.laws.specs.Choice.{pick}
use Rattle.laws.specs.Every.{Every}
use Rattle.laws.proofs.Stores.{get_or_past}
use Rattle.worker.specs.declared.registers.Block.{Block}
use Rattle.worker.specs.Registers.{block_at, words, store_at, put_at, Word, puts_at, Stored}

-- the block with one word changed
abbrev pub replaced : ℕ → ℕ → Block → Block
replaced i x r =
    record {
      status = pick (eqb i 0) x r.status;
      batch = pick (eqb i 1) x r.batch;
      cell = pick (eqb i 2) x r.cell;
      since = pick (eqb i 3) x r.since;
      carried = pick (eqb i 4) x r.carried;
      used = pick (eqb i 5) x r.used;
      first = pick (eqb i 6) x r.first;
      end = pick (eqb i 7) x r.end;
      target = pick (eqb i 8) x r.target;
    }

-- a block that agrees word by word
block_from : (regs regs' : List ℕ) (a : ℕ) → ((j : ℕ) → j < 9 → get_or regs' (9 * a + j) 0 ≡ get_or regs (9 * a + j) 0)
    → get_or regs' (9 * a) 0 ≡ get_or regs (9 * a) 0 → block_at regs' a ≡ block_at regs a
block_from regs regs' a h z =
    rw (z, h 1 (omega arith), h 2 (omega arith), h 3 (omega arith), h 4 (omega arith), h 5 (omega arith), h 6 (omega arith), h 7 (omega arith), h 8 (omega arith))

module _ (regs : List ℕ) (b : ℕ) (room : 9 * b + 9 ≤ length regs) where
  -- ---- one word

  module _ (i x : ℕ) (low : i < 9) where
    put_word : (j k : ℕ) → k ≡ 9 * b + j → get_or (put_at regs b i x) k 0 ≡ pick (eqb i j) x (get_or regs k 0)
    put_word j k e = by (eqb i j) refl
      where
        by : (t : Bool) → eqb i j ≡ t → get_or (put_at regs b i x) k 0 ≡ pick t x (get_or regs k 0)
        by true q = let p = eqb-true i j q in rw (e, ← p) (get_or-set_same regs (9 * b + i) x 0 (omega arith))
        by false q = get_or-set_other regs (9 * b + i) k x 0 (λ p. eqb-false i j q (omega arith))

    pub put_stored : Stored regs b (replaced i x (block_at regs b)) (put_at regs b i x)
    put_stored =
        record {
          long = simp length-set;
          here = rw (put_word 0 (9 * b) (omega arith), put_word 1 _ refl, put_word 2 _ refl, put_word 3 _ refl, put_word 4 _ refl, put_word 5 _ refl, put_word 6 _ refl, put_word 7 _ refl, put_word 8 _ refl);
          others = λ a h.
              block_from regs (put_at regs b i x) a
              (λ j l. get_or-set_other regs (9 * b + i) (9 * a + j) x 0 (λ e. h (omega arith)))
              (get_or-set_other regs (9 * b + i) (9 * a) x 0 (λ e. h (omega arith)));
        }

  -- ---- a whole block

  -- the words around the block
  split_words : (r : Block) → store_at regs b r ≡ take (9 * b) regs ++ (words r ++ drop (9 * b + 9) regs)
  split_words r = sets-eq (words r) regs (9 * b) (omega arith) ∙ append_assoc (take (9 * b) regs) (words r) (drop (9 * b + 9) regs)

  front_long : length (take (9 * b) regs) ≡ 9 * b
  front_long = length-take-le (9 * b) regs (omega arith)

  module _ (r : Block) where
    inside : (j : ℕ) → get_or (store_at regs b r) (9 * b + j) 0 ≡ get_or (words r ++ drop (9 * b + 9) regs) j 0
    inside j = rw (split_words r) (get_or_past (take (9 * b) regs) _ (9 * b) j 0 front_long)

    outside : (k : ℕ) → (k < 9 * b) ⊎ (9 * b + 9 ≤ k) → get_or (store_at regs b r) k 0 ≡ get_or regs k 0
    outside k (inl h) =
        rw (split_words r)
        (get_or-append (take (9 * b) regs) _ 0 k (omega (arith, front_long)) ∙ get_or-take (9 * b) regs k 0 h)
    outside k (inr h) =
        let e : k ≡ 9 * b + 9 + (k - (9 * b + 9)) = omega arith in
        let p = take (9 * b) regs ++ words r in
        let long : length p ≡ 9 * b + 9 = rw length-append (omega (arith, front_long)) in
        rw (split_words r, ← append_assoc)
        (ap (λ (i : ℕ). get_or (p ++ drop (9 * b + 9) regs) i 0) e
        ∙ get_or_past p _ (9 * b + 9) (k - (9 * b + 9)) 0 long
        ∙ get_or-drop (9 * b + 9) regs (k - (9 * b + 9)) 0
        ∙ ap (λ (i : ℕ). get_or regs i 0) (sym e))

    pub store_stored : Stored regs b r (store_at regs b r)
    store_stored =
        record {
          long = length-sets regs (9 * b) (words r);
          here =
              let z : 9 * b ≡ 9 * b + 0 = omega arith in
              rw (ap (λ (i : ℕ). get_or (store_at regs b r) i 0) z ∙ inside 0, inside 1, inside 2, inside 3, inside 4, inside 5, inside 6, inside 7, inside 8);
          others = λ a h.
              block_from regs (store_at regs b r) a (λ j l. outside (9 * a + j) (apart a h j l)) (outside (9 * a) (side a h));
        }
      where
        apart : (a : ℕ) → a ≢ b → (j : ℕ) → j < 9 → (9 * a + j < 9 * b) ⊎ (9 * b + 9 ≤ 9 * a + j)
        apart a h j l =
            by_cases (dec_lt a b) (λ (p : a < b). inl (omega arith)) (λ (p : ¬ (a < b)). inr (omega (arith, above a p h)))
          where
            above : (a : ℕ) → ¬ (a < b) → a ≢ b → b < a
            above a p h = omega (arith, p, h)

        side : (a : ℕ) → a ≢ b → (9 * a < 9 * b) ⊎ (9 * b + 9 ≤ 9 * a)
        side a h = let q = apart a h 0 (omega arith) in ⊎_elim (λ (p : 9 * a + 0 < 9 * b). inl (omega arith)) (λ (p : 9 * b + 9 ≤ 9 * a + 0). inr (omega arith)) q

-- ---- some words

-- two stores in one block are one
pub stored_then : {regs regs₁ regs₂ : List ℕ} {b : ℕ} {r r' : Block} → Stored regs b r regs₁ → Stored regs₁ b r' regs₂ → Stored regs b r' regs₂
stored_then p q =
    record { long = q.long ∙ p.long; here = q.here; others = λ a h. q.others a h ∙ p.others a h }

-- the block with some words changed
abbrev pub replaced_all : List Word → Block → Block
replaced_all [] r = r
replaced_all (w ∷ ws) r = replaced_all ws (replaced w.place w.value r)

pub puts_stored : (regs : List ℕ) (b : ℕ) → 9 * b + 9 ≤ length regs → (ws : List Word) → Every (λ (w : Word). w.place < 9) ws
    → Stored regs b (replaced_all ws (block_at regs b)) (puts_at regs b ws)
puts_stored regs b room [] low = record { long = refl; here = refl; others = λ a h. refl }
puts_stored regs b room (w ∷ ws) low =
    let st = put_stored regs b room w.place w.value low.0 in
    let more = puts_stored (put_at regs b w.place w.value) b (omega (arith, st.long)) ws low.1 in
    let regs₁ = put_at regs b w.place w.value in
    stored_then st (subst (λ (r : Block). Stored regs₁ b (replaced_all ws r) (puts_at regs₁ b ws)) st.here more)
