-- The work memory as stretches of L words: what a store in one of them leaves in it and in the others.
use mathlib.Core.Path.{◌≡◌, sym, ◌∙◌}
use mathlib.Core.Logic.{◌≢◌, ◌⊎◌, inl, inr, ⊎_elim, by_cases}
use mathlib.Core.List.{List, ◌++◌}
use Prim.Native.Nat.{ℕ, ◌+◌, ◌-◌, ◌*◌, ◌≤◌, ◌<◌}
use native.Mathlib.Nat.{mul-le-mul_right, suc-mul}
use native.Mathlib.Decide.{dec_lt}
use native.Mathlib.Omega.{arith}
use lib.ListN.{length, get_or, take, drop, length-append, length-take, length-drop, get_or-append}
use lib.Seq.{ext_get_or, get_or-take, get_or-drop, length-take-le, paste, length-paste, length_paste_head}
use Rattle.laws.proofs.Stores.{get_or_past}
use Rattle.worker.proofs.Copy.{paste_before, paste_after}
use Rattle.step.specs.Held.{stretch_at}

-- two stretches are apart
pub apart_whole : (L a b : ℕ) → a ≢ b → (a * L + L ≤ b * L) ⊎ (b * L + L ≤ a * L)
apart_whole L a b h =
    by_cases (dec_lt a b)
    (λ (p : a < b). inl (omega (arith, rw suc-mul at (mul-le-mul_right L p))))
    (λ (p : ¬ (a < b)). let q : b < a = omega (arith, p, h) in inr (omega (arith, rw suc-mul at (mul-le-mul_right L q))))

-- so are two places in them
pub apart : (L a b i : ℕ) → a ≢ b → i < L → (a * L + i < b * L) ⊎ (b * L + L ≤ a * L + i)
apart L a b i h l =
    ⊎_elim
    (λ (p : a * L + L ≤ b * L). inl (omega arith))
    (λ (p : b * L + L ≤ a * L). inr (omega arith))
    (apart_whole L a b h)

module _ (L : ℕ) where
  pub length_stretch : (b : ℕ) (work : List ℕ) → b * L + L ≤ length work → length (stretch_at L b work) ≡ L
  length_stretch b work h = length-take-le L (drop (b * L) work) (rw length-drop (omega arith))

  pub get_or_stretch : (b : ℕ) (work : List ℕ) (i : ℕ) → i < L → get_or (stretch_at L b work) i 0 ≡ get_or work (b * L + i) 0
  get_or_stretch b work i l = get_or-take L (drop (b * L) work) i 0 l ∙ get_or-drop (b * L) work i 0

  -- a stretch that agrees word by word
  pub same_stretch : (b : ℕ) (work work' : List ℕ) → length work' ≡ length work
      → ((i : ℕ) → i < L → get_or work' (b * L + i) 0 ≡ get_or work (b * L + i) 0) → stretch_at L b work' ≡ stretch_at L b work
  same_stretch b work work' long h =
      ext_get_or 0 (stretch_at L b work') (stretch_at L b work) (simp (length-take, length-drop, long))
      (λ i l.
      let low : i < L = omega (arith, rw length-take at l) in
      get_or_stretch b work' i low ∙ h i low ∙ sym (get_or_stretch b work i low))

  -- the work memory with one stretch written anew
  module _ (b : ℕ) (work part : List ℕ) (room : b * L + L ≤ length work) (long : length part ≡ L) (e : ℕ) (is : e ≡ b * L + L) where
    abbrev back : List ℕ
    back = take (b * L) work ++ (part ++ drop (e - b * L) (drop (b * L) work))

    front_long : length (take (b * L) work) ≡ b * L
    front_long = length-take-le (b * L) work (omega arith)

    pub length_back : length back ≡ length work
    length_back = rw (length-append, front_long, length-append, length-drop, length-drop) (omega (arith, long, is))

    pub back_here : stretch_at L b back ≡ part
    back_here =
        ext_get_or 0 (stretch_at L b back) part (length_stretch b back (omega (arith, length_back)) ∙ sym long)
        (λ i l.
        let low : i < L = omega (arith, length_stretch b back (omega (arith, length_back))) in
        get_or_stretch b back i low
        ∙ get_or_past (take (b * L) work) _ (b * L) i 0 front_long
        ∙ get_or-append part _ 0 i (omega (arith, long)))

    pub back_other : (a : ℕ) → a ≢ b → stretch_at L a back ≡ stretch_at L a work
    back_other a h =
        same_stretch a work back length_back
        (λ i l. ⊎_elim (before (a * L + i)) (behind (a * L + i)) (apart L a b i h l))
      where
        before : (k : ℕ) → k < b * L → get_or back k 0 ≡ get_or work k 0
        before k l = get_or-append (take (b * L) work) _ 0 k (omega (arith, front_long)) ∙ get_or-take (b * L) work k 0 l

        behind : (k : ℕ) → b * L + L ≤ k → get_or back k 0 ≡ get_or work k 0
        behind k l =
            let j = k - (b * L + L) in
            let n : k ≡ b * L + (L + j) = omega arith in
            let m : e - b * L ≡ L = omega (arith, is) in
            let q : b * L + (L + j) ≡ b * L + L + j = omega arith in
            rw n
            (get_or_past (take (b * L) work) _ (b * L) (L + j) 0 front_long
            ∙ get_or_past part _ L j 0 long
            ∙ rw m (get_or-drop L (drop (b * L) work) j 0 ∙ get_or-drop (b * L) work (L + j) 0))

  -- words copied from the beginning of stretch b to the beginning of stretch a
  module _ (b a : ℕ) (h : a ≢ b) (work : List ℕ) (count : ℕ) (few : count ≤ L) (from_room : b * L + L ≤ length work)
      (to_room : a * L + L ≤ length work) where
    abbrev copied : List ℕ
    copied = paste work (a * L) (drop (b * L) work) count

    source : count ≤ length (drop (b * L) work)
    source = rw length-drop (omega arith)

    pub length_copied : length copied ≡ length work
    length_copied = length-paste work (a * L) (drop (b * L) work) count (omega arith) source

    pub copied_here : take count (stretch_at L a copied) ≡ take count (stretch_at L b work)
    copied_here =
        let n : length (stretch_at L a copied) ≡ L = length_stretch a copied (omega (arith, length_copied)) in
        let n' : length (stretch_at L b work) ≡ L = length_stretch b work from_room in
        ext_get_or 0 _ _
        (length-take-le count (stretch_at L a copied) (omega (arith, n)) ∙ sym (length-take-le count (stretch_at L b work) (omega (arith, n'))))
        (λ i l.
        let low : i < count = omega (arith, length-take-le count (stretch_at L a copied) (omega (arith, n))) in
        get_or-take count (stretch_at L a copied) i 0 low
        ∙ get_or_stretch a copied i (omega arith)
        ∙ inside i low
        ∙ sym (get_or-take count (stretch_at L b work) i 0 low ∙ get_or_stretch b work i (omega arith)))
      where
        inside : (i : ℕ) → i < count → get_or copied (a * L + i) 0 ≡ get_or work (b * L + i) 0
        inside i l =
            get_or-append (take (a * L) work ++ take count (drop (b * L) work)) _ 0 (a * L + i)
            (omega (arith, length_paste_head work (a * L) (drop (b * L) work) count (omega arith) source))
            ∙ get_or_past (take (a * L) work) _ (a * L) i 0 (length-take-le (a * L) work (omega arith))
            ∙ get_or-take count (drop (b * L) work) i 0 l
            ∙ get_or-drop (b * L) work i 0

    pub copied_other : (c : ℕ) → c ≢ a → stretch_at L c copied ≡ stretch_at L c work
    copied_other c q =
        same_stretch c work copied length_copied
        (λ i l.
        ⊎_elim
        (λ (p : c * L + i < a * L). paste_before work (drop (b * L) work) (a * L) count (c * L + i) (omega arith) source p)
        (λ (p : a * L + L ≤ c * L + i). paste_after work (drop (b * L) work) (a * L) count (c * L + i) (omega arith) source (omega arith))
        (apart L c a i q l))
