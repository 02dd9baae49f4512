-- Blocks of one width laid end to end: what stands around block b, and the list with another block in its place.
use mathlib.Core.Path.{◌≡◌, refl, sym, ap, ◌∙◌}
use mathlib.Core.List.{List, [], ◌∷◌, ◌++◌, append_assoc}
use Prim.Native.Nat.{ℕ, zero, suc, ◌+◌, ◌*◌, ◌<◌}
use native.Mathlib.Nat.{zero-mul, suc-mul}
use native.Mathlib.Omega.{arith}
use lib.ListN.{length, get_or, set, take, drop, replicate, length-append, length-drop, take-append-drop, replicate-append-replicate}
use lib.Seq.{drop-drop, drop_at, take_at, get_or-take, get_or-drop}
use Rattle.laws.specs.Blocks.{laid}

-- what stands before block b and behind it
pub record Around {A B : Type 0} (f : A → List B) (l : List A) (b w : ℕ) (d : A) : Type 0 where
  pub pre : List B
  pub post : List B
  pub long : length pre ≡ b * w
  pub is : laid f l ≡ pre ++ (f (get_or l b d) ++ post)
  pub put : (y : A) → laid f (set l b y) ≡ pre ++ (f y ++ post)

module _ {A B : Type 0} (f : A → List B) (w : ℕ) (d : A) where
  pub around : (l : List A) (b : ℕ) → ((i : ℕ) → length (f (get_or l i d)) ≡ w) → b < length l → Around f l b w d
  unfolding laid
  around [] b each h = absurd (omega arith)
  around (x ∷ l) zero each h =
      record { pre = []; post = laid f l; long = rw zero-mul refl; is = refl; put = λ (y : A). refl }
  around (x ∷ l) (suc b) each h =
      let r = around l b (λ (i : ℕ). each (suc i)) (omega arith) in
      record {
        pre = f x ++ r.pre;
        post = r.post;
        long = rw (length-append, suc-mul) (omega (arith, r.long, each 0));
        is = rw append_assoc (ap (λ (t : List B). f x ++ t) r.is);
        put = λ (y : A). rw append_assoc (ap (λ (t : List B). f x ++ t) (r.put y));
      }

  pub length_laid : (l : List A) → ((i : ℕ) → length (f (get_or l i d)) ≡ w) → length (laid f l) ≡ length l * w
  unfolding laid
  length_laid [] each = rw zero-mul
  length_laid (x ∷ l) each =
      rw (length-append, suc-mul) (omega (arith, each 0, length_laid l (λ (i : ℕ). each (suc i))))

  -- a list whose parts of that width are the blocks of some elements
  pub laid_parts : (l : List A) (xs : List B) → length xs ≡ length l * w
      → ((b : ℕ) → b < length l → take w (drop (b * w) xs) ≡ f (get_or l b d)) → xs ≡ laid f l
  unfolding laid
  laid_parts [] [] long parts = refl
  laid_parts [] (y ∷ xs) long parts = absurd (omega (arith, zero-mul w))
  laid_parts (x ∷ l) xs long parts =
      let first : take w xs ≡ f x = rw zero-mul at (parts 0 (omega arith)) in
      let rest : drop w xs ≡ laid f l =
      laid_parts l (drop w xs) (rw length-drop (omega (arith, suc-mul (length l) w, long)))
      (λ b h.
      let e : w + b * w ≡ suc b * w = omega (arith, suc-mul b w) in
      rw (drop-drop (b * w) w xs, e) (parts (suc b) (omega arith))) in
      sym (take-append-drop w xs) ∙ rw (first, rest)

-- blocks of one value
pub laid_replicate : {A B : Type 0} (f : A → List B) (x : A) (n w : ℕ) (v : B) → f x ≡ replicate w v
    → laid f (replicate n x) ≡ replicate (n * w) v
unfolding laid
laid_replicate f x zero w v e = rw zero-mul
laid_replicate f x (suc n) w v e =
    rw (e, laid_replicate f x n w v e, replicate-append-replicate, suc-mul)
    (let e : w + n * w ≡ n * w + w = omega arith in ap (λ (k : ℕ). replicate k v) e)

-- block b is a part of them
pub laid_part : {A B : Type 0} (f : A → List B) (w : ℕ) (d : A) (l : List A) (b : ℕ) → ((i : ℕ) → length (f (get_or l i d)) ≡ w)
    → b < length l → take w (drop (b * w) (laid f l)) ≡ f (get_or l b d)
laid_part f w d l b each h =
    let r = around f w d l b each h in
    rw (r.is, drop_at r.pre (f (get_or l b d) ++ r.post) (b * w) r.long, take_at (f (get_or l b d)) r.post w (each b))

-- and its elements stand there
pub laid_at : {A B : Type 0} (f : A → List B) (w : ℕ) (d : A) (e : B) (l : List A) (b k : ℕ) → ((i : ℕ) → length (f (get_or l i d)) ≡ w)
    → b < length l → k < w → get_or (laid f l) (b * w + k) e ≡ get_or (f (get_or l b d)) k e
laid_at {B = B} f w d e l b k each h i =
    sym (get_or-take w (drop (b * w) (laid f l)) k e i ∙ get_or-drop (b * w) (laid f l) k e)
    ∙ ap (λ (t : List B). get_or t k e) (laid_part f w d l b each h)

-- the blocks of two lists one behind the other
pub laid_append : {A B : Type 0} (f : A → List B) (s t : List A) → laid f (s ++ t) ≡ laid f s ++ laid f t
unfolding laid
laid_append f [] t = refl
laid_append {B = B} f (x ∷ s) t = ap (λ (l : List B). f x ++ l) (laid_append f s t) ∙ sym (append_assoc (f x) (laid f s) (laid f t))
