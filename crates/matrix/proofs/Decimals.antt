-- Decimal digits of numbers: how many there are, and that they are written from the last to the first.
use mathlib.Core.Path.{◌≡◌, refl, ap, sym, ◌∙◌}
use mathlib.Core.Bool.{Bool, true, false}
use mathlib.Core.List.{List, [], ◌∷◌, ◌++◌, append_assoc, append-nil}
use Prim.Native.Nat.{ℕ, zero, suc, ◌+◌, ◌-◌, ◌/◌, ◌%◌, ◌^◌, ◌≤◌, ◌<◌}
use native.Mathlib.Nat.{add-zero, pow-suc, one-le-pow, mod-eq_of_lt}
use native.Mathlib.Omega.{arith}
use lib.ListN.{length, get_or, take, drop, set, length-append, length-set, take-append-drop}
use lib.Seq.{take-suc, set_at, length-take-le, drop-cons, get_or-set_same, drop-set-lt, take-set-le}
use lib.Dec.{ltb}
use borrow.Author.Tests.{lt-ltb, le-ltb, ltb-true, ltb-false}
use Rattle.slices.specs.Put.{Put}
use Rattle.text.specs.Text.{digits_in, decimal}
use Rattle.matrix.specs.Layout.{stopped}

-- one digit, and one digit behind others
pub one_digit : (k v : ℕ) → v < 10 → digits_in (suc k) v ≡ (48 + v) ∷ []
unfolding digits_in
one_digit k v h = rw (lt-ltb v 10 h)

pub more_digits : (k v : ℕ) → 10 ≤ v → digits_in (suc k) v ≡ digits_in k (v / 10) ++ ((48 + v % 10) ∷ [])
unfolding digits_in
more_digits k v h = rw (le-ltb v 10 h)

pub one_more : (k v : ℕ) → 10 ≤ v → length (digits_in (suc k) v) ≡ suc (length (digits_in k (v / 10)))
one_more k v h = ap length (more_digits k v h) ∙ length-append (digits_in k (v / 10)) ((48 + v % 10) ∷ []) ∙ omega arith

-- how many digits there are, by the powers of ten around the number
pub width_one : (k v : ℕ) → v < 10 → length (digits_in (suc k) v) ≡ 1
width_one k v h = ap length (one_digit k v h)

pub width_more : (j k v : ℕ) → 10 ^ suc j ≤ v → v < 10 ^ suc (suc j) → length (digits_in (suc (suc j) + k) v) ≡ suc (suc j)
width_more zero k v low high =
    let a : 10 ≤ v = omega (arith, pow-suc 10 0) in
    let b : v / 10 < 10 = omega (arith, pow-suc 10 1, pow-suc 10 0) in
    let e : suc (suc zero) + k ≡ suc (suc k) = omega arith in
    rw e (one_more (suc k) v a ∙ ap suc (width_one k (v / 10) b))
width_more (suc j) k v low high =
    let p = pow-suc 10 j in
    let q = pow-suc 10 (suc j) in
    let r = pow-suc 10 (suc (suc j)) in
    let s = one-le-pow j 10 (omega arith) in
    let a : 10 ≤ v = omega arith in
    let b : 10 ^ suc j ≤ v / 10 = omega arith in
    let c : v / 10 < 10 ^ suc (suc j) = omega arith in
    let e : suc (suc (suc j)) + k ≡ suc (suc (suc j) + k) = omega arith in
    rw e (one_more (suc (suc j) + k) v a ∙ ap suc (width_more j k (v / 10) b c))

-- exactly as many digits as there are
pub just_enough : (k v : ℕ) → digits_in (length (digits_in k v)) v ≡ digits_in k v
unfolding digits_in
just_enough zero v = refl
just_enough (suc k) v = go (ltb v 10) refl (just_enough k (v / 10))
  where
    go : (b : Bool) → ltb v 10 ≡ b → digits_in (length (digits_in k (v / 10))) (v / 10) ≡ digits_in k (v / 10)
        → digits_in (length (digits_in (suc k) v)) v ≡ digits_in (suc k) v
    go true e i = let h = ltb-true v 10 e in rw (one_digit k v h) (one_digit 0 v h)
    go false e i =
        let h = ltb-false v 10 e in
        rw (one_more k v h) (more_digits (length (digits_in k (v / 10))) v h ∙ ap (λ (l : List ℕ). l ++ ((48 + v % 10) ∷ [])) i ∙ sym (more_digits k v h))

-- where all digits allowed are used, the last one stands behind those of a tenth
record LastDigit (k v : ℕ) : Type 0 where
  pub split : digits_in (suc k) v ≡ digits_in k (v / 10) ++ ((48 + v % 10) ∷ [])
  pub full : length (digits_in k (v / 10)) ≡ k

last_one : (k v : ℕ) → v < 10 → k ≡ 0 → LastDigit k v
unfolding digits_in
last_one k v l e = rw e (record { split = one_digit 0 v l ∙ rw (mod-eq_of_lt l); full = refl })

last_digit : (k v : ℕ) → length (digits_in (suc k) v) ≡ suc k → LastDigit k v
last_digit k v h = go (ltb v 10) refl
  where
    go : (b : Bool) → ltb v 10 ≡ b → LastDigit k v
    go true e = let l = ltb-true v 10 e in last_one k v l (omega (arith, h, width_one k v l))
    go false e = let l = ltb-false v 10 e in record { split = more_digits k v l; full = omega (arith, h, one_more k v l) }

-- ---- digits written from the last to the first

-- k digits are still to be written, those of what is left of v; the others stand behind the place at + k
pub record Printing (o : List ℕ) (at w v k left : ℕ) (out : List ℕ) : Type 0 where
  pub done : List ℕ
  pub together : digits_in k left ++ done ≡ decimal v
  pub full : length (digits_in k left) ≡ k
  pub room : at + w < length o
  pub within : k ≤ w
  pub holds : out ≡ take (at + k) o ++ (done ++ drop (at + w) o)
  pub long : length out ≡ length o

pub printing_start : (o : List ℕ) (at w v : ℕ) → length (decimal v) ≡ w → at + w < length o → Printing o at w v w v o
unfolding decimal
printing_start o at w v e h =
    let f : digits_in w v ≡ decimal v = rw (← e) (just_enough 20 v) in
    record {
      done = [];
      together = append-nil (digits_in w v) ∙ f;
      full = ap length f ∙ e;
      room = h;
      within = omega arith;
      holds = sym (take-append-drop (at + w) o);
      long = refl;
    }

module _ {o : List ℕ} {at w v k left : ℕ} {out : List ℕ} (a : Printing o at w v (suc k) left out) where
  printing_suc : Printing o at w v k (left / 10) (set out (at + k) (48 + left % 10))
  printing_suc =
      let r = a.room in
      let j : at + suc k ≡ suc (at + k) = omega arith in
      let d = last_digit k left a.full in
      let low : at + k < length o = omega (arith, a.within) in
      let t : take (at + suc k) o ≡ take (at + k) o ++ (get_or o (at + k) 0 ∷ []) = ap (λ (x : ℕ). take x o) j ∙ take-suc o (at + k) 0 low in
      let rest = a.done ++ drop (at + w) o in
      let s : out ≡ take (at + k) o ++ (get_or o (at + k) 0 ∷ rest) = a.holds ∙ ap (λ (l : List ℕ). l ++ rest) t ∙ append_assoc (take (at + k) o) (get_or o (at + k) 0 ∷ []) rest in
      record {
        done = (48 + left % 10) ∷ a.done;
        together =
            sym (append_assoc (digits_in k (left / 10)) ((48 + left % 10) ∷ []) a.done) ∙ ap (λ (l : List ℕ). l ++ a.done) (sym d.split) ∙ a.together;
        full = d.full;
        room = r;
        within = omega (arith, a.within);
        holds =
            ap (λ (l : List ℕ). set l (at + k) (48 + left % 10)) s
            ∙ set_at (take (at + k) o) (get_or o (at + k) 0) rest (48 + left % 10) (at + k) (length-take-le (at + k) o (omega arith));
        long = length-set out (at + k) (48 + left % 10) ∙ a.long;
      }

pub printing_next : {o : List ℕ} {at w v k left : ℕ} {out : List ℕ} → Printing o at w v k left out → 0 < k
    → Printing o at w v (k - 1) (left / 10) (set out (at + (k - 1)) (48 + left % 10))
printing_next {k = zero} a h = absurd (omega arith)
printing_next {k = suc k} a h = let e : suc k - 1 ≡ k = omega arith in rw e (printing_suc a)

-- all digits are written, and behind them stands the byte that was there before
pub printed : (o : List ℕ) (at w v stop : ℕ) {k left : ℕ} {out : List ℕ} → length (decimal v) ≡ w → at + w < length o
    → Printing (set o (at + w) stop) at w v k left out → k ≤ 0 → Put o at (stopped (decimal v) stop) out (at + w + 1)
unfolding digits_in
printed o at w v stop {k} {left} {out} e h b none =
    let z : k ≡ 0 = omega arith in
    let a : Printing (set o (at + w) stop) at w v 0 left out = rw z at b in
    let x = set o (at + w) stop in
    let d : drop (at + w) x ≡ stop ∷ drop (suc (at + w)) o =
    drop-cons x (at + w) 0 (omega (arith, length-set o (at + w) stop))
    ∙ rw (get_or-set_same o (at + w) stop 0 h, drop-set-lt (suc (at + w)) o (at + w) stop (omega arith)) in
    let j : at + w + 1 ≡ suc (at + w) = omega arith in
    let p : out ≡ take at x ++ (decimal v ++ drop (at + w) x) = a.holds ∙ rw (add-zero at, ← a.together) in
    record {
      ends = simp length-append (omega arith);
      fits = omega arith;
      holds = p ∙ rw (take-set-le at o (at + w) stop (omega arith), d, j, append_assoc (decimal v));
    }

-- ---- a number whose width is known, without a loop

-- the last k digits of a number, written before the place at + k
unfoldable pub down_from : ℕ → ℕ → ℕ → List ℕ → List ℕ
down_from zero at left out = out
down_from (suc k) at left out = down_from k at (left / 10) (set out (at + k) (48 + left % 10))

down_printed : (o : List ℕ) (at w v stop k : ℕ) {left : ℕ} {out : List ℕ} → length (decimal v) ≡ w → at + w < length o
    → Printing (set o (at + w) stop) at w v k left out → Put o at (stopped (decimal v) stop) (down_from k at left out) (at + w + 1)
unfolding down_from
down_printed o at w v stop zero e h a = printed o at w v stop e h a (omega arith)
down_printed o at w v stop (suc k) e h a = down_printed o at w v stop k e h (printing_suc a)

pub straight : (w : ℕ) (o : List ℕ) (at v stop : ℕ) → length (decimal v) ≡ w → at + w < length o
    → Put o at (stopped (decimal v) stop) (down_from w at v (set o (at + w) stop)) (at + w + 1)
straight w o at v stop e h = down_printed o at w v stop w e h (printing_start (set o (at + w) stop) at w v e (rw length-set h))
